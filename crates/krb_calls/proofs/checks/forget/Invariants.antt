use Rattle.std.proofs.Common.{◌≡◌, map, replicate, take}
use Rattle.krb_calls.specs.Unsealed.{confounder_of}
use Rattle.krb_calls.proofs.checks.forget.Given as goal

abbrev pub invariant-loop-index : goal.invariant-loop-index
invariant-loop-index l = map confounder_of (take l.index l.all) ≡ replicate l.index (replicate 16 0)
