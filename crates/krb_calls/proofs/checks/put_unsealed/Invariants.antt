use Rattle.std.proofs.Common.{◌≡◌, take}
use Rattle.std.specs.Prelude.{map}
use Rattle.krb_calls.specs.Unsealed.{unsealed_of}
use Rattle.krb_calls.proofs.checks.put_unsealed.Given as goal

abbrev pub invariant-loop-index : goal.invariant-loop-index
invariant-loop-index l = take l.index l.all ≡ map unsealed_of (take l.index l.messages)
