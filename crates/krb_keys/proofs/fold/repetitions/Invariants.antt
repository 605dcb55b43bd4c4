use Rattle.std.proofs.Common.{◌≡◌, ◌+◌, ◌-◌}
use Rattle.krb_keys.specs.Nfold.{lcm}
use Rattle.krb_keys.proofs.LcmLemmas.{least_from}
use Rattle.krb_keys.proofs.fold.repetitions.Given as goal

-- no multiple before the m-th will do
abbrev pub invariant-loop-m : goal.invariant-loop-m
invariant-loop-m l = lcm l.len l.n ≡ least_from l.len l.n l.m (l.n + 1 - l.m)
