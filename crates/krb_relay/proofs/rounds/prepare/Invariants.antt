use Rattle.std.proofs.Common.{◌≡◌}
use Rattle.krb_relay.proofs.rounds.prepare.Given as goal

abbrev pub invariant-loop-lane : goal.invariant-loop-lane
invariant-loop-lane l = l.receivings ≡ l.fn.receivings
