use Rattle.krb_relay.specs.Opening.{OpensBelow}
use Rattle.krb_relay.proofs.opening.open_in_turn.Given as goal

abbrev pub invariant-loop-lane : goal.invariant-loop-lane
invariant-loop-lane l = OpensBelow l.lane l.fn.receivings l.fn.waiting l.receivings l.waiting
