use Rattle.krb_relay.specs.Waiting.{GoesOn}
use Rattle.krb_relay.proofs.logging.log_round.Given as goal

abbrev pub invariant-loop-lane : goal.invariant-loop-lane
invariant-loop-lane l = GoesOn 0 l.lane l.fn.waiting l.fn.log l.waiting l.log
