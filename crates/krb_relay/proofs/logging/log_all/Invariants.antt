use Rattle.krb_relay.specs.Waiting.{GoesOn}
use Rattle.krb_relay.proofs.logging.log_all.Given as goal

abbrev pub invariant-loop : goal.invariant-loop
invariant-loop g l = GoesOn 0 0 l.fn.waiting l.fn.log l.waiting l.log
