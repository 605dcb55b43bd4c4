use Rattle.krb_relay.specs.Serving.{Drains}
use Rattle.krb_relay.proofs.rounds.drain_one.Given as goal

abbrev pub invariant-loop : goal.invariant-loop
invariant-loop g l = Drains l.initial.rx l.rx
