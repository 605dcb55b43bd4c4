use Rattle.krb_relay.proofs.TogetherLemmas.{EnteredBelow}
use Rattle.krb_relay.proofs.together.enter_each.Given as goal

abbrev pub invariant-loop-lane : goal.invariant-loop-lane
invariant-loop-lane l = EnteredBelow l.lane l.fn.waiting l.fn.verdicts l.waiting l.verdicts
