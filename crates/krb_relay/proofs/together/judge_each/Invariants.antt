use Rattle.krb_relay.proofs.TogetherLemmas.{JudgedBelow}
use Rattle.krb_relay.proofs.together.judge_each.Given as goal

abbrev pub invariant-loop-lane : goal.invariant-loop-lane
invariant-loop-lane l = JudgedBelow l.lane l.fn.receivings l.waiting l.receivings l.coded l.verdicts
