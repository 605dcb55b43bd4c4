-- What was judged was entered.
use Rattle.krb_relay.proofs.TogetherLemmas.{opens_together}
use Rattle.krb_relay.proofs.together.open_together.Goals as goal

pub returns : goal.returns
returns c =
    opens_together c.args.receivings.now c.judge_each-verdicts.new.receivings c.args.waiting.now c.enter_each.new.waiting c.judge_each-verdicts.result c.requires.ready.same c.judge_each-verdicts.ensures.same
    c.judge_each-verdicts.ensures.judged c.enter_each.ensures
