use Rattle.krb_commands.proofs.PlainLemmas.{opened_more}
use Rattle.krb_commands.proofs.plain.outcomes_of.Goals as goal

pub loop-place-preserved : goal.loop-place-preserved
loop-place-preserved c =
    let receiving = c.args.receiving.now in
    let opens = rw (c.opener-opener.ensures, c.as_slice.ensures) at c.in_ok-outcome.ensures.opens in
    rw c.in_ok-push.ensures.items
    (opened_more receiving.receiver.opener receiving.nows.items receiving.receiver.demand.expected c.args.frames.now c.loop-place.place
    c.loop-place.outcomes.items _ c.loop-place.invariant c.index-frames-place.result _ _ _
    c.loop-place-test.true c.index-frames-place.is c.moment_at-now.ensures opens c.number_after-number.ensures)
