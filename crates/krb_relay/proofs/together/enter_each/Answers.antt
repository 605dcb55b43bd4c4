-- A lane more.
use Rattle.std.proofs.Common.{◌+◌, set, get_or, Option, sym, subst, arith}
use Rattle.krb_peers.specs.Verdicts.{Verdict}
use Rattle.krb_relay.specs.Opening.{Enters}
use Rattle.krb_relay.proofs.TogetherLemmas.{EnteredBelow, entered_first, entered_next}
use Rattle.krb_relay.proofs.together.enter_each.Goals as goal

pub loop-lane-init : goal.loop-lane-init
loop-lane-init c = entered_first c.args.waiting.now c.args.verdicts c.requires.size

pub loop-lane-preserved : goal.loop-lane-preserved
loop-lane-preserved c =
    let P : Option Verdict → Type 0 =
    λ o. EnteredBelow (c.loop-lane.lane + 1) c.args.waiting.now c.args.verdicts (set c.loop-lane.waiting c.loop-lane.lane c.enter.new.waiting) (set c.loop-lane.verdicts c.loop-lane.lane o) in
    let Q : Option Verdict → Type 0 = λ o. Enters (get_or c.loop-lane.waiting c.loop-lane.lane c.index-waiting-lane.result) o c.enter.new.waiting in
    let n = c.loop-lane.invariant.lanes in
    subst P (sym c.take.ensures.after)
    (entered_next c.loop-lane.lane c.args.waiting.now c.args.verdicts c.loop-lane.waiting c.loop-lane.verdicts c.index-waiting-lane.result c.enter.new.waiting c.index-verdicts-lane.result
    (omega (arith, n)) c.requires.few c.loop-lane.invariant (subst Q c.take.ensures.value c.enter.ensures))
