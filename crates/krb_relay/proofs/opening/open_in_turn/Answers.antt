-- A lane more.
use Rattle.std.proofs.Common.{arith}
use Rattle.krb_relay.proofs.OpeningLemmas.{opens_first, opens_next, opens_all}
use Rattle.krb_relay.proofs.opening.open_in_turn.Goals as goal

pub loop-lane-init : goal.loop-lane-init
loop-lane-init c = opens_first _ _

pub loop-lane-preserved : goal.loop-lane-preserved
loop-lane-preserved c =
    opens_next c.loop-lane.lane c.args.receivings.now c.loop-lane.receivings c.args.waiting.now c.loop-lane.waiting c.index-receivings-lane.result c.index-waiting-lane.result
    c.open_lane.new.receiving c.open_lane.new.waiting c.requires.same c.loop-lane-test.true c.loop-lane.invariant c.open_lane.ensures

pub returns : goal.returns
returns c = opens_all c.loop-lane.lane _ _ _ _ c.loop-lane.invariant (omega arith)
