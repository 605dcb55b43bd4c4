-- A turn, among the ends and receivers of all lanes.
use Rattle.std.proofs.Common.{arith}
use Rattle.krb_relay.proofs.EndsLemmas.{same_lanes}
use Rattle.krb_relay.proofs.StandsLemmas.{lane_below, lane_small, shut_here, moments_here, turned, stopped}
use Rattle.krb_relay.proofs.rounds.turn_at.Goals as goal

pub overflow_cast-number : goal.overflow_cast-number
overflow_cast-number g c = let small = lane_small _ _ _ _ _ c.requires.stands c.requires.there in omega (arith, small)

pub turn-requires-clause-lane : goal.turn-requires-clause-lane
turn-requires-clause-lane g c = lane_below _ _ _ _ _ c.requires.stands c.requires.there

pub turn-requires-clause-shut : goal.turn-requires-clause-shut
turn-requires-clause-shut g c = shut_here _ _ _ _ _ c.requires.stands c.requires.there c.index-ends-lane.result _

pub turn-requires-clause-moments : goal.turn-requires-clause-moments
turn-requires-clause-moments g c = moments_here _ _ _ _ _ c.requires.stands c.requires.there c.index-ends-lane.result _

pub returns-in-Ok-clause-ok : goal.returns-in-Ok-clause-ok
returns-in-Ok-clause-ok g c = turned _ _ _ _ _ c.requires.stands c.requires.there _ _ _ _ _ c.in-Ok.ensures.ok

pub returns-in-Ok-clause-same : goal.returns-in-Ok-clause-same
returns-in-Ok-clause-same g c = same_lanes c.args.ends.now c.args.lane _ c.turn.new.rx c.turn.ensures.same

pub returns-in-Err-clause-err : goal.returns-in-Err-clause-err
returns-in-Err-clause-err g c =
    let e = c.in-Err.ensures.err in
    stopped _ _ _ _ _ c.requires.stands c.requires.there _ _ _ e.0 e.1

pub returns-in-Err-clause-same : goal.returns-in-Err-clause-same
returns-in-Err-clause-same g c = same_lanes c.args.ends.now c.args.lane _ c.turn.new.rx c.turn.ensures.same
