use Rattle.std.proofs.Common.{subst, unwrap_or}
use Rattle.krb_sender.specs.Lane.{LaneState, RoomComes, TurnsEnd}
use Rattle.krb_sender.proofs.LaneLemmas.{room_comes}
use Rattle.krb_sender.proofs.TurnLemmas.{turns_few}
use Rattle.krb_sender.proofs.lane.Lane.laws.Goals as goal

pub returns-clause-room_comes : goal.returns-clause-room_comes
returns-clause-room_comes c =
    let lane : LaneState = record { sessions = c.self.inside.sessions.items; queue = c.self.inside.queue; times = c.self.inside.times; list = c.self.inside.list; under_way = c.self.inside.under_way; clock = c.self.inside.clock } in
    subst RoomComes c.self.view_is (room_comes lane c.self.invariant)

pub returns-clause-turns_end : goal.returns-clause-turns_end
returns-clause-turns_end c =
    let lane : LaneState = record { sessions = c.self.inside.sessions.items; queue = c.self.inside.queue; times = c.self.inside.times; list = c.self.inside.list; under_way = c.self.inside.under_way; clock = c.self.inside.clock } in
    subst TurnsEnd c.self.view_is (turns_few lane.sessions lane.queue lane.times (unwrap_or lane.list 0) lane.clock c.self.invariant.sized)
