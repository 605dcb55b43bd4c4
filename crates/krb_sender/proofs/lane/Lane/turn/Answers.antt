use Rattle.std.proofs.Common.{◌≤◌, ◌<◌, ◌+◌, ◌-◌, ◌^◌, ◌∙◌, sym, unwrap_or, set, arith, refl, subst}
use Rattle.krb_engine.specs.Limits.{under_way_most}
use Rattle.krb_sender.specs.declared.lane.Served.{Served}
use Rattle.krb_sender.specs.Session.{Serves}
use Rattle.krb_sender.specs.Lane.{LaneState, Turns, turns_left, turns_of}
use Rattle.krb_sender.specs.Times.{time_of}
use Rattle.krb_sender.proofs.LaneLemmas.{turn_lane, turn_there}
use Rattle.krb_sender.proofs.TurnLemmas.{look_later, turn_ends}
use Rattle.krb_sender.proofs.lane.Lane.turn.Goals as goal

pub invariant_of-self-2 : goal.invariant_of-self-2
invariant_of-self-2 c =
    let le : c.self.inside.clock ≤ c.max-self-inside.result = omega (arith, c.max-self-inside.ensures) in
    turn_lane c.self.inside.sessions.items c.self.inside.queue c.self.inside.times c.pick.new.queue c.remember.new.queue c.remember.new.times
    c.self.inside.under_way c.self.inside.clock c.max-self-inside.result c.in_ok-place.place c.saturating_sub-room.result c.weight-before.result c.weight.result
    c.serve-turn.result c.index_mut-session.result.now c.listed-is_moved.new.self c.serve-turn.new.self
    c.self.invariant le c.in_ok-place.ensures.there c.index_mut-session.ensures.value c.saturating_sub-room.ensures c.in_ok-place.ensures.others
    c.weight-before.ensures c.weight.ensures c.listed-is_moved.ensures.room c.serve-turn.ensures.does c.serve-turn.ensures.room c.is_idle.ensures.room
    c.remember.ensures.length c.remember.ensures.queue c.remember.ensures.times
    (subst (λ t. time_of c.remember.new.times c.in_ok-place.place ≤ t) c.look_time-at.ensures c.remember.ensures.time)
    (λ is. c.remember.ensures.more (c.has_more-has_more.ensures ∙ is))

pub returns-clause-some : goal.returns-clause-some
returns-clause-some c =
    let lane : LaneState = record { sessions = c.self.inside.sessions.items; queue = c.self.inside.queue; times = c.self.inside.times; list = c.self.inside.list; under_way = c.self.inside.under_way; clock = c.self.inside.clock } in
    let served : Served = record { place = c.in_ok-place.place; is_moved = c.listed-is_moved.result; turn = c.serve-turn.result } in
    let heard : Serves c.listed-is_moved.new.self (under_way_most - c.self.inside.under_way) c.max-self-inside.result c.serve-turn.result c.serve-turn.new.self =
    subst (λ r. Serves c.listed-is_moved.new.self r c.max-self-inside.result c.serve-turn.result c.serve-turn.new.self) c.saturating_sub-room.ensures c.serve-turn.ensures.does in
    let new : LaneState = record { sessions = set c.self.inside.sessions.items c.in_ok-place.place c.serve-turn.new.self; queue = c.remember.new.queue; times = c.remember.new.times; list = c.self.inside.list; under_way = c.self.inside.under_way - c.weight-before.result + c.weight.result; clock = c.max-self-inside.result } in
    subst (λ (l : LaneState). Turns l served new) c.self.view_is (record {
      list = c.in_ok-list.list;
      before = c.index_mut-session.result.now;
      after = c.serve-turn.new.self;
      has_list = c.in_ok-list.was;
      keeps_list = c.in_ok-list.was;
      there = turn_there lane c.in_ok-place.place c.self.invariant c.in_ok-place.ensures.there;
      is_before = c.index_mut-session.ensures.value;
      becomes = refl;
      moved = c.listed-is_moved.ensures.moved;
      serves = subst (λ s. Serves s (under_way_most - c.self.inside.under_way) c.max-self-inside.result c.serve-turn.result c.serve-turn.new.self) c.listed-is_moved.ensures.state heard;
    })

pub returns-clause-ends : goal.returns-clause-ends
returns-clause-ends c =
    let lane : LaneState = record { sessions = c.self.inside.sessions.items; queue = c.self.inside.queue; times = c.self.inside.times; list = c.self.inside.list; under_way = c.self.inside.under_way; clock = c.self.inside.clock } in
    let new : LaneState = record { sessions = set c.self.inside.sessions.items c.in_ok-place.place c.serve-turn.new.self; queue = c.remember.new.queue; times = c.remember.new.times; list = c.self.inside.list; under_way = c.self.inside.under_way - c.weight-before.result + c.weight.result; clock = c.max-self-inside.result } in
    subst (λ (l : LaneState). c.max-self-inside.result < 2 ^ 64 - 1 → turns_left new c.max-self-inside.result < turns_left l c.max-self-inside.result) c.self.view_is
    (λ early.
    let after : c.max-self-inside.result < c.look_time-at.result = subst (λ t. c.max-self-inside.result < t) (sym c.look_time-at.ensures) (look_later c.serve-turn.result c.max-self-inside.result early) in
    subst (λ o. turns_of new.sessions new.queue new.times (unwrap_or o 0) c.max-self-inside.result < turns_of lane.sessions lane.queue lane.times (unwrap_or o 0) c.max-self-inside.result)
    (sym c.in_ok-list.was)
    (turn_ends c.self.inside.sessions.items c.self.inside.queue c.self.inside.times c.pick.new.queue c.remember.new.queue c.remember.new.times
    c.self.inside.under_way c.self.inside.clock c.in_ok-list.list c.max-self-inside.result c.in_ok-place.place c.saturating_sub-room.result
    c.serve-turn.result c.has_more-has_more.result c.index_mut-session.result.now c.listed-is_moved.new.self c.serve-turn.new.self
    c.self.invariant (turn_there lane c.in_ok-place.place c.self.invariant c.in_ok-place.ensures.there) c.index_mut-session.ensures.value c.saturating_sub-room.ensures
    c.listed-is_moved.ensures.state c.listed-is_moved.ensures.room c.serve-turn.ensures.does c.serve-turn.ensures.room c.serve-turn.ensures.order c.serve-turn.ensures.paced
    c.in_ok-place.ensures.picked c.has_more-has_more.ensures c.remember.ensures.short c.remember.ensures.set (c.remember.ensures.later early after)))
