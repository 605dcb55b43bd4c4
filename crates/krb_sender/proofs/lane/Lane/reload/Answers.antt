use Rattle.std.proofs.Common.{◌≡◌, ◌<◌, ◌≤◌, length, arith, subst, sym}
use Rattle.krb_sender.specs.Lane.{LaneState}
use Rattle.krb_sender.specs.Session.{weight}
use Rattle.krb_sender.proofs.LaneLemmas.{event_lane}
use Rattle.krb_sender.proofs.lane.Lane.reload.Goals as goal

pub invariant_of-self : goal.invariant_of-self
invariant_of-self c =
    let none : weight c.load.result ≡ 0 = c.load.ensures.room in
    let less : weight c.load.result ≤ weight c.index_mut-session.result.now = omega (arith, none) in
    event_lane c.self.inside.sessions.items c.self.inside.queue c.self.inside.times c.note.new.queue c.note.new.times
    c.self.inside.under_way c.self.inside.clock c.args.place c.weight-before.result c.weight.result
    c.index_mut-session.result.now c.load.result
    c.self.invariant (subst (λ (l : LaneState). c.args.place < length l.sessions) (sym c.self.view_is) c.requires.there) c.index_mut-session.ensures.value
    c.weight-before.ensures c.weight.ensures less
    c.note.ensures.length c.note.ensures.queue c.note.ensures.times c.note.ensures.time c.note.ensures.more c.note.ensures.room
