use Rattle.std.proofs.Common.{◌<◌, length, subst, sym}
use Rattle.krb_sender.specs.Lane.{LaneState}
use Rattle.krb_sender.proofs.LaneLemmas.{event_lane}
use Rattle.krb_sender.proofs.lane.Lane.sealed.Goals as goal

pub invariant_of-self : goal.invariant_of-self
invariant_of-self c =
    event_lane c.self.inside.sessions.items c.self.inside.queue c.self.inside.times c.note.new.queue c.note.new.times
    c.self.inside.under_way c.self.inside.clock c.args.place c.weight-before.result c.weight.result
    c.index_mut-session.result.now c.sealed-fits.new.self
    c.self.invariant (subst (λ (l : LaneState). c.args.place < length l.sessions) (sym c.self.view_is) c.requires) c.index_mut-session.ensures.value
    c.weight-before.ensures c.weight.ensures c.sealed-fits.ensures.room
    c.note.ensures.length c.note.ensures.queue c.note.ensures.times c.note.ensures.time c.note.ensures.more c.note.ensures.room
