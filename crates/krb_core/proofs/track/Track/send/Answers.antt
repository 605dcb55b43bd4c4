-- A send is the event of the lane, or the lane waits.
use Rattle.std.proofs.Common.{◌+◌, ◌≤◌, ◌<◌, length, subst, arith}
use Rattle.krb_core.specs.declared.turn.Did.TheVariants.{Moved, Waits}
use Rattle.krb_core.specs.Track.{TrackState}
use Rattle.krb_core.proofs.TrackLemmas.{track_at, IsSend, send_moves, send_full, send_over}
use Rattle.krb_core.proofs.track.Track.send.Goals as goal
use Rattle.krb_core.proofs.track.Track.send.Goals.{else-self-len-via-then-self-len+else-self, else-self-len-via-else-self-len}

moved_is : (c : goal.After-self-1) → IsSend c.args.self.now (track_at c.self.inside.wire c.self.inside.capacity (c.self.inside.sent + 1) c.self.inside.taken c.self.inside.receiving.receiver c.self.inside.receiving.nows.items) Moved
moved_is c =
    let old = c.self.inside in
    let wire = old.wire in
    let left : old.sent ≤ length wire = omega arith in
    let now = track_at wire old.capacity (old.sent + 1) old.taken old.receiving.receiver old.receiving.nows.items in
    subst (λ (t : TrackState). IsSend t now Moved) c.self.view_is (send_moves wire old.capacity old.sent old.taken old.receiving.receiver old.receiving.nows.items c.self.invariant.0 left c.if-self.true)

waits_is : (c : goal.Joined-else-self-len) → IsSend c.args.self.now c.args.self.now Waits
waits_is c =
    let old = c.self.inside in
    let wire = old.wire in
    subst (λ (t : TrackState). IsSend t t Waits) c.self.view_is (elim c.else-self-len.branch [
      | else-self-len-via-then-self-len+else-self w ↦ send_full wire old.capacity old.sent old.taken old.receiving.receiver old.receiving.nows.items c.self.invariant.0 w.if-self.false
      | else-self-len-via-else-self-len w ↦
          let over : length wire < old.sent = omega (arith, w.if-self-len.false) in
          send_over wire old.capacity old.sent old.taken old.receiving.receiver old.receiving.nows.items over
    ])

pub returns-then-self-clause-after : goal.returns-then-self-clause-after
returns-then-self-clause-after c = (moved_is c).after

pub returns-then-self-clause-waits : goal.returns-then-self-clause-waits
returns-then-self-clause-waits c = (moved_is c).waits

pub returns-else-self-len-clause-after : goal.returns-else-self-len-clause-after
returns-else-self-len-clause-after c = (waits_is c).after

pub returns-else-self-len-clause-waits : goal.returns-else-self-len-clause-waits
returns-else-self-len-clause-waits c = (waits_is c).waits
