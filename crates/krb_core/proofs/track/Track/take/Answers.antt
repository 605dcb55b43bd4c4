-- A take is the event of the lane, and what a verdict or the end leaves.
use Rattle.std.proofs.Common.{◌≡◌, ◌+◌, ◌<◌, ◌≤◌, length, ap, subst, ◌∙◌, arith}
use Rattle.std.proofs.lemmas.Option.{slice_get_past}
use Rattle.krb_core.specs.Track.{TrackState, after_take, log_after, LogsFront, HasFrameFirst}
use Rattle.krb_core.proofs.SteppedLemmas.{on_err}
use Rattle.krb_core.proofs.TrackLemmas.{track_at, frame_first, take_frame, take_end, take_logs, end_logs}
use Rattle.krb_core.proofs.track.Track.take.Goals as goal
use Rattle.krb_core.proofs.track.Track.take.Goals.{then-self-len+in_ok-frame+in_ok-take_into, else-self-len}

pub returns-clause-after : goal.returns-clause-after
returns-clause-after c =
    let old = c.self.inside in
    let wire = old.wire in
    let nows = old.receiving.nows.items in
    let places = c.self.invariant.0 in
    let within = places.taken_sent in
    let queued : old.taken < old.sent = omega (arith, c.if-self.false) in
    elim c.if-self-len.branch [
      | then-self-len+in_ok-frame+in_ok-take_into w ↦
          let frame = w.in_ok-frame.frame.items in
          let now = w.take_into.new.self in
          let is = take_frame wire old.capacity old.sent old.taken old.receiving.receiver nows c.args.log.now w.take_into.new.log c.args.lane frame now.receiver places queued w.in_ok-frame.ensures
          (rw w.as_slice.ensures.value at w.in_ok-take_into.ensures.receiver)
          (rw w.as_slice.ensures.value at w.in_ok-take_into.ensures.log) in
          let P : TrackState → Type 0 = λ t. track_at wire old.capacity old.sent (old.taken + 1) now.receiver nows ≡ after_take t in
          rw w.self-inside-is (ap (λ n. track_at wire old.capacity old.sent (old.taken + 1) now.receiver n.items) w.take_into.ensures.nows ∙ subst P c.self.view_is is.after)
      | else-self-len w ↦
          let over : length wire ≤ old.taken = omega (arith, w.if-self-len.false) in
          let is = take_end wire old.capacity old.sent old.taken old.receiving.receiver nows c.args.log.now w.end.new.self c.args.lane places queued (slice_get_past wire old.taken over) w.end.ensures in
          let P : TrackState → Type 0 = λ t. track_at wire old.capacity old.sent (old.taken + 1) old.receiving.receiver nows ≡ after_take t in
          rw w.self-inside-is (subst P c.self.view_is is.after)
    ]

pub returns-clause-log : goal.returns-clause-log
returns-clause-log c =
    let old = c.self.inside in
    let wire = old.wire in
    let nows = old.receiving.nows.items in
    let places = c.self.invariant.0 in
    let within = places.taken_sent in
    let queued : old.taken < old.sent = omega (arith, c.if-self.false) in
    elim c.if-self-len.branch [
      | then-self-len+in_ok-frame+in_ok-take_into w ↦
          let frame = w.in_ok-frame.frame.items in
          let is = take_frame wire old.capacity old.sent old.taken old.receiving.receiver nows c.args.log.now w.take_into.new.log c.args.lane frame w.take_into.new.self.receiver places queued w.in_ok-frame.ensures
          (rw w.as_slice.ensures.value at w.in_ok-take_into.ensures.receiver)
          (rw w.as_slice.ensures.value at w.in_ok-take_into.ensures.log) in
          let P : TrackState → Type 0 = λ t. w.take_into.new.log ≡ log_after c.args.log.now c.args.lane t in
          w.log-is ∙ subst P c.self.view_is is.log_is
      | else-self-len w ↦
          let over : length wire ≤ old.taken = omega (arith, w.if-self-len.false) in
          let is = take_end wire old.capacity old.sent old.taken old.receiving.receiver nows c.args.log.now w.end.new.self c.args.lane places queued (slice_get_past wire old.taken over) w.end.ensures in
          let P : TrackState → Type 0 = λ t. w.end.new.self ≡ log_after c.args.log.now c.args.lane t in
          w.log-is ∙ subst P c.self.view_is is.log_is
    ]

pub returns-clause-logged : goal.returns-clause-logged
returns-clause-logged c =
    let old = c.self.inside in
    let wire = old.wire in
    let nows = old.receiving.nows.items in
    let places = c.self.invariant.0 in
    let queued : old.taken < old.sent = (let within = places.taken_sent in omega (arith, c.if-self.false)) in
    elim c.if-self-len.branch [
      | then-self-len+in_ok-frame+in_ok-take_into w ↦
          let frame = w.in_ok-frame.frame.items in
          let now = w.take_into.new.self in
          let is = take_logs wire old.capacity old.sent old.taken old.receiving.receiver nows c.args.log.now w.take_into.new.log c.args.lane frame now.receiver places queued w.in_ok-frame.ensures
          (rw w.as_slice.ensures.value at w.in_ok-take_into.ensures.logged) in
          let P : TrackState → Type 0 = λ t. LogsFront c.args.lane t c.args.log.now (track_at wire old.capacity old.sent (old.taken + 1) now.receiver nows) w.take_into.new.log in
          rw (w.self-inside-is, w.log-is) (subst P c.self.view_is is)
      | else-self-len w ↦
          let over : length wire ≤ old.taken = omega (arith, w.if-self-len.false) in
          let is = end_logs wire old.capacity old.sent old.taken old.receiving.receiver nows c.args.log.now w.end.new.self c.args.lane places queued (slice_get_past wire old.taken over) in
          let P : TrackState → Type 0 = λ t. LogsFront c.args.lane t c.args.log.now (track_at wire old.capacity old.sent (old.taken + 1) old.receiving.receiver nows) w.end.new.self in
          rw (w.self-inside-is, w.log-is) (subst P c.self.view_is is)
    ]

pub returns-in_err-frame-clause-memory : goal.returns-in_err-frame-clause-memory
returns-in_err-frame-clause-memory c =
    let old = c.self.inside in
    let places = c.self.invariant.0 in
    let before = places.taken_sent in
    let queued : old.taken < old.sent = omega (arith, c.if-self.false) in
    let within : old.taken < length old.wire = omega (arith, c.if-self-len.true) in
    let P : TrackState → Type 0 = λ t. HasFrameFirst t in
    on_err _ c.from_residual.result (subst P c.self.view_is (frame_first old.wire old.capacity old.sent old.taken old.receiving.receiver old.receiving.nows.items places queued within))

pub returns-in_err-take_into-clause-memory : goal.returns-in_err-take_into-clause-memory
returns-in_err-take_into-clause-memory c =
    let old = c.self.inside in
    let places = c.self.invariant.0 in
    let before = places.taken_sent in
    let queued : old.taken < old.sent = omega (arith, c.if-self.false) in
    let within : old.taken < length old.wire = omega (arith, c.if-self-len.true) in
    let P : TrackState → Type 0 = λ t. HasFrameFirst t in
    on_err _ c.from_residual-in_err-take_into.result (subst P c.self.view_is (frame_first old.wire old.capacity old.sent old.taken old.receiving.receiver old.receiving.nows.items places queued within))
