-- What turns leave of each lane.
use Rattle.std.proofs.Common.{◌≡◌, ◌≢◌, ℕ, zero, suc, ◌+◌, ◌≤◌, ◌<◌, not, cond, nat_lt, Bool, true, false, List, [], ◌∷◌, ◌++◌, length, get_or, take, replicate, slice_get, Option, Some, None, inl, inr, refl, sym, ap, ap₂, subst, ◌∙◌, arith, append-nil, length-append}
use Rattle.std.proofs.lemmas.List.{length-set, get_or-set_same, get_or-set_other, length-replicate}
use Rattle.std.proofs.lemmas.Bool.{and_parts, lt-ltb, not-true}
use Rattle.std.proofs.lemmas.Bool.Decides.{leb_tells}
use Rattle.std.proofs.lemmas.Option.{slice_get_within}
use Rattle.krb_base.specs.Bytes.{AreBytes}
use Rattle.krb_base.specs.Lane.{Item, Lane, Frame, End, has_end, frames, is_possible, moved, taken}
use Rattle.krb_base.specs.Lane as machine
use Rattle.krb_base.proofs.LaneLemmas.{IsState, frames-append, has_end-append, after_end, state_empty, state_event, state_moved}
use Rattle.krb_peers.specs.declared.sending.Sent.{Sent}
use Rattle.krb_core.specs.declared.turn.Turn.{Turn}
use Rattle.krb_core.specs.declared.turn.Turn.TheVariants.{Send, Take}
use Rattle.krb_peers.specs.Log.{ended_at, new_log}
use Rattle.krb_peers.specs.LogState.{LogState}
use Rattle.krb_peers.specs.ReceiverState.{ReceiverState}
use Rattle.krb_peers.specs.Receiver.{receiver_after}
use Rattle.krb_peers.specs.Moments.{moment_at}
use Rattle.krb_peers.specs.Order.{demand_after}
use Rattle.krb_peers.specs.Verdicts.{Verdict, AllBytes, IsVerdict, records_of}
use Rattle.krb_core.specs.Track.{TrackState, item_at, next_send, after_send, verdict_now, receiver_then, after_take, log_then, log_after}
use Rattle.krb_peers.specs.Receiver.{verdict_by}
use Rattle.krb_peers.specs.Logged.{noted}
use Rattle.krb_core.specs.TrackPlaces.{items_of}
use Rattle.krb_peers.specs.Ends.{Ends}
use Rattle.krb_peers.specs.Wire.{IsWire}
use Rattle.krb_core.specs.Start.{fresh, IsBegun, AreBegun}
use Rattle.krb_core.specs.Stepped.{Relay, lane_of, track_after, log_then_turn, turned_at, turned, after}
use Rattle.krb_peers.specs.Log.{has_ended}
use Rattle.krb_core.specs.Relayed.{HasBegun, HasTurned, IsLogged}
use Rattle.krb_peers.proofs.VerdictLemmas.{right_verdict}
use Rattle.krb_core.proofs.TrackLemmas.{take-item, with_end}
use Rattle.krb_core.proofs.StartLemmas.{AreBegun-length}
use Rattle.krb_peers.proofs.LoggedLemmas.{logged_none, logged_more, logged_beside}
use Rattle.krb_core.proofs.SteppedLemmas.{same, other, read_set}

-- ---- frames and items

pub frames-take : (wire : List (List ℕ)) (n : ℕ) → frames (take n (items_of wire)) ≡ take n wire
frames-take wire zero = refl
frames-take [] (suc zero) = refl
frames-take [] (suc (suc n)) = refl
frames-take (f ∷ wire) (suc n) = ap (λ l. f ∷ l) (frames-take wire n)

-- as many frames as items, where End is not among them
all_frames : (items : List (Item (List ℕ))) → has_end items ≡ false → length items ≡ length (frames items)
all_frames [] off = refl
all_frames (Frame f ∷ items) off = ap suc (all_frames items off)
all_frames (End ∷ items) off = absurd (let e = off in cc)

bytes_of_front : (some others : List (List ℕ)) (frame : List ℕ) → AllBytes (some ++ frame ∷ others) → AreBytes frame
bytes_of_front [] others frame all = all.0
bytes_of_front (f ∷ some) others frame all = bytes_of_front some others frame all.1

pub bytes_of_taken : (n : ℕ) (wire : List (List ℕ)) → AllBytes wire → AllBytes (take n wire)
bytes_of_taken zero wire all = tt
bytes_of_taken (suc n) [] all = tt
bytes_of_taken (suc n) (f ∷ wire) all = (all.0, bytes_of_taken n wire all.1)

-- before End, a place of the wire is left
place_left : (wire : List (List ℕ)) (n : ℕ) → has_end (take n (items_of wire)) ≡ false → n ≤ length wire
place_left wire n off =
    elim (leb_tells (suc (length wire)) n) [
      | inl h ↦ absurd (let e : true ≡ false = sym (with_end wire n (let l = h.1 in omega arith)) ∙ off in cc)
      | inr h ↦ let l = h.1 in omega arith
    ]

-- ---- one lane

-- a lane of a relay that was turned
pub record Stands (ends : Ends) (lane : ℕ) (track : TrackState) (log : LogState) : Type 0 where
  pub emits : IsWire ends.source track.wire
  pub moments : track.nows ≡ ends.nows
  pub state : IsState track.lane
  pub sent : track.lane.sent ≡ take (length track.lane.sent) (items_of track.wire)
  pub verdicts : List Verdict
  pub logged : IsLogged ends lane (frames track.lane.got) log track.receiver verdicts
  pub room : lane < length log.ended
  pub ended : has_ended lane log ≡ has_end track.lane.got

-- before what is queued, nothing that was got is End
got_no_end : (lane : Lane (List ℕ)) (x : Item (List ℕ)) (rest : List (Item (List ℕ))) → IsState lane → lane.queue ≡ x ∷ rest → has_end lane.got ≡ false
got_no_end lane x rest state is = by_end (has_end lane.got) refl
  where
    by_end : (b : Bool) → has_end lane.got ≡ b → b ≡ false
    by_end false e = refl
    by_end true e =
        let none : lane.queue ≡ [] = after_end lane.got lane.queue (subst (λ (l : List (Item (List ℕ))). machine.IsEndLast l) state.linked state.end_last) e in
        absurd (let f : [] ≡ x ∷ rest = sym none ∙ is in cc)

-- a take of what is queued
take_event : (lane : Lane (List ℕ)) (queue : List (Item (List ℕ))) → cond (nat_lt 0 (length queue)) (taken lane queue) lane ≡ taken lane queue
take_event lane [] = refl
take_event lane (x ∷ queue) = rw (lt-ltb 0 (suc (length queue)) (omega arith)) refl

state_taken : (lane : Lane (List ℕ)) (queue : List (Item (List ℕ))) → lane.queue ≡ queue → IsState lane → IsState (taken lane queue)
state_taken lane queue is h = subst IsState (take_event lane lane.queue ∙ ap (λ q. taken lane q) is) (state_event lane machine.Take h)

-- the receiver of a lane demand_after these verdicts
abbrev receiver_of : Ends → List Verdict → ReceiverState
receiver_of ends verdicts = record ends.receiver { demand = demand_after ends.receiver.demand (records_of verdicts) }

module _ (ends : Ends) (lane : ℕ) (track : TrackState) (log : LogState) (h : Stands ends lane track log) where
  -- a frame at the front of the queue is bytes
  queued_bytes : (frame : List ℕ) (rest : List (Item (List ℕ))) → track.lane.queue ≡ Frame frame ∷ rest → AreBytes frame
  queued_bytes frame rest is =
      let n = length track.lane.sent in
      let parts : take n track.wire ≡ frames track.lane.got ++ frame ∷ frames rest =
      sym (ap frames h.sent ∙ frames-take track.wire n)
      ∙ (ap frames (h.state.linked ∙ ap (λ q. track.lane.got ++ q) is) ∙ frames-append track.lane.got (Frame frame ∷ rest)) in
      bytes_of_front (frames track.lane.got) (frames rest) frame (subst AllBytes parts (bytes_of_taken n track.wire h.emits.bytes))

  -- and its verdict is the one that is due
  queued_verdict : (frame : List ℕ) (rest : List (Item (List ℕ))) → track.lane.queue ≡ Frame frame ∷ rest
      → IsVerdict ends.receiver.opener (demand_after ends.receiver.demand (records_of h.verdicts)) (moment_at ends.nows (0 + length (frames track.lane.got))) frame (verdict_now track frame)
  unfolding verdict_by
  queued_verdict frame rest is =
      let opener = ends.receiver.opener in
      let demand = demand_after ends.receiver.demand (records_of h.verdicts) in
      let took = frames track.lane.got in
      let now = moment_at ends.nows (0 + length took) in
      let count : 0 + length took ≡ length track.lane.got = omega (arith, all_frames track.lane.got (got_no_end track.lane (Frame frame) rest h.state is)) in
      let now_is : now ≡ moment_at track.nows (length track.lane.got) = ap₂ (λ ns n. moment_at ns n) (sym h.moments) count in
      let due : IsVerdict opener demand now frame (verdict_by (receiver_of ends h.verdicts) now frame) = right_verdict opener demand now frame (queued_bytes frame rest is) in
      let P : ReceiverState → Type 0 = λ r. IsVerdict opener demand now frame (verdict_by r now frame) in
      let Q : ℕ → Type 0 = λ m. IsVerdict opener demand now frame (verdict_by track.receiver m frame) in
      subst Q now_is (subst P (sym h.logged.receiver_is) due)

  frame_taken : (frame : List ℕ) (rest : List (Item (List ℕ))) → track.lane.queue ≡ Frame frame ∷ rest
      → Stands ends lane (record track { lane = taken track.lane (Frame frame ∷ rest); receiver = receiver_after track.receiver (verdict_now track frame) }) (noted log lane (verdict_now track frame))
  frame_taken frame rest is =
      let v = verdict_now track frame in
      let got = track.lane.got in
      let took = frames got in
      let off = got_no_end track.lane (Frame frame) rest h.state is in
      let more : took ++ frame ∷ [] ≡ frames (got ++ Frame frame ∷ []) = sym (frames-append got (Frame frame ∷ [])) in
      let P : List (List ℕ) → Type 0 = λ fs. IsLogged ends lane fs (noted log lane v) (receiver_after track.receiver v) (h.verdicts ++ v ∷ []) in
      record {
        emits = h.emits;
        moments = h.moments;
        state = state_taken track.lane (Frame frame ∷ rest) is h.state;
        sent = h.sent;
        verdicts = h.verdicts ++ v ∷ [];
        logged = subst P more (logged_more ends.receiver ends.nows lane took log track.receiver h.verdicts frame v h.logged (queued_verdict frame rest is));
        room = h.room;
        ended = h.ended ∙ (off ∙ sym (has_end-append got (Frame frame ∷ []) off));
      }

  end_taken : (rest : List (Item (List ℕ))) → track.lane.queue ≡ End ∷ rest → Stands ends lane (record track { lane = taken track.lane (End ∷ rest) }) (ended_at log lane)
  end_taken rest is =
      let got = track.lane.got in
      let off = got_no_end track.lane End rest h.state is in
      let same : frames got ≡ frames (got ++ End ∷ []) = sym (frames-append got (End ∷ []) ∙ append-nil (frames got)) in
      let P : List (List ℕ) → Type 0 = λ fs. IsLogged ends lane fs (ended_at log lane) track.receiver h.verdicts in
      record {
        emits = h.emits;
        moments = h.moments;
        state = state_taken track.lane (End ∷ rest) is h.state;
        sent = h.sent;
        verdicts = h.verdicts;
        logged = subst P same (record { judged = h.logged.judged; entries = h.logged.entries; receiver_is = h.logged.receiver_is });
        room = (let e = length-set log.ended lane true in let r = h.room in omega (arith, e, r));
        ended = get_or-set_same log.ended lane true false h.room ∙ sym (has_end-append got (End ∷ []) off);
      }

  -- whatever is queued
  queue_taken : (queue : List (Item (List ℕ))) → track.lane.queue ≡ queue
      → Stands ends lane (record track { lane = taken track.lane queue; receiver = receiver_then track queue }) (log_then log lane track queue)
  queue_taken [] is = h
  queue_taken (Frame frame ∷ rest) is = frame_taken frame rest is
  queue_taken (End ∷ rest) is = end_taken rest is

  -- a take, and a send
  stands_taken : Stands ends lane (after_take track) (log_after log lane track)
  stands_taken =
      let P : Lane (List ℕ) → Type 0 = λ l. Stands ends lane (record track { lane = l; receiver = receiver_then track track.lane.queue }) (log_after log lane track) in
      subst P (sym (take_event track.lane track.lane.queue)) (queue_taken track.lane.queue refl)

  sent_by : (may : Bool) → is_possible track.lane (next_send track) ≡ may → Stands ends lane (record track { lane = cond may (moved track.lane (next_send track)) track.lane }) log
  sent_by false is = h
  sent_by true is =
      let sent = track.lane.sent in
      let n = length sent in
      let items = items_of track.wire in
      let x = item_at track.wire n in
      let no_end : has_end sent ≡ false = not-true (has_end sent) (and_parts (nat_lt (length track.lane.queue) track.lane.capacity) (not (has_end sent)) is).1 in
      let left : n ≤ length track.wire = place_left track.wire n (ap has_end (sym h.sent) ∙ no_end) in
      let count : length (sent ++ x ∷ []) ≡ n + 1 = length-append sent (x ∷ []) in
      record {
        emits = h.emits;
        moments = h.moments;
        state = state_moved track.lane (next_send track) is h.state;
        sent = ap (λ l. l ++ x ∷ []) h.sent ∙ (sym (take-item track.wire n left) ∙ ap (λ k. take k items) (sym count));
        verdicts = h.verdicts;
        logged = h.logged;
        room = h.room;
        ended = h.ended;
      }

  stands_sent : Stands ends lane (after_send track) log
  stands_sent = sent_by (is_possible track.lane (next_send track)) refl

  stands_turned : (turn : Turn) → lane ≡ lane_of turn → Stands ends lane (track_after turn track) (log_then_turn turn track log)
  stands_turned (Send number) is = stands_sent
  stands_turned (Take number) is = subst (λ (n : ℕ). Stands ends lane (after_take track) (log_after log n track)) is stands_taken

  -- ---- a turn of another lane

  beside_noted : (number : ℕ) (v : Verdict) → number ≢ lane → Stands ends lane track (noted log number v)
  beside_noted number v apart =
      record {
        emits = h.emits;
        moments = h.moments;
        state = h.state;
        sent = h.sent;
        verdicts = h.verdicts;
        logged = logged_beside ends.receiver ends.nows lane number (frames track.lane.got) log track.receiver h.verdicts v apart h.logged;
        room = h.room;
        ended = h.ended;
      }

  beside_ended : (number : ℕ) → number ≢ lane → Stands ends lane track (ended_at log number)
  beside_ended number apart =
      let l = h.logged in
      record {
        emits = h.emits;
        moments = h.moments;
        state = h.state;
        sent = h.sent;
        verdicts = h.verdicts;
        logged = record { judged = l.judged; entries = l.entries; receiver_is = l.receiver_is };
        room = (let e = length-set log.ended number true in let r = h.room in omega (arith, e, r));
        ended = get_or-set_other log.ended number lane true false (λ e. apart (sym e)) ∙ h.ended;
      }

  beside_taken : (number : ℕ) (old : TrackState) (queue : List (Item (List ℕ))) → number ≢ lane → Stands ends lane track (log_then log number old queue)
  beside_taken number old [] apart = h
  beside_taken number old (Frame frame ∷ queue) apart = beside_noted number (verdict_now old frame) apart
  beside_taken number old (End ∷ queue) apart = beside_ended number apart

  stands_beside : (turn : Turn) (old : TrackState) → lane_of turn ≢ lane → Stands ends lane track (log_then_turn turn old log)
  stands_beside (Send number) old apart = h
  stands_beside (Take number) old apart = beside_taken number old old.lane.queue apart

-- ---- all lanes

pub record AllStand (lanes : List Ends) (relay : Relay) : Type 0 where
  pub count : length relay.tracks ≡ length lanes
  pub each :
      (lane : ℕ) (ends : Ends) (track : TrackState) → slice_get lanes lane ≡ Some ends → slice_get relay.tracks lane ≡ Some track
      → Stands ends lane track relay.log

stand_at : (lanes : List Ends) (relay : Relay) (turn : Turn) (found : Option TrackState) → slice_get relay.tracks (lane_of turn) ≡ found → AllStand lanes relay → AllStand lanes (turned_at relay turn found)
stand_at lanes relay turn None at h = h
stand_at lanes relay turn (Some old) at h = record {
  count = length-set relay.tracks (lane_of turn) (track_after turn old) ∙ h.count;
  each = λ lane ends track at-e at-t. elim (read_set relay.tracks (lane_of turn) lane (track_after turn old) track at-t) [
    | same e f ↦
        let was : slice_get relay.tracks lane ≡ Some old = ap (λ k. slice_get relay.tracks k) e ∙ at in
        let P : TrackState → Type 0 = λ t. Stands ends lane t (log_then_turn turn old relay.log) in
        subst P (sym f) (stands_turned ends lane old relay.log (h.each lane ends old at-e was) turn e)
    | other e f ↦ stands_beside ends lane track relay.log (h.each lane ends track at-e f) turn old e
  ];
}

stand_turned : (lanes : List Ends) (relay : Relay) (turn : Turn) → AllStand lanes relay → AllStand lanes (turned relay turn)
stand_turned lanes relay turn h = stand_at lanes relay turn (slice_get relay.tracks (lane_of turn)) refl h

stand_after : (lanes : List Ends) (relay : Relay) (turns : List Turn) → AllStand lanes relay → AllStand lanes (after relay turns)
stand_after lanes relay [] h = h
stand_after lanes relay (turn ∷ turns) h = stand_after lanes (turned relay turn) turns (stand_turned lanes relay turn h)

-- ---- before the first turn

pub begun_at : (capacity : ℕ) (lanes : List Ends) (tracks : List TrackState) (sents : List Sent) → AreBegun capacity lanes tracks sents
    → (lane : ℕ) (ends : Ends) (track : TrackState) → slice_get lanes lane ≡ Some ends → slice_get tracks lane ≡ Some track → (sent : Sent) × IsBegun ends capacity track sent
begun_at capacity [] tracks sents h lane ends track at-e at-t = absurd (let e = at-e in cc)
begun_at capacity (e ∷ es) [] sents h lane ends track at-e at-t = absurd (let e = at-t in cc)
begun_at capacity (e ∷ es) (t ∷ ts) [] h lane ends track at-e at-t = absurd h
begun_at capacity (e ∷ es) (t ∷ ts) (s ∷ ss) h zero ends track at-e at-t =
    let same-e : e ≡ ends = cc in
    let same-t : t ≡ track = cc in
    let P : TrackState → Type 0 = λ x. IsBegun ends capacity x s in
    let Q : Ends → Type 0 = λ x. IsBegun x capacity t s in
    (s, subst P same-t (subst Q same-e h.0))
begun_at capacity (e ∷ es) (t ∷ ts) (s ∷ ss) h (suc lane) ends track at-e at-t = begun_at capacity es ts ss h.1 lane ends track at-e at-t

none_ended : (n k : ℕ) → get_or (replicate n false) k false ≡ false
none_ended zero k = refl
none_ended (suc n) zero = refl
none_ended (suc n) (suc k) = none_ended n k

stands_fresh : (ends : Ends) (capacity count lane : ℕ) (wire : List (List ℕ)) → lane < 8 → IsWire ends.source wire → Stands ends lane (fresh wire ends.receiver ends.nows capacity) (new_log count)
stands_fresh ends capacity count lane wire small emits = record {
  emits = emits;
  moments = refl;
  state = state_empty capacity;
  sent = refl;
  verdicts = [];
  logged = logged_none ends.receiver ends.nows lane (new_log count) refl;
  room = rw length-replicate small;
  ended = none_ended 8 lane;
}

pub stand_begun : (lanes : List Ends) (capacity : ℕ) (relay : Relay) → HasBegun lanes capacity relay → AllStand lanes relay
stand_begun lanes capacity relay h = record {
  count = (AreBegun-length capacity lanes relay.tracks relay.sents h.lanes_are).tracks_are;
  each = λ lane ends track at-e at-t.
      let begun = (begun_at capacity lanes relay.tracks relay.sents h.lanes_are lane ends track at-e at-t).1 in
      let few = h.few in
      let small : lane < 8 = let within = slice_get_within lanes lane ends at-e in omega (arith, within, few) in
      let P : TrackState → Type 0 = λ t. Stands ends lane t relay.log in
      let Q : LogState → Type 0 = λ l. Stands ends lane (fresh track.wire ends.receiver ends.nows capacity) l in
      subst P (sym begun.is_fresh) (subst Q (sym h.log) (stands_fresh ends capacity (length lanes) lane track.wire small begun.emitted));
}

pub stand_all : (lanes : List Ends) (capacity : ℕ) (turns : List Turn) (relay : Relay) → HasTurned lanes capacity turns relay → AllStand lanes relay
stand_all lanes capacity turns relay h =
    let P : Relay → Type 0 = λ r. AllStand lanes r in
    subst P (sym h.left) (stand_after lanes h.begun turns (stand_begun lanes capacity h.begun h.start))
