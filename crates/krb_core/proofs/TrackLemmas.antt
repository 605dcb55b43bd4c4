-- A lane by two places in what its sender emits.
use Rattle.std.proofs.Common.{◌≡◌, ◌↔◌, ℕ, zero, suc, ◌+◌, ◌-◌, ◌≤◌, ◌<◌, ◌&&◌, not, nat_lt, Bool, true, false, List, [], ◌∷◌, ◌++◌, length, take, drop, slice_get, Some, None, refl, sym, ap, ap₂, subst, ◌∙◌, arith, inl, inr}
use Rattle.std.proofs.lemmas.Bool.{lt-ltb}
use Rattle.std.proofs.lemmas.Bool.Decides.{leb_tells}
use Rattle.std.proofs.lemmas.List.{drop-append-le, length-drop, drop_all}
use Rattle.krb_base.specs.Lane.{Item, Lane, Frame, End, Send, Take, has_end, is_possible, taken, moved, after_event}
use Rattle.krb_base.proofs.LaneLemmas.{may_send, after_possible, after_impossible}
use Rattle.krb_core.specs.declared.turn.Did.{Did}
use Rattle.krb_core.specs.declared.turn.Did.TheVariants.{Moved, Waits}
use Rattle.krb_peers.specs.LogState.{LogState}
use Rattle.krb_peers.specs.ReceiverState.{ReceiverState}
use Rattle.krb_peers.specs.Receiver.{receiver_after}
use Rattle.krb_peers.specs.Log.{ended_at}
use Rattle.krb_peers.specs.Moments.{moment_at}
use Rattle.krb_core.specs.Track.{TrackState, item_of, item_at, next_send, after_send, receiver_then, after_take, log_then, log_after, LogsFront, HasFrameFirst}
use Rattle.krb_peers.proofs.ListLemmas.{there_is}
use Rattle.krb_peers.specs.Receiver.{verdict_by}
use Rattle.krb_peers.specs.Logged.{noted, LogsNext}
use Rattle.krb_core.specs.TrackPlaces.{items_of, lane_at, ArePlaces}

-- ---- the items of a wire

length-sent : (wire : List (List ℕ)) (n : ℕ) → n ≤ length wire + 1 → length (take n (items_of wire)) ≡ n
length-sent wire zero h = refl
length-sent [] (suc zero) h = refl
length-sent [] (suc (suc n)) h = absurd (omega arith)
length-sent (f ∷ wire) (suc n) h = ap suc (length-sent wire n (omega arith))

pub take-item : (wire : List (List ℕ)) (n : ℕ) → n ≤ length wire → take (n + 1) (items_of wire) ≡ take n (items_of wire) ++ item_at wire n ∷ []
take-item [] zero h = refl
take-item [] (suc n) h = absurd (omega arith)
take-item (f ∷ wire) zero h = refl
take-item (f ∷ wire) (suc n) h = let e : suc n + 1 ≡ suc (n + 1) = omega arith in rw e (ap (λ l. Frame f ∷ l) (take-item wire n (omega arith)))

pub no_end : (wire : List (List ℕ)) (n : ℕ) → n ≤ length wire → has_end (take n (items_of wire)) ≡ false
no_end wire zero h = refl
no_end [] (suc n) h = absurd (omega arith)
no_end (f ∷ wire) (suc n) h = no_end wire n (omega arith)

pub with_end : (wire : List (List ℕ)) (n : ℕ) → length wire < n → has_end (take n (items_of wire)) ≡ true
with_end wire zero h = absurd (omega arith)
with_end [] (suc n) h = refl
with_end (f ∷ wire) (suc n) h = with_end wire n (omega arith)

front : (wire : List (List ℕ)) (s t : ℕ) → s ≤ length wire + 1 → t < s → drop t (take s (items_of wire)) ≡ item_at wire t ∷ drop (t + 1) (take s (items_of wire))
front wire zero t h lt = absurd (omega arith)
front [] (suc s) zero h lt = refl
front [] (suc s) (suc t) h lt = absurd (omega arith)
front (f ∷ wire) (suc s) zero h lt = refl
front (f ∷ wire) (suc s) (suc t) h lt = let e : suc t + 1 ≡ suc (t + 1) = omega arith in rw e (front wire s t (omega arith) (omega arith))

-- ---- a send

abbrev pub track_at : List (List ℕ) → ℕ → ℕ → ℕ → ReceiverState → List ℕ → TrackState
track_at wire capacity s t receiver nows = record { wire = wire; lane = lane_at capacity wire s t; receiver = receiver; nows = nows }

and_false : (b : Bool) → (b && not true) ≡ false
and_false true = refl
and_false false = refl

-- what a send leaves, and whether it moved
pub record IsSend (old now : TrackState) (did : Did) : Type 0 where
  pub after : now ≡ after_send old
  pub waits : (did ≡ Waits) ↔ (is_possible old.lane (next_send old) ≡ false)

module _ (wire : List (List ℕ)) (capacity s t : ℕ) (receiver : ReceiverState) (nows : List ℕ) where
  abbrev here : TrackState
  here = track_at wire capacity s t receiver nows

  queued : ArePlaces wire s t → length (drop t (take s (items_of wire))) ≡ s - t
  queued h = length-drop t (take s (items_of wire)) ∙ ap (λ n. n - t) (length-sent wire s h.in_range)

  pub send_moves : ArePlaces wire s t → s ≤ length wire → s - t < capacity → IsSend here (track_at wire capacity (s + 1) t receiver nows) Moved
  send_moves h left room =
      let within = h.taken_sent in
      let items = items_of wire in
      let lane : Lane (List ℕ) = lane_at capacity wire s t in
      let len : length (take s items) ≡ s = length-sent wire s h.in_range in
      let x : Item (List ℕ) = item_at wire (length (take s items)) in
      let more : take (s + 1) items ≡ take s items ++ x ∷ [] = take-item wire s left ∙ ap (λ n. take s items ++ item_at wire n ∷ []) (sym len) in
      let following : drop t (take (s + 1) items) ≡ drop t (take s items) ++ x ∷ [] =
      ap (λ l. drop t l) more ∙ drop-append-le t (take s items) (x ∷ []) (omega (arith, len)) in
      let may : is_possible lane (Send x) ≡ true = may_send lane x (omega (arith, queued h)) (no_end wire s left) in
      let lane_is : lane_at capacity wire (s + 1) t ≡ moved lane (Send x) =
      ap₂ (λ (a b : List (Item (List ℕ))). let l : Lane (List ℕ) = record { capacity = capacity; sent = a; got = take t items; queue = b } in l) more following in
      let leaves : lane_at capacity wire (s + 1) t ≡ after_event lane (Send x) = lane_is ∙ sym (after_possible lane (Send x) may) in
      record {
        after = ap (λ (l : Lane (List ℕ)). let z : TrackState = record { wire = wire; lane = l; receiver = receiver; nows = nows } in z) leaves;
        waits = (λ e. absurd (let f = e in cc), λ off. absurd (let f : true ≡ false = sym may ∙ off in cc));
      }

  impossible : (x : Item (List ℕ)) → x ≡ item_at wire (length (take s (items_of wire))) → is_possible (lane_at capacity wire s t) (Send x) ≡ false → IsSend here here Waits
  impossible x is off =
      let lane : Lane (List ℕ) = lane_at capacity wire s t in
      let no : is_possible lane (next_send here) ≡ false = ap (λ y. is_possible lane (Send y)) (sym is) ∙ off in
      record {
        after = ap (λ (l : Lane (List ℕ)). let z : TrackState = record { wire = wire; lane = l; receiver = receiver; nows = nows } in z) (sym (after_impossible lane (next_send here) no));
        waits = (λ e. no, λ off. refl);
      }

  -- the queue is full
  pub send_full : ArePlaces wire s t → capacity ≤ s - t → IsSend here here Waits
  send_full h full =
      let queue = queued h in
      let test : nat_lt (length (drop t (take s (items_of wire)))) capacity ≡ false = grind (arith, queue) in
      impossible (item_at wire (length (take s (items_of wire)))) refl (ap (λ b. b && not (has_end (take s (items_of wire)))) test)

  -- End was sent
  pub send_over : length wire < s → IsSend here here Waits
  send_over over =
      let room = nat_lt (length (drop t (take s (items_of wire)))) capacity in
      impossible (item_at wire (length (take s (items_of wire)))) refl (ap (λ b. room && not b) (with_end wire s over) ∙ and_false room)

  -- ---- a take

  lane_takes : ArePlaces wire s t → t < s → after_event (lane_at capacity wire s t) Take ≡ lane_at capacity wire s (t + 1)
  lane_takes h lt =
      let in_range = h.in_range in
      let items = items_of wire in
      let lane : Lane (List ℕ) = lane_at capacity wire s t in
      let first = front wire s t h.in_range lt in
      let may : is_possible lane Take ≡ true = lt-ltb 0 (length (drop t (take s items))) (omega (arith, queued h)) in
      after_possible lane Take may
      ∙ (ap (λ q. taken lane q) first
      ∙ ap (λ (g : List (Item (List ℕ))). let l : Lane (List ℕ) = record { capacity = capacity; sent = take s items; got = g; queue = drop (t + 1) (take s items) } in l) (sym (take-item wire t (omega arith))))

  -- what a take leaves of the track and of a log
  pub record IsTake (log : LogState) (number : ℕ) (now : TrackState) (log-now : LogState) (did : Did) : Type 0 where
    pub after : now ≡ after_take here
    pub log_is : log-now ≡ log_after log number here
    pub waits : (did ≡ Waits) ↔ (is_possible here.lane Take ≡ false)

  moves : ArePlaces wire s t → t < s → (Moved ≡ Waits) ↔ (is_possible (lane_at capacity wire s t) Take ≡ false)
  moves h lt =
      let may : is_possible (lane_at capacity wire s t) Take ≡ true = lt-ltb 0 (length (drop t (take s (items_of wire)))) (omega (arith, queued h)) in
      (λ e. absurd (let f = e in cc), λ off. absurd (let f : true ≡ false = sym may ∙ off in cc))

  at_front : (x : Item (List ℕ)) → item_at wire t ≡ x → ArePlaces wire s t → t < s → drop t (take s (items_of wire)) ≡ x ∷ drop (t + 1) (take s (items_of wire))
  at_front x is h lt = front wire s t h.in_range lt ∙ ap (λ y. y ∷ drop (t + 1) (take s (items_of wire))) is

  makes_track : (receiver-now : ReceiverState) → ArePlaces wire s t → t < s → receiver-now ≡ receiver_then here (drop t (take s (items_of wire))) → track_at wire capacity s (t + 1) receiver-now nows ≡ after_take here
  makes_track receiver-now h lt is =
      ap₂ (λ (l : Lane (List ℕ)) (r : ReceiverState). let z : TrackState = record { wire = wire; lane = l; receiver = r; nows = nows } in z) (sym (lane_takes h lt)) is

  -- a take of a frame, before the wire's end
  pub frame_first : ArePlaces wire s t → t < s → t < length wire → HasFrameFirst here
  frame_first h lt within =
      let one = there_is t wire within in
      record { frame = one.0; queue = drop (t + 1) (take s (items_of wire)); first = at_front (Frame one.0) (ap item_of one.1) h lt }

  -- a frame at the front
  pub take_frame : (log log-now : LogState) (number : ℕ) (frame : List ℕ) (receiver-now : ReceiverState) → ArePlaces wire s t → t < s → slice_get wire t ≡ Some frame
      → receiver-now ≡ receiver_after receiver (verdict_by receiver (moment_at nows t) frame)
      → log-now ≡ noted log number (verdict_by receiver (moment_at nows t) frame)
      → IsTake log number (track_at wire capacity s (t + 1) receiver-now nows) log-now Moved
  take_frame log log-now number frame receiver-now h lt at r-is l-is =
      let in_range = h.in_range in
      let first = at_front (Frame frame) (ap item_of at) h lt in
      let count : t ≡ length (take t (items_of wire)) = sym (length-sent wire t (omega arith)) in
      record {
        after = makes_track receiver-now h lt (r-is ∙ (ap (λ n. receiver_after receiver (verdict_by receiver (moment_at nows n) frame)) count ∙ ap (λ q. receiver_then here q) (sym first)));
        log_is = l-is ∙ (ap (λ n. noted log number (verdict_by receiver (moment_at nows n) frame)) count ∙ ap (λ q. log_then log number here q) (sym first));
        waits = moves h lt;
      }

  -- which a log has after all that were taken before
  pub take_logs : (log log-now : LogState) (number : ℕ) (frame : List ℕ) (receiver-now : ReceiverState) → ArePlaces wire s t → t < s → slice_get wire t ≡ Some frame
      → LogsNext receiver log number (moment_at nows t) frame receiver-now log-now
      → LogsFront number here log (track_at wire capacity s (t + 1) receiver-now nows) log-now
  take_logs log log-now number frame receiver-now h lt at next first queue is =
      let in_range = h.in_range in
      let count : t ≡ length (take t (items_of wire)) = sym (length-sent wire t (omega arith)) in
      let both : Frame frame ∷ drop (t + 1) (take s (items_of wire)) ≡ Frame first ∷ queue = sym (at_front (Frame frame) (ap item_of at) h lt) ∙ is in
      let same : frame ≡ first = cc in
      let P : List ℕ → ℕ → Type 0 = λ f n. LogsNext receiver log number (moment_at nows n) f receiver-now log-now in
      subst (P first) count (subst (λ f. P f t) same next)

  -- no frame is at the front where End is
  pub end_logs : (log log-now : LogState) (number : ℕ) → ArePlaces wire s t → t < s → slice_get wire t ≡ None
      → LogsFront number here log (track_at wire capacity s (t + 1) receiver nows) log-now
  end_logs log log-now number h lt at first queue is =
      absurd (let e : End ∷ drop (t + 1) (take s (items_of wire)) ≡ Frame first ∷ queue = sym (at_front End (ap item_of at) h lt) ∙ is in cc)

  -- End at the front
  pub take_end : (log log-now : LogState) (number : ℕ) → ArePlaces wire s t → t < s → slice_get wire t ≡ None → log-now ≡ ended_at log number
      → IsTake log number (track_at wire capacity s (t + 1) receiver nows) log-now Moved
  take_end log log-now number h lt at l-is =
      let first = at_front End (ap item_of at) h lt in
      record {
        after = makes_track receiver h lt (ap (λ q. receiver_then here q) (sym first));
        log_is = l-is ∙ ap (λ q. log_then log number here q) (sym first);
        waits = moves h lt;
      }

  -- nothing is queued
  pub take_none : (log : LogState) (number : ℕ) → ArePlaces wire s t → s ≤ t → IsTake log number here log Waits
  take_none log number h over =
      let in_range = h.in_range in
      let none : drop t (take s (items_of wire)) ≡ [] = drop_all t (take s (items_of wire)) (omega (arith, length-sent wire s h.in_range)) in
      let lane : Lane (List ℕ) = lane_at capacity wire s t in
      let off : is_possible lane Take ≡ false = ap (λ q. nat_lt 0 (length q)) none in
      record {
        after = ap₂ (λ (l : Lane (List ℕ)) (r : ReceiverState). let z : TrackState = record { wire = wire; lane = l; receiver = r; nows = nows } in z) (sym (after_impossible lane Take off)) (ap (λ q. receiver_then here q) (sym none));
        log_is = ap (λ q. log_then log number here q) (sym none);
        waits = (λ e. off, λ x. refl);
      }

-- whether End was taken
pub done_by : (wire : List (List ℕ)) (t : ℕ) → nat_lt (length wire) t ≡ has_end (take t (items_of wire))
done_by wire t =
    elim (leb_tells (suc (length wire)) t) [
      | inl h ↦ h.0 ∙ sym (with_end wire t (let e = h.1 in omega arith))
      | inr h ↦ h.0 ∙ sym (no_end wire t (let e = h.1 in omega arith))
    ]
