-- What a step leaves of an end.
use Rattle.std.proofs.Common.{◌≡◌, ◌+◌, ◌≤◌, ◌++◌, ℕ, Bool, true, false, List, [], ◌∷◌, length, sym, ap, ◌∙◌, subst, arith, length-append, append-nil}
use Rattle.krb_base.specs.Prefix.{IsPrefix}
use Rattle.krb_base.specs.Lane.{IsReached, frames}
use Rattle.krb_base.proofs.LaneLemmas.{state_reached, state_whole, frames_short}
use Rattle.crossbeam_channel.specs.Claims.{Pass, view, IsSeatAt}
use Rattle.crossbeam_channel.specs.declared.flavors.array.Doing.{Doing}
use Rattle.crossbeam_channel.specs.declared.flavors.array.Key.{Key}
use Rattle.crossbeam_channel.specs.declared.flavors.array.Rows.{Rows}
use Rattle.atomic_table.specs.declared.badge.Badge.{Badge}
use Rattle.krb_lane.specs.declared.item.Item.{Item}
use Rattle.krb_lane.specs.declared.item.Item.TheVariants.{Frame, End}
use Rattle.krb_lane.specs.declared.rule.Hand.{Hand}
use Rattle.krb_lane.specs.Items.{bytes_of, items, frames_of, has_end, IsNext}
use Rattle.krb_lane.specs.Rule.{hand, puts, pulls, running}
use Rattle.krb_lane.specs.Side.{Side, lane_of, sent_side, got_side, IsSender, IsOpen, IsReceiver, Takes}
use Rattle.krb_lane.proofs.Items.{frames_of-append, has_end-append, bytes_of-append, count_frames}
use Rattle.krb_base.specs.Lane as lane

module _ {Q M L A : Type 0} (c : Rows (Badge (Key Item)) (Doing Item Hand) Q M (Key Item) L A) (p q : Pass Item Hand) where
  pub same_lane : IsSeatAt c p → IsSeatAt c q → lane_of q ≡ lane_of p
  same_lane a b i = record { table = (b.0 ∙ sym a.0) i; key = (b.1 ∙ sym a.1) i }

  module _ (x : Item) (n : ℕ) (h : IsSender c p n) (seat : IsSeatAt c q) (is : view q ≡ puts (view p) x) where
    sent_is : (view q).sent ≡ (view p).sent ++ x ∷ []
    sent_is = ap (λ (v : Hand). v.sent) is

    frames_are : frames_of (view q).sent ≡ frames_of (view p).sent ++ frames_of (x ∷ [])
    frames_are = ap frames_of sent_is ∙ frames_of-append (view p).sent (x ∷ [])

    pub sender_after : (m : ℕ) → m ≡ n + length (frames_of (x ∷ [])) → IsSender c q m
    sender_after m e = record { seat = seat; sends = ap (λ (v : Hand). v.sends) is ∙ h.sends; counted = let l = ap (λ (l : List (List ℕ)). length l) frames_are in omega (arith, e, l, h.counted, length-append (frames_of (view p).sent) (frames_of (x ∷ []))) }

    pub open_after : IsOpen c p → has_end (x ∷ []) ≡ false → IsOpen c q
    open_after o frame = record { room = o.room ∙ sym (ap (λ (v : Hand). v.capacity) is); unended = ap has_end sent_is ∙ (has_end-append (view p).sent (x ∷ []) o.unended ∙ frame) }

    pub sent_after : IsOpen c p → (s : Side) → sent_side p ≡ s → sent_side q ≡ record { lane = s.lane; capacity = s.capacity; frames = s.frames ++ frames_of (x ∷ []); ended = has_end (x ∷ []) }
    sent_after o s e i = record {
      lane = (same_lane h.seat seat ∙ ap (λ (t : Side). t.lane) e) i;
      capacity = (ap (λ (v : Hand). v.capacity) is ∙ ap (λ (t : Side). t.capacity) e) i;
      frames = (frames_are ∙ ap (λ (t : Side). t.frames ++ frames_of (x ∷ [])) e) i;
      ended = (ap has_end sent_is ∙ has_end-append (view p).sent (x ∷ []) o.unended) i;
    }

  module _ (x : Item) (n : ℕ) (ended : Bool) (h : IsReceiver c p n ended) (off : ended ≡ false) (seat : IsSeatAt c q) (is : view q ≡ pulls (view p) x) where
    got_is : (view q).got ≡ (view p).got ++ x ∷ []
    got_is = ap (λ (v : Hand). v.got) is

    got_frames : frames_of (view q).got ≡ frames_of (view p).got ++ frames_of (x ∷ [])
    got_frames = ap frames_of got_is ∙ frames_of-append (view p).got (x ∷ [])

    got_ended : has_end (view q).got ≡ has_end (x ∷ [])
    got_ended = ap has_end got_is ∙ has_end-append (view p).got (x ∷ []) (h.ends ∙ off)

    receiver_after : (now : Bool) → has_end (x ∷ []) ≡ now → (m : ℕ) → m ≡ n + length (frames_of (x ∷ [])) → IsReceiver c q m now
    receiver_after now e m k = record {
      seat = seat;
      takes = ap (λ (v : Hand). v.takes) is ∙ h.takes;
      counted = let l = ap (λ (l : List (List ℕ)). length l) got_frames in omega (arith, k, l, h.counted, length-append (frames_of (view p).got) (frames_of (x ∷ [])));
      ends = got_ended ∙ e;
    }

    got_after : (s : Side) → got_side p ≡ s → got_side q ≡ record { lane = s.lane; capacity = s.capacity; frames = s.frames ++ frames_of (x ∷ []); ended = has_end (x ∷ []) }
    got_after s e i = record { lane = (same_lane h.seat seat ∙ ap (λ (t : Side). t.lane) e) i; capacity = (ap (λ (v : Hand). v.capacity) is ∙ ap (λ (t : Side). t.capacity) e) i; frames = (got_frames ∙ ap (λ (t : Side). t.frames ++ frames_of (x ∷ [])) e) i; ended = got_ended i }

    module _ (k : ℕ) (b : List ℕ) (e : x ≡ Frame k b) where
      pub receiver_frame : IsReceiver c q (n + 1) ended
      receiver_frame = receiver_after ended (ap (λ (y : Item). has_end (y ∷ [])) e ∙ sym off) (n + 1) (sym (ap (λ (y : Item). n + length (frames_of (y ∷ []))) e))

      pub got_frame : (s : Side) → got_side p ≡ s → IsNext (length (frames_of (view p).got)) x → Takes s (got_side q) (Frame k b)
      got_frame s t next =
          let ended_is : s.ended ≡ false = ap (λ (u : Side). u.ended) (sym t) ∙ (h.ends ∙ off) in
          let found : IsNext (length (frames_of (view p).got)) (Frame k b) = subst (λ (y : Item). IsNext (length (frames_of (view p).got)) y) e next in (
            ended_is,
            found.0 ∙ ap (λ (u : Side). length u.frames) t,
            got_after s t ∙ (λ i. record { lane = s.lane; capacity = s.capacity; frames = s.frames ++ frames_of (e i ∷ []); ended = (ap (λ (y : Item). has_end (y ∷ [])) e ∙ sym ended_is) i }),
          )

    module _ (e : x ≡ End) where
      pub receiver_end : IsReceiver c q n true
      receiver_end = receiver_after true (ap (λ (y : Item). has_end (y ∷ [])) e) n (let l = ap (λ (y : Item). length (frames_of (y ∷ []))) e in omega (arith, l))

      pub got_end : (s : Side) → got_side p ≡ s → Takes s (got_side q) End
      got_end s t = got_after s t ∙ (λ i. record { lane = s.lane; capacity = s.capacity; frames = (ap (λ (y : Item). s.frames ++ frames_of (y ∷ [])) e ∙ append-nil s.frames) i; ended = has_end (e i ∷ []) })

module _ (capacity : ℕ) (sent got queue : List Item) (reached : IsReached (running capacity sent got queue)) where
  -- what was sent is what was got and then what is queued
  split : frames_of sent ≡ frames_of got ++ frames_of queue
  split = ap bytes_of (state_reached (running capacity sent got queue) reached).linked ∙ bytes_of-append (items got) (items queue)

  -- where End was got, all was got
  whole : has_end got ≡ true → items got ≡ items sent
  whole on = state_whole (running capacity sent got queue) (state_reached (running capacity sent got queue) reached) on

  queued : length (frames_of sent) ≤ length (frames_of got) + capacity
  queued =
      let e = ap (λ (l : List (List ℕ)). length l) split in
      let w = (state_reached (running capacity sent got queue) reached).within in
      let n = count_frames queue in
      let m = frames_short (items queue) in
      omega (arith, e, w, n, m, length-append (frames_of got) (frames_of queue))

abbrev Meets : Side → Side → Type 0
Meets s r = IsPrefix r.frames s.frames × (r.ended ≡ true → (r.frames ≡ s.frames) × (s.ended ≡ true)) × (length s.frames ≤ length r.frames + s.capacity)

-- what the joined pass tells of both ends
pub met : (v : Hand) (p o : Pass Item Hand) (s r : Side) → v ≡ hand true true (view p).capacity (view p).sent (view o).got → ((queue : List Item) × IsReached (running v.capacity v.sent v.got queue)) → sent_side p ≡ s → got_side o ≡ r → Meets s r
met v p o s r is state sent got =
    let here : (queue : List Item) × IsReached (running (view p).capacity (view p).sent (view o).got queue) = subst (λ (u : Hand). (queue : List Item) × IsReached (running u.capacity u.sent u.got queue)) is state in
    let all : Meets (sent_side p) (got_side o) = (
      (frames_of here.0, split (view p).capacity (view p).sent (view o).got here.0 here.1),
      (λ (on : has_end (view o).got ≡ true). let same = whole (view p).capacity (view p).sent (view o).got here.0 here.1 on in (ap bytes_of same, sym (ap lane.has_end same) ∙ on)),
      queued (view p).capacity (view p).sent (view o).got here.0 here.1,
    ) in
    subst (λ (t : Side). Meets s t) got (subst (λ (t : Side). Meets t (got_side o)) sent all)
