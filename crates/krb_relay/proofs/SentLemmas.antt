-- What a worker sent of its sender's wire.
use Rattle.std.proofs.Common.{◌≡◌, Bool, true, ℕ, zero, suc, ◌+◌, ◌≤◌, ◌⊎◌, inl, inr, List, [], ◌∷◌, ◌++◌, length, take, drop, slice_get, Option, Some, None, refl, sym, ap, subst, ◌∙◌, arith}
use Rattle.std.specs.Prelude.{unwrap_or}
use Rattle.std.proofs.lemmas.List.{append-nil, nil_from_length, take_all, take_at, take-append-drop, take-take, length-append, length-take}
use Rattle.krb_base.specs.Prefix.{IsPrefix}
use Rattle.krb_peers.specs.Plan.{wire}
use Rattle.krb_peers.specs.declared.start.StartError.{StartError}
use Rattle.krb_peers.specs.declared.start.StartError.TheVariants as start
use Rattle.krb_record.specs.declared.record.Record.{Record}
use Rattle.krb_peers.specs.Sender.{Source, records, AreFrames}
use Rattle.krb_peers.specs.Sending.{source_after, HasSealed, HasSealedSome, StandsAfterSome}
use Rattle.krb_peers.specs.StartError.{IsReason}
use Rattle.krb_relay.specs.Cause.{cause_of_start}
use Rattle.krb_relay.specs.declared.cause.Cause.{Cause}
use Rattle.krb_relay.specs.declared.cause.Cause.TheVariants.{Memory, Spawn, Lost, BadPlan, Wiped}
use Rattle.krb_relay.specs.Sent.{IsFront, IsAll, IsOfSealing, IsTrueOf, IsCut, Sends, sealed_since}

-- ---- fronts

none_sealed : (source : Source) → HasSealedSome source 0
none_sealed source = record {
  few = omega arith;
  frames = [];
  are = record { one_each = refl; each = λ k r frame at-r at-f. absurd (let e = at-f in cc) };
}

front_unsent : (source : Source) (count : ℕ) → HasSealedSome source count → IsFront source count []
front_unsent source count some = record { some = some; n = 0; taken = refl; waits = inr (inr refl) }

pub front_nothing : (source : Source) → IsFront source 0 []
front_nothing source = front_unsent source 0 (none_sealed source)

-- nothing begins with nothing
prefix_nothing : (front sent : List (List ℕ)) → IsPrefix front sent → sent ≡ [] → front ≡ []
prefix_nothing [] sent p none = refl
prefix_nothing (f ∷ front) sent p none = absurd (let e : f ∷ (front ++ p.0) ≡ [] = sym p.1 ∙ none in cc)

-- what begins a front is one
pub front_shorter : (source : Source) (count : ℕ) (front sent : List (List ℕ)) → IsPrefix front sent → IsFront source count sent → IsFront source count front
front_shorter source count front sent p f =
    let w : List (List ℕ) = wire (f.some.frames) source.plan in
    let m : ℕ = length front in
    let short : m ≤ f.n =
    let a = length-append front p.0 in
    let b = ap length (sym p.1 ∙ f.taken) in
    let c = length-take f.n w in omega (arith, a, b, c) in
    record {
      some = f.some;
      n = m;
      taken = sym (take_at front p.0 m refl) ∙ (ap (take m) (sym p.1 ∙ f.taken) ∙ take-take m f.n w short);
      waits = elim f.waits [
        | inl none ↦ inl none
        | inr later ↦ inr (elim later [ inl all ↦ inl all | inr unsent ↦ inr (prefix_nothing front sent p unsent) ])
      ];
    }

-- and so is all that the wire carries
pub front_all : (source : Source) (count : ℕ) (sent : List (List ℕ)) → count ≡ length (records source) → IsAll source sent → IsFront source count sent
front_all source count sent all h =
    let e = h.emits in
    let rs = records source in
    let w : List (List ℕ) = wire e.frames source.plan in
    let len : length w ≡ length sent = ap length (sym e.wire_is) in
    let P : List Record → Type 0 = λ carried. AreFrames source carried e.frames in
    record {
      some = record {
        few = omega (arith, all);
        frames = e.frames;
        are = subst P (sym (take_all count rs (omega (arith, all)))) e.sealed;
      };
      n = length sent;
      taken = e.wire_is ∙ sym (take_all (length sent) w (omega (arith, len)));
      waits = inr (inl all);
    }

pub front_sent : (source : Source) (count : ℕ) (sent : List (List ℕ)) (cause : Option Cause) → Sends source count sent cause → IsFront source count sent
front_sent source count sent None h = front_all source count sent h.0 h.1
front_sent source count sent (Some cause) h = h.front

-- a worker whose End came back has a cause
pub sends_cut : (source : Source) (count : ℕ) (sent : List (List ℕ)) (cause : Option Cause) (told : Cause) → told ≡ unwrap_or cause Lost → Sends source count sent cause → Sends source count sent (Some told)
sends_cut source count sent None told is h =
    let P : Cause → Type 0 = λ c. IsCut source count sent c in
    subst P (sym is) (record { front = front_all source count sent h.0 h.1; reason = tt })
sends_cut source count sent (Some cause) told is h =
    let P : Cause → Type 0 = λ c. IsCut source count sent c in
    subst P (sym is) h

-- ---- how many records were sealed

-- the sealer's number has moved by as many
pub since_after : (source now after : Source) (k : ℕ) → now ≡ source_after k source → after.sealer.next ≡ now.sealer.next → sealed_since source after ≡ k
since_after source now after k is same =
    let moved : now.sealer.next ≡ source.sealer.next + k = ap (λ s. s.sealer.next) is in
    omega (arith, moved, same)

pub later_after : (source now after : Source) (k : ℕ) → now ≡ source_after k source → after.sealer.next ≡ now.sealer.next → source.sealer.next ≤ after.sealer.next
later_after source now after k is same =
    let moved : now.sealer.next ≡ source.sealer.next + k = ap (λ s. s.sealer.next) is in
    omega (arith, moved, same)

-- where the sealer stands says how many
pub some_stands : (source after : Source) → StandsAfterSome source after.sealer → HasSealedSome source (sealed_since source after)
some_stands source after s =
    let P : ℕ → Type 0 = λ n. HasSealedSome source n in
    subst P (sym (since_after source (source_after s.count source) after s.count refl (ap (λ z. z.next) s.is))) s.some

-- ---- in turn, without a plan

pub cut_lost : (source : Source) (count : ℕ) (sent : List (List ℕ)) → IsFront source count sent → IsCut source count sent Lost
cut_lost source count sent front = record { front = front; reason = tt }

-- what was sent is a prefix of the frames
pub front_unplanned : (source now after : Source) (k : ℕ) (frames sent : List (List ℕ)) → source.plan ≡ None → IsPrefix sent frames
    → HasSealed source k frames now → k ≤ length (records source) → after.sealer.next ≡ now.sealer.next → IsFront source (sealed_since source after) sent
front_unplanned source now after k frames sent unplanned p h few same =
    let count = sealed_since source after in
    let is : count ≡ k = since_after source now after k h.state same in
    let P : List Record → Type 0 = λ carried. AreFrames source carried frames in
    let whole : wire frames source.plan ≡ frames = ap (λ plan. wire frames plan) unplanned in
    record {
      some = record {
        few = omega (arith, is, few);
        frames = frames;
        are = subst P (ap (λ n. take n (records source)) (sym is)) h.sealed;
      };
      n = length sent;
      taken = sym (take_at sent p.0 (length sent) refl) ∙ ap (take (length sent)) (sym p.1 ∙ sym whole);
      waits = inl unplanned;
    }

-- ---- all at once, with a plan

-- why nothing of the lane can be sent is true of its sender
reason_of_start : (source : Source) (lane : ℕ) (error : StartError) → IsReason source lane error → IsTrueOf source [] (cause_of_start error)
reason_of_start source lane start.Memory h = tt
reason_of_start source lane (start.BadPlan at) h = (h.1, h.2, refl)
reason_of_start source lane (start.Wiped at) h = (h.1, refl)

pub cut_unsent : (source after : Source) (lane : ℕ) (sent : List (List ℕ)) (error : StartError) → sent ≡ [] → StandsAfterSome source after.sealer → IsReason source lane error
    → IsCut source (sealed_since source after) sent (cause_of_start error)
cut_unsent source after lane sent error none s h =
    let P : List (List ℕ) → Type 0 = λ x. IsCut source (sealed_since source after) x (cause_of_start error) in
    subst P (sym none) (record { front = front_unsent source (sealed_since source after) (some_stands source after s); reason = reason_of_start source lane error h })

-- a worker that stops since memory ran out or its other end is gone has sent a front
cut_front : (source : Source) (count : ℕ) (sent : List (List ℕ)) (cause : Cause) → IsFront source count sent → (cause ≡ Memory) ⊎ (cause ≡ Lost) → IsCut source count sent cause
cut_front source count sent cause front why =
    let P : Cause → Type 0 = λ c. IsCut source count sent c in
    elim why [
      | inl memory ↦ subst P (sym memory) (record { front = front; reason = tt })
      | inr lost ↦ subst P (sym lost) (record { front = front; reason = tt })
    ]

pub cut_wire : (source : Source) (count : ℕ) (sent emitted : List (List ℕ)) (cause : Cause) → (cause ≡ Memory) ⊎ (cause ≡ Lost) → IsPrefix sent emitted → count ≡ length (records source) → IsAll source emitted → IsCut source count sent cause
cut_wire source count sent emitted cause why front whole all =
    cut_front source count sent cause (front_shorter source count sent emitted front (front_all source count emitted whole all)) why

-- what was sent and the emission at its end, and what was sent is a front
pub sent_more : (wire : List (List ℕ)) (k : ℕ) (frame : List ℕ) → slice_get wire k ≡ Some frame → take (k + 1) wire ≡ take k wire ++ frame ∷ []
sent_more [] k frame at = absurd (let e = at in cc)
sent_more (x ∷ wire) zero frame at = let same : x ≡ frame = cc in ap (λ y. y ∷ []) same
sent_more (x ∷ wire) (suc k) frame at = let e : suc k + 1 ≡ suc (k + 1) = omega arith in rw e (ap (λ l. x ∷ l) (sent_more wire k frame at))

pub sent_front : (wire sent : List (List ℕ)) (k : ℕ) → sent ≡ take k wire → IsPrefix sent wire
sent_front wire sent k is = (drop k wire, sym (take-append-drop k wire) ∙ ap (λ l. l ++ drop k wire) (sym is))

-- ---- in turn, as it ends

-- nothing was sent before a record was sealed
none_sent : (source now : Source) (k : ℕ) (frames : List (List ℕ)) → HasSealed source k frames now → k ≡ 0 → frames ≡ []
none_sent source now k frames h none = nil_from_length frames (h.sealed.one_each ∙ ap (λ n. length (take n (records source))) none)

reason_of_sealing : (source : Source) (sent : List (List ℕ)) (cause : Cause) → IsOfSealing source.sealer.wiped cause → (source.sealer.wiped ≡ true → sent ≡ []) → IsTrueOf source sent cause
reason_of_sealing source sent Memory h none = tt
reason_of_sealing source sent Spawn h none = absurd h
reason_of_sealing source sent Lost h none = absurd h
reason_of_sealing source sent BadPlan h none = absurd h
reason_of_sealing source sent Wiped h none = (h, none h)

-- a seal call failed
pub cut_sealing : (source now after : Source) (k : ℕ) (frames : List (List ℕ)) (cause : Cause) → source.plan ≡ None → HasSealed source k frames now → k ≤ length (records source)
    → after.sealer.next ≡ now.sealer.next → IsOfSealing now.sealer.wiped cause → (source.sealer.wiped ≡ true → k ≡ 0) → IsCut source (sealed_since source after) frames cause
cut_sealing source now after k frames cause unplanned h few same is none =
    let P : Bool → Type 0 = λ wiped. IsOfSealing wiped cause in
    let wiped : now.sealer.wiped ≡ source.sealer.wiped = ap (λ s. s.sealer.wiped) h.state in
    record {
      front = front_unplanned source now after k frames frames unplanned ([], sym (append-nil frames)) h few same;
      reason = reason_of_sealing source frames cause (subst P wiped is) (λ w. none_sent source now k frames h (none w));
    }
