-- What is claimed of copies: receipts, what takes effect, and numbers without receipts.
use Rattle.std.proofs.Common.{◌≡◌, ℕ, zero, suc, ◌-◌, ◌+◌, ◌<◌, ◌≤◌, nat_le, Bool, true, false, List, [], ◌∷◌, length, map, take, drop, slice_get, Some, refl, sym, ap, subst, ◌∙◌, ◌⊎◌, arith, inl, inr, length-append}
use Rattle.std.specs.Prelude.{All}
use Rattle.std.proofs.lemmas.List.{take-map, take-take, take-append-drop}
use Rattle.std.proofs.lemmas.Option.{slice_get_within, get_or_from_slice_get, slice_get-map}
use Rattle.std.specs.Option.{option_map}
use Rattle.std.proofs.lemmas.Bool.{leb-true, leb-false}
use Rattle.krb_record.specs.Record.{FitsLimits}
use Rattle.krb_seal.specs.Sealer.{SealerState}
use Rattle.krb_peers.proofs.AnswerLemmas.{image}
use Rattle.krb_peers.proofs.FrameLemmas.{all_readable}
use Rattle.krb_peers.specs.Session.{Sealed, FitLimits, frames_in}
use Rattle.krb_carry.specs.Outbox.{Kept, numbered, Outbox, new_outbox, records_in, sealed_in, Act, Insert, Seal, IsAct, Acts, LeadsOutbox}
use Rattle.krb_carry.proofs.OutboxLemmas.{stands_in, first, second, sealed_record, length-records}
use Rattle.krb_carry.specs.History.{tag, no_history, with_frames}
use Rattle.krb_carry.specs.HistoryLaws.{Collision, GoesOn, ReceiptsNameTheHistory}
use Rattle.krb_carry.specs.declared.receipt.Finding.{Finding}
use Rattle.krb_carry.specs.declared.receipt.Finding.TheVariants.{Repeat, Delivered, Older, Forked}
use Rattle.krb_carry.specs.declared.receipt.Receipt.{Receipt}
use Rattle.krb_carry.specs.Receipt.{below, history_of, history_below, IsTrue, Finds}
use Rattle.krb_carry.specs.Copies.{Copy, own_frames, stopped, World, with_state, after_finding}
use Rattle.krb_carry.specs.CopiesLaws.{OneFinding, OneDigestIsEnough, ReceiptsStayTrue, AreItsOwn, DeliveredTookEffect, NothingFromThereOn, OthersAreStopped, EachIsAnOutbox, OneSessionTakesEffect, NoNumberIsUsedAgain}
use Rattle.krb_carry.proofs.CopyLemmas.{more_history, all_at, all_too, contains_at, slice_get-set, length-frames, IsSound, next_is, in_numbered, IsSoundWorld, world_sound}

-- ---- a receipt

pub one_finding : OneFinding
one_finding done next own receipt Repeat Repeat a b = refl
one_finding done next own receipt Older Older a b = refl
one_finding done next own receipt Delivered Delivered a b = refl
one_finding done next own receipt Forked Forked a b = refl
one_finding done next own receipt Repeat Older a b = absurd (omega (arith, a, b.0))
one_finding done next own receipt Repeat Delivered a b = absurd (omega (arith, a, b.0))
one_finding done next own receipt Repeat Forked a b = absurd (omega (arith, a, b.0))
one_finding done next own receipt Older Repeat a b = absurd (omega (arith, b, a.0))
one_finding done next own receipt Delivered Repeat a b = absurd (omega (arith, b, a.0))
one_finding done next own receipt Forked Repeat a b = absurd (omega (arith, b, a.0))
one_finding done next own receipt Older Delivered a b = absurd (omega (arith, a.1, b.1))
one_finding done next own receipt Older Forked a b = absurd (omega (arith, a.1, b.1))
one_finding done next own receipt Delivered Older a b = absurd (omega (arith, b.1, a.1))
one_finding done next own receipt Forked Older a b = absurd (omega (arith, b.1, a.1))
one_finding done next own receipt Delivered Forked a b = absurd (b.2 a.2)
one_finding done next own receipt Forked Delivered a b = absurd (a.2 b.2)

pub stay_true : ReceiptsStayTrue
stay_true start took more receipt is = record {
  took_effect = omega (arith, is.took_effect, length-append took more);
  history = is.history ∙ sym (more_history start took more receipt.number is.took_effect);
}

-- ---- what a digest tells of a copy

-- where the digests below a number are the same, so are the tags, or a collision is found
tags_same : ReceiptsNameTheHistory → (sealer : SealerState) (world : World) (copy : Copy) (number : ℕ) → number ≤ sealer.next + length (own_frames copy) → number ≤ sealer.next + length world.took
    → history_below sealer.next (own_frames copy) number ≡ history_below sealer.next (frames_in world.took) number → AreItsOwn sealer world copy number ⊎ Collision
tags_same names sealer world copy number few less same =
    (names (frames_in world.took) (own_frames copy) (number - sealer.next) (omega (arith, less, length-frames world.took)) (omega (arith, few))).0 (sym same)

pub own_done : ReceiptsNameTheHistory → (sealer : SealerState) (world : World) (copy : Copy) → IsSound sealer world.took copy → AreItsOwn sealer world copy copy.done ⊎ Collision
own_done names sealer world copy sound = tags_same names sealer world copy copy.done sound.sealed sound.took_effect sound.same

pub delivered_took_effect : ReceiptsNameTheHistory → DeliveredTookEffect
delivered_took_effect names sealer events world leads =
    let P = IsSound sealer world.took in
    all_too P (λ copy. (copy.done ≤ sealer.next + length world.took) × (AreItsOwn sealer world copy copy.done ⊎ Collision)) world.copies
    (λ copy sound. (sound.took_effect, own_done names sealer world copy sound)) (world_sound sealer events world leads).copies

-- fewer of them are the same too
fewer_tags : (xs ys : List (List ℕ)) (m n : ℕ) → m ≤ n → map tag (take n xs) ≡ map tag (take n ys) → map tag (take m xs) ≡ map tag (take m ys)
fewer_tags xs ys m n le same =
    let back : (zs : List (List ℕ)) → map tag (take m zs) ≡ take m (map tag (take n zs)) =
    λ zs. ap (λ l. map tag l) (sym (take-take m n zs le)) ∙ sym (take-map tag m (take n zs)) in
    back xs ∙ (ap (λ l. take m l) same ∙ sym (back ys))

-- ---- another frame under a number

get_take : {X : Type 0} (n : ℕ) (xs : List X) (k : ℕ) (x : X) → k < n → slice_get xs k ≡ Some x → slice_get (take n xs) k ≡ Some x
get_take zero xs k x lt at = absurd (omega (arith, lt))
get_take (suc n) [] k x lt at = absurd (let e = at in cc)
get_take (suc n) (y ∷ xs) zero x lt at = at
get_take (suc n) (y ∷ xs) (suc k) x lt at = get_take n xs k x (omega (arith, lt)) at

tag_at : (n : ℕ) (sealed : List Sealed) (k : ℕ) (it : Sealed) → k < n → slice_get sealed k ≡ Some it → slice_get (map tag (take n (frames_in sealed))) k ≡ Some (tag it.frame)
tag_at n sealed k it lt at =
    let frame : slice_get (frames_in sealed) k ≡ Some it.frame =
    slice_get-map (λ (s : Sealed). s.frame) sealed k ∙ ap (λ o. option_map (λ (s : Sealed). s.frame) o) at in
    slice_get-map tag (take n (frames_in sealed)) k ∙ ap (λ o. option_map tag o) (get_take n (frames_in sealed) k it.frame lt frame)

pub nothing_from_there_on : ReceiptsNameTheHistory → NothingFromThereOn
nothing_from_there_on names sealer events world leads place k copy own other at mine theirs differ = by_tags (own_done names sealer world copy sound)
  where
    sound : IsSound sealer world.took copy
    sound = all_at (IsSound sealer world.took) world.copies place copy (world_sound sealer events world leads).copies at

    by_order : AreItsOwn sealer world copy copy.done → (t : Bool) → nat_le copy.done (sealer.next + k) ≡ t → copy.done ≤ sealer.next + k
    by_order same true is = leb-true copy.done (sealer.next + k) is
    by_order same false is =
        let later : k < copy.done - sealer.next = omega (arith, leb-false copy.done (sealer.next + k) is) in
        let tags : Some (tag other.frame) ≡ Some (tag own.frame) =
        sym (tag_at (copy.done - sealer.next) world.took k other later theirs)
        ∙ (ap (λ l. slice_get l k) same ∙ tag_at (copy.done - sealer.next) (sealed_in copy.outbox) k own later mine) in
        absurd (differ (let one : tag own.frame ≡ tag other.frame = cc in one))

    by_tags : AreItsOwn sealer world copy copy.done ⊎ Collision → (copy.done ≤ sealer.next + k) ⊎ Collision
    by_tags (inl same) = inl (by_order same (nat_le copy.done (sealer.next + k)) refl)
    by_tags (inr collision) = inr collision

-- ---- a receipt of others

module _ (names : ReceiptsNameTheHistory) (sealer : SealerState) (world : World) (place : ℕ) (copy : Copy) (receipt : Receipt) (at : slice_get world.copies place ≡ Some copy) (sound : IsSound sealer world.took copy) (true_one : IsTrue sealer.next (frames_in world.took) receipt) (others : ¬ AreItsOwn sealer world copy receipt.number) where
  stops : (finding : Finding) → Finds copy.done copy.outbox.next (history_below sealer.next (own_frames copy) receipt.number) receipt finding
      → (slice_get (with_state world place (after_finding copy receipt.number finding)).copies place ≡ Some (stopped copy)) ⊎ Collision
  stops Older finds = inl (slice_get-set world.copies place copy (stopped copy) at)
  stops Forked finds = inl (slice_get-set world.copies place copy (stopped copy) at)
  stops Delivered finds = by_tags (tags_same names sealer world copy receipt.number (omega (arith, finds.1, next_is sealer world.took copy sound)) (omega (arith, true_one.took_effect, length-frames world.took)) (finds.2 ∙ true_one.history))
    where
      by_tags : AreItsOwn sealer world copy receipt.number ⊎ Collision → (slice_get (with_state world place (after_finding copy receipt.number Delivered)).copies place ≡ Some (stopped copy)) ⊎ Collision
      by_tags (inl same) = absurd (others same)
      by_tags (inr collision) = inr collision
  stops Repeat finds = by_tags (own_done names sealer world copy sound)
    where
      by_tags : AreItsOwn sealer world copy copy.done ⊎ Collision → (slice_get (with_state world place (after_finding copy receipt.number Repeat)).copies place ≡ Some (stopped copy)) ⊎ Collision
      by_tags (inl same) =
          absurd (others (fewer_tags (frames_in world.took) (own_frames copy) (receipt.number - sealer.next) (copy.done - sealer.next) (omega (arith, finds)) same))
      by_tags (inr collision) = inr collision

pub others_are_stopped : ReceiptsNameTheHistory → OthersAreStopped
others_are_stopped names sealer events world leads place copy receipt new at step others =
    let all = (world_sound sealer events world leads).copies in
    let same : step.0 ≡ copy = (let e : Some (step.0) ≡ Some copy = sym step.1 ∙ at in cc) in
    let its = all_at (IsSound sealer world.took) world.copies place (step.0) all step.1 in
    let finding = (step.4).0 in
    let stopped_so = stops names sealer world place (step.0) receipt step.1 its step.3 (λ own. others (subst (λ c. AreItsOwn sealer world c receipt.number) same own)) finding (step.4).1 in
    subst (λ w. (slice_get w.copies place ≡ Some (stopped copy)) ⊎ Collision) (sym (step.4).2)
    (subst (λ c. (slice_get (with_state world place (after_finding (step.0) receipt.number finding)).copies place ≡ Some (stopped c)) ⊎ Collision) same stopped_so)

-- ---- what each is, and what takes effect

pub each_is_an_outbox : EachIsAnOutbox
each_is_an_outbox sealer events world leads =
    all_too (IsSound sealer world.took) (λ copy. (acts : List Act) × All (IsAct sealer) acts × LeadsOutbox (new_outbox sealer) acts copy.outbox) world.copies (λ copy sound. (sound.acts, sound.are, sound.leads)) (world_sound sealer events world leads).copies

pub one_session : OneSessionTakesEffect
one_session sealer events world leads = (
  record { readable = all_readable (records_in world.took) fits; close_last = sound.last },
  fits,
  record {
    one_each = sym (length-records world.took);
    each = λ k it at. record { there = sealed_record world.took k it at; seals = (sound.took k it at).seals };
  },
)
  where
    sound : IsSoundWorld sealer world
    sound = world_sound sealer events world leads

    fits : FitLimits (records_in world.took)
    fits k r at =
        let its = image (λ (s : Sealed). s.carried) world.took k r at in
        subst FitsLimits (sym its.is) (sound.took k its.source its.at).fits

-- ---- what a sender keeps

pub one_digest : GoesOn → OneDigestIsEnough
one_digest goes_on start done number frames begun later =
    let first_ones : take (done - start) (below start frames number) ≡ below start frames done =
    take-take (done - start) (number - start) frames (omega (arith, begun, later)) in
    ap (λ l. with_frames (history_of l) (drop (done - start) (below start frames number))) (sym first_ones)
    ∙ (sym (goes_on no_history (take (done - start) (below start frames number)) (drop (done - start) (below start frames number)))
    ∙ ap (λ l. history_of l) (take-append-drop (done - start) (below start frames number)))

-- ---- without receipts

-- a frame that an outbox has more, and its number
record IsAfter (old new : Outbox) : Type 0 where
  pub next : old.next ≤ new.next
  pub frames : (kept : Kept) (k : ℕ) → slice_get new.frames k ≡ Some kept → ((j : ℕ) × (slice_get old.frames j ≡ Some kept)) ⊎ (old.next ≤ kept.number)

after_itself : (old new : Outbox) → new ≡ old → IsAfter old new
after_itself old new same =
    subst (λ o. IsAfter old o) (sym same) (record { next = omega arith; frames = λ kept k at. inl (k, at) })

after_act : (old : Outbox) (act : Act) (new : Outbox) → Acts old act new → IsAfter old new
after_act old (Insert put) new (inl took) =
    subst (λ o. IsAfter old o) (sym took.1) (record { next = omega arith; frames = λ kept k at. inl (k, at) })
after_act old (Insert put) new (inr same) = after_itself old new same
after_act old (Seal sealing) new (inr same) = after_itself old new same
after_act old (Seal sealing) new (inl took) =
    subst (λ o. IsAfter old o) (sym (took.1).2) (record {
      next = omega (arith, took.0);
      frames = λ kept k at. elim (stands_in old.frames (numbered sealing.from sealing.sealed) k kept at) [
        | first there ↦ inl (k, there)
        | second j place there ↦ inr (omega (arith, took.0, (in_numbered sealing.from sealing.sealed j kept there).1))
      ];
    })

after_acts : (old : Outbox) (acts : List Act) (new : Outbox) → LeadsOutbox old acts new → IsAfter old new
after_acts old [] new same = after_itself old new same
after_acts old (act ∷ acts) new leads =
    let one = after_act old act (leads.0) leads.1 in
    let rest = after_acts (leads.0) acts new leads.2 in
    record {
      next = omega (arith, one.next, rest.next);
      frames = λ kept k at. elim (rest.frames kept k at) [
        | inl there ↦ one.frames kept (there.0) there.1
        | inr later ↦ inr (omega (arith, one.next, later))
      ];
    }

pub no_number_again : NoNumberIsUsedAgain
no_number_again seen old new acts above leads kept fresh was is unless =
    let there = contains_at new.frames fresh is in
    by_place ((after_acts old acts new leads).frames fresh (there.0) there.1)
  where
    by_place : ((j : ℕ) × (slice_get old.frames j ≡ Some fresh)) ⊎ (old.next ≤ fresh.number) → kept.number < fresh.number
    by_place (inl stood) = absurd (unless (stood.0, slice_get_within old.frames (stood.0) fresh stood.1, get_or_from_slice_get old.frames (stood.0) fresh fresh stood.1))
    by_place (inr later) = omega (arith, later, above kept was)
