-- What holds of each copy and of what takes effect, whatever happens.
use Rattle.std.proofs.Common.{◌≡◌, ℕ, zero, suc, ◌-◌, ◌+◌, ◌≤◌, true, false, List, [], ◌∷◌, ◌++◌, length, slice_get, Some, None, refl, sym, ap, subst, ◌∙◌, arith, inl, inr, length-append, append-nil}
use Rattle.std.specs.Prelude.{All, slice_set, Option}
use Rattle.std.specs.List.{Contains, list_any}
use Rattle.std.proofs.lemmas.List.{map-append, length-map, take-append-le}
use Rattle.std.proofs.lemmas.List.Elements.{All-append, All-set, All-cons, All-nil, All-contains}
use Rattle.std.proofs.lemmas.Option.{slice_get_within, get_or_from_slice_get, slice_get-get_or}
use Rattle.krb_record.specs.declared.record.Record.{Record}
use Rattle.krb_record.specs.declared.record.Record.TheVariants.{Text, Batch, Close}
use Rattle.krb_record.specs.Record.{FitsLimits, is_close}
use Rattle.krb_seal.specs.Sealer.{SealerState}
use Rattle.krb_peers.specs.Session.{Sealed, SealsAt, frames_in}
use Rattle.krb_carry.specs.Outbox.{Kept, numbered, Outbox, new_outbox, sealed_in, records_in, Act, Insert, Seal, IsAct, Acts, LeadsOutbox}
use Rattle.krb_carry.proofs.OutboxLemmas.{stands_in, first, second, it-numbered, length-sealed_in, outbox_sound}
use Rattle.krb_carry.specs.declared.receipt.Finding.{Finding}
use Rattle.krb_carry.specs.declared.receipt.Finding.TheVariants.{Repeat, Delivered, Older, Forked}
use Rattle.krb_carry.specs.declared.receipt.Receipt.{Receipt}
use Rattle.krb_carry.specs.Receipt.{history_of, history_below, IsTrue, Finds}
use Rattle.krb_carry.specs.Copies.{Copy, new_copy, own_frames, stopped, World, new_world, with_state, IsSealedByOne, after_finding, After}
use Rattle.krb_carry.specs.Copies.{Event, Does, Restores, Copies, Takes, Hears, Begins, Steps, LeadsCopies}

-- ---- lists

pub all_at : {X : Type 0} (P : X → Type 0) (xs : List X) (i : ℕ) (x : X) → All P xs → slice_get xs i ≡ Some x → P x
all_at P xs i x all at = subst P (get_or_from_slice_get xs i x x at) (all i x (slice_get_within xs i x at))

pub all_too : {X : Type 0} (P Q : X → Type 0) (xs : List X) → ((x : X) → P x → Q x) → All P xs → All Q xs
all_too P Q xs so all = λ k d lt. so _ (all k d lt)

pub contains_at : {X : Type 0} (xs : List X) (x : X) → Contains xs x → (k : ℕ) × (slice_get xs k ≡ Some x)
contains_at xs x there = (there.0, slice_get-get_or xs (there.0) x there.1 ∙ ap Some there.2)

pub slice_get-set : {X : Type 0} (xs : List X) (i : ℕ) (x y : X) → slice_get xs i ≡ Some x → slice_get (slice_set xs i y) i ≡ Some y
slice_get-set [] i x y at = absurd (let e = at in cc)
slice_get-set (z ∷ xs) zero x y at = refl
slice_get-set (z ∷ xs) (suc i) x y at = slice_get-set xs i x y at

-- ---- the frames of a copy

pub frames-append : (xs ys : List Sealed) → frames_in (xs ++ ys) ≡ frames_in xs ++ frames_in ys
frames-append xs ys = map-append (λ (it : Sealed). it.frame) xs ys

pub length-frames : (sealed : List Sealed) → length (frames_in sealed) ≡ length sealed
length-frames sealed = length-map sealed (λ (it : Sealed). it.frame)

more_sealed : (old : Outbox) (act : Act) (new : Outbox) → Acts old act new → (more : List Sealed) × (sealed_in new ≡ sealed_in old ++ more)
more_sealed old (Insert put) new (inl took) = ([], ap sealed_in took.1 ∙ sym (append-nil (sealed_in old)))
more_sealed old (Insert put) new (inr same) = ([], ap sealed_in same ∙ sym (append-nil (sealed_in old)))
more_sealed old (Seal sealing) new (inl took) = (
  sealing.sealed,
  ap sealed_in (took.1).2
      ∙ (map-append (λ (kept : Kept). kept.it) old.frames (numbered sealing.from sealing.sealed)
      ∙ ap (λ l. sealed_in old ++ l) (it-numbered sealing.from sealing.sealed)),
)
more_sealed old (Seal sealing) new (inr same) = ([], ap sealed_in same ∙ sym (append-nil (sealed_in old)))

leads_more : (old : Outbox) (acts : List Act) (between : Outbox) (act : Act) (new : Outbox) → LeadsOutbox old acts between → Acts between act new → LeadsOutbox old (acts ++ act ∷ []) new
leads_more old [] between act new same does = (new, subst (λ o. Acts o act new) same does, refl)
leads_more old (a ∷ acts) between act new leads does = (leads.0, leads.1, leads_more (leads.0) acts between act new leads.2 does)

-- more frames change no digest of the first ones
pub more_history : (start : ℕ) (xs ys : List (List ℕ)) (number : ℕ) → number ≤ start + length xs → history_below start (xs ++ ys) number ≡ history_below start xs number
more_history start xs ys number few =
    ap (λ l. history_of l) (take-append-le (number - start) xs ys (omega (arith, few)))

-- ---- one copy

pub record IsSound (sealer : SealerState) (took : List Sealed) (copy : Copy) : Type 0 where
  pub acts : List Act
  pub are : All (IsAct sealer) acts
  pub leads : LeadsOutbox (new_outbox sealer) acts copy.outbox
  pub begun : sealer.next ≤ copy.done
  pub sealed : copy.done ≤ sealer.next + length (own_frames copy)
  pub took_effect : copy.done ≤ sealer.next + length took
  pub same : history_below sealer.next (own_frames copy) copy.done ≡ history_below sealer.next (frames_in took) copy.done

sound_new : (sealer : SealerState) → IsSound sealer [] (new_copy sealer)
sound_new sealer = record {
  acts = [];
  are = All-nil (IsAct sealer);
  leads = refl;
  begun = omega arith;
  sealed = omega arith;
  took_effect = omega arith;
  same = refl;
}

pub next_is : (sealer : SealerState) (took : List Sealed) (copy : Copy) → IsSound sealer took copy → copy.outbox.next ≡ sealer.next + length (own_frames copy)
next_is sealer took copy sound =
    let its = outbox_sound sealer sound.acts copy.outbox sound.are sound.leads in
    omega (arith, its.number, length-frames (sealed_in copy.outbox), length-sealed_in copy.outbox)

sound_does : (sealer : SealerState) (took : List Sealed) (copy : Copy) (act : Act) (outbox : Outbox) → IsSound sealer took copy → IsAct sealer act → Acts copy.outbox act outbox → IsSound sealer took (record copy { outbox = outbox })
sound_does sealer took copy act outbox sound is does =
    let more = more_sealed copy.outbox act outbox does in
    let frames : frames_in (sealed_in outbox) ≡ own_frames copy ++ frames_in (more.0) = ap frames_in more.1 ∙ frames-append (sealed_in copy.outbox) (more.0) in
    record {
      acts = sound.acts ++ act ∷ [];
      are = All-append (IsAct sealer) sound.acts (act ∷ []) sound.are (All-cons (IsAct sealer) act [] is (All-nil (IsAct sealer)));
      leads = leads_more (new_outbox sealer) sound.acts copy.outbox act outbox sound.leads does;
      begun = sound.begun;
      sealed = omega (arith, sound.sealed, ap length frames, length-append (own_frames copy) (frames_in (more.0)));
      took_effect = sound.took_effect;
      same = ap (λ l. history_below sealer.next l copy.done) frames
          ∙ (more_history sealer.next (own_frames copy) (frames_in (more.0)) copy.done sound.sealed ∙ sound.same);
    }

sound_took : (sealer : SealerState) (took : List Sealed) (it : Sealed) (copy : Copy) → IsSound sealer took copy → IsSound sealer (took ++ it ∷ []) copy
sound_took sealer took it copy sound = record {
  acts = sound.acts;
  are = sound.are;
  leads = sound.leads;
  begun = sound.begun;
  sealed = sound.sealed;
  took_effect = omega (arith, sound.took_effect, length-append took (it ∷ []));
  same = sound.same
      ∙ sym (ap (λ l. history_below sealer.next l copy.done) (frames-append took (it ∷ []))
      ∙ more_history sealer.next (frames_in took) (it.frame ∷ []) copy.done (omega (arith, sound.took_effect, length-frames took)));
}

sound_stopped : (sealer : SealerState) (took : List Sealed) (copy : Copy) → IsSound sealer took copy → IsSound sealer took (stopped copy)
sound_stopped sealer took copy sound = record {
  acts = sound.acts;
  are = sound.are;
  leads = sound.leads;
  begun = sound.begun;
  sealed = sound.sealed;
  took_effect = sound.took_effect;
  same = sound.same;
}

sound_heard : (sealer : SealerState) (took : List Sealed) (copy : Copy) (receipt : Receipt) (finding : Finding) → IsSound sealer took copy → IsTrue sealer.next (frames_in took) receipt
    → Finds copy.done copy.outbox.next (history_below sealer.next (own_frames copy) receipt.number) receipt finding → IsSound sealer took (after_finding copy receipt.number finding)
sound_heard sealer took copy receipt Repeat sound true_one finds = sound
sound_heard sealer took copy receipt Older sound true_one finds = sound_stopped sealer took copy sound
sound_heard sealer took copy receipt Forked sound true_one finds = sound_stopped sealer took copy sound
sound_heard sealer took copy receipt Delivered sound true_one finds = record {
  acts = sound.acts;
  are = sound.are;
  leads = sound.leads;
  begun = omega (arith, sound.begun, finds.0);
  sealed = omega (arith, finds.1, next_is sealer took copy sound);
  took_effect = omega (arith, true_one.took_effect, length-frames took);
  same = finds.2 ∙ true_one.history;
}

sound_begun : (sealer : SealerState) (took : List Sealed) (copy : Copy) (seen : Option (List Kept)) (after : Copy) → IsSound sealer took copy → After copy seen after → IsSound sealer took after
sound_begun sealer took copy (Some seen) after sound (inl goes) = subst (λ c. IsSound sealer took c) (sym goes.1) sound
sound_begun sealer took copy (Some seen) after sound (inr stops) = subst (λ c. IsSound sealer took c) (sym stops.1) (sound_stopped sealer took copy sound)
sound_begun sealer took copy None after sound stops = subst (λ c. IsSound sealer took c) (sym stops) (sound_stopped sealer took copy sound)

-- ---- what was sealed by one of them

pub record IsOwn (sealer : SealerState) (number : ℕ) (it : Sealed) : Type 0 where
  pub seals : SealsAt sealer number it
  pub fits : FitsLimits it.carried

pub in_numbered : (from : ℕ) (sealed : List Sealed) (k : ℕ) (kept : Kept) → slice_get (numbered from sealed) k ≡ Some kept → (slice_get sealed k ≡ Some kept.it) × (kept.number ≡ from + k)
in_numbered from [] k kept at = absurd (let e = at in cc)
in_numbered from (it ∷ sealed) zero kept at =
    let same : record { number = from; it = it } ≡ kept = (let e : Some (record { number = from; it = it }) ≡ Some kept = at in cc) in
    let number : from ≡ kept.number = ap (λ (k : Kept). k.number) same in
    (ap (λ (k : Kept). Some k.it) same, omega (arith, number))
in_numbered from (it ∷ sealed) (suc k) kept at =
    let later = in_numbered (from + 1) sealed k kept at in
    (later.0, omega (arith, later.1))

pub own_at : (sealer : SealerState) (took : List Sealed) (copy : Copy) → IsSound sealer took copy → (k : ℕ) (it : Sealed) → slice_get (sealed_in copy.outbox) k ≡ Some it → IsOwn sealer (sealer.next + k) it
own_at sealer took copy sound k it at =
    let its = outbox_sound sealer sound.acts copy.outbox sound.are sound.leads in
    record { seals = its.seals k it at; fits = its.limits k it at }

sealed_by_one : (sealer : SealerState) (took : List Sealed) (states : List Copy) (number : ℕ) (it : Sealed) → All (IsSound sealer took) states → IsSealedByOne states number it → IsOwn sealer number it
sealed_by_one sealer took states number it all by =
    let state = by.0 in
    let sound = All-contains (IsSound sealer took) states state all by.1 in
    let its = outbox_sound sealer sound.acts state.outbox sound.are sound.leads in
    let place = contains_at state.outbox.frames (record { number = number; it = it }) by.2 in
    let here = in_numbered sealer.next (sealed_in state.outbox) (place.0) (record { number = number; it = it }) (ap (λ l. slice_get l (place.0)) (sym its.frames) ∙ place.1) in
    subst (λ n. IsOwn sealer n it) (sym here.1) (own_at sealer took state sound (place.0) it here.0)

no_more : {X : Type 0} (xs : List X) (y : X) (ys : List X) → xs ++ y ∷ ys ≡ [] → ⊥
no_more [] y ys is = let e = is in cc
no_more (x ∷ xs) y ys is = let e = is in cc

-- nothing closes before the last one
last_close : (rs : List Record) (r : Record) (front back : List Record) → list_any is_close rs ≡ false → rs ++ r ∷ [] ≡ front ++ Close ∷ back → back ≡ []
last_close [] r [] back none e = (let same : r ∷ [] ≡ Close ∷ back = e in let tail : [] ≡ back = cc in sym tail)
last_close [] r (f ∷ front) back none e =
    let same : r ∷ [] ≡ f ∷ (front ++ Close ∷ back) = e in
    let tail : [] ≡ front ++ Close ∷ back = cc in
    absurd (no_more front Close back (sym tail))
last_close (Text text ∷ rs) r [] back none e = absurd (let same : Text text ∷ (rs ++ r ∷ []) ≡ Close ∷ back = e in let head : Text text ≡ Close = cc in cc)
last_close (Batch texts ∷ rs) r [] back none e = absurd (let same : Batch texts ∷ (rs ++ r ∷ []) ≡ Close ∷ back = e in let head : Batch texts ≡ Close = cc in cc)
last_close (Close ∷ rs) r front back none e = absurd (let wrong : true ≡ false = none in cc)
last_close (Text text ∷ rs) r (f ∷ front) back none e =
    let same : Text text ∷ (rs ++ r ∷ []) ≡ f ∷ (front ++ Close ∷ back) = e in
    let tail : rs ++ r ∷ [] ≡ front ++ Close ∷ back = cc in
    last_close rs r front back none tail
last_close (Batch texts ∷ rs) r (f ∷ front) back none e =
    let same : Batch texts ∷ (rs ++ r ∷ []) ≡ f ∷ (front ++ Close ∷ back) = e in
    let tail : rs ++ r ∷ [] ≡ front ++ Close ∷ back = cc in
    last_close rs r front back none tail

-- ---- all of it

pub record IsSoundWorld (sealer : SealerState) (world : World) : Type 0 where
  pub copies : All (IsSound sealer world.took) world.copies
  pub states : All (IsSound sealer world.took) world.states
  pub took : (k : ℕ) (it : Sealed) → slice_get world.took k ≡ Some it → IsOwn sealer (sealer.next + k) it
  pub last : (front back : List Record) → records_in world.took ≡ front ++ Close ∷ back → back ≡ []

sound_start : (sealer : SealerState) → IsSoundWorld sealer (new_world sealer)
sound_start sealer =
    let one = All-cons (IsSound sealer []) (new_copy sealer) [] (sound_new sealer) (All-nil (IsSound sealer [])) in
    record {
      copies = one;
      states = one;
      took = λ k it at. absurd (let e = at in cc);
      last = λ front back is. absurd (no_more front Close back (sym is));
    }

sound_state : (sealer : SealerState) (world : World) (place : ℕ) (copy : Copy) → IsSoundWorld sealer world → IsSound sealer world.took copy → IsSoundWorld sealer (with_state world place copy)
sound_state sealer world place copy sound is =
    let P = IsSound sealer world.took in
    record {
      copies = All-set P world.copies place copy is sound.copies;
      states = All-append P world.states (copy ∷ []) sound.states (All-cons P copy [] is (All-nil P));
      took = sound.took;
      last = sound.last;
    }

took_more : (sealer : SealerState) (took : List Sealed) (it : Sealed) → ((k : ℕ) (one : Sealed) → slice_get took k ≡ Some one → IsOwn sealer (sealer.next + k) one) → IsOwn sealer (sealer.next + length took) it
    → (k : ℕ) (one : Sealed) → slice_get (took ++ it ∷ []) k ≡ Some one → IsOwn sealer (sealer.next + k) one
took_more sealer took it before is k one at = elim (stands_in took (it ∷ []) k one at) [
  | first there ↦ before k one there
  | second j place there ↦ newest j place there
]
  where
    newest : (j : ℕ) → k ≡ length took + j → slice_get (it ∷ []) j ≡ Some one → IsOwn sealer (sealer.next + k) one
    newest zero place there =
        let same : it ≡ one = (let e : Some it ≡ Some one = there in cc) in
        let number : sealer.next + length took ≡ sealer.next + k = omega (arith, place) in
        subst (λ n. IsOwn sealer n one) number (subst (λ s. IsOwn sealer (sealer.next + length took) s) same is)
    newest (suc j) place there = absurd (let e = there in cc)

sound_taken : (sealer : SealerState) (world : World) (it : Sealed) → IsSoundWorld sealer world → IsSealedByOne world.states (sealer.next + length world.took) it → list_any is_close (records_in world.took) ≡ false
    → IsSoundWorld sealer (record world { took = world.took ++ it ∷ [] })
sound_taken sealer world it sound by none =
    let P = IsSound sealer world.took in
    let Q = IsSound sealer (world.took ++ it ∷ []) in
    record {
      copies = all_too P Q world.copies (sound_took sealer world.took it) sound.copies;
      states = all_too P Q world.states (sound_took sealer world.took it) sound.states;
      took = took_more sealer world.took it sound.took (sealed_by_one sealer world.took world.states (sealer.next + length world.took) it sound.states by);
      last = λ front back is. last_close (records_in world.took) it.carried front back none (sym (map-append (λ (s : Sealed). s.carried) world.took (it ∷ [])) ∙ is);
    }

sound_step : (sealer : SealerState) (old : World) (event : Event) (new : World) → IsSoundWorld sealer old → Steps sealer old event new → IsSoundWorld sealer new
sound_step sealer old (Does place act) new sound step =
    let copy = step.0 in
    let its = all_at (IsSound sealer old.took) old.copies place copy sound.copies step.1 in
    let after = sound_does sealer old.took copy act ((step.4).0) its step.3 (step.4).1 in
    subst (λ w. IsSoundWorld sealer w) (sym (step.4).2) (sound_state sealer old place (record copy { outbox = (step.4).0 }) sound after)
sound_step sealer old (Restores place from) new sound step =
    let P = IsSound sealer old.took in
    let its = all_at P old.states from (step.0) sound.states step.1 in
    subst (λ w. IsSoundWorld sealer w) (sym step.2) (record {
      copies = All-set P old.copies place (step.0) its sound.copies;
      states = sound.states;
      took = sound.took;
      last = sound.last;
    })
sound_step sealer old (Copies from) new sound step =
    let P = IsSound sealer old.took in
    let its = all_at P old.states from (step.0) sound.states step.1 in
    subst (λ w. IsSoundWorld sealer w) (sym step.2) (record {
      copies = All-append P old.copies (step.0 ∷ []) sound.copies (All-cons P (step.0) [] its (All-nil P));
      states = sound.states;
      took = sound.took;
      last = sound.last;
    })
sound_step sealer old (Takes it) new sound step =
    subst (λ w. IsSoundWorld sealer w) (sym step.2) (sound_taken sealer old it sound step.0 step.1)
sound_step sealer old (Hears place receipt) new sound step =
    let copy = step.0 in
    let its = all_at (IsSound sealer old.took) old.copies place copy sound.copies step.1 in
    let finding = (step.4).0 in
    let after = sound_heard sealer old.took copy receipt finding its step.3 (step.4).1 in
    subst (λ w. IsSoundWorld sealer w) (sym (step.4).2) (sound_state sealer old place (after_finding copy receipt.number finding) sound after)
sound_step sealer old (Begins place seen) new sound step =
    let copy = step.0 in
    let its = all_at (IsSound sealer old.took) old.copies place copy sound.copies step.1 in
    let after = (step.2).0 in
    subst (λ w. IsSoundWorld sealer w) (sym (step.2).2) (sound_state sealer old place after sound (sound_begun sealer old.took copy seen after its (step.2).1))

sound_all : (sealer : SealerState) (old : World) (events : List Event) (new : World) → IsSoundWorld sealer old → LeadsCopies sealer old events new → IsSoundWorld sealer new
sound_all sealer old [] new sound same = subst (λ w. IsSoundWorld sealer w) (sym same) sound
sound_all sealer old (event ∷ events) new sound leads =
    sound_all sealer (leads.0) events new (sound_step sealer old event (leads.0) sound leads.1) leads.2

pub world_sound : (sealer : SealerState) (events : List Event) (world : World) → LeadsCopies sealer (new_world sealer) events world → IsSoundWorld sealer world
world_sound sealer events world leads = sound_all sealer (new_world sealer) events world (sound_start sealer) leads
