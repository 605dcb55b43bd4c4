-- Messages that are looked at, one after another.
use Rattle.std.proofs.Common.{◌≡◌, ℕ, zero, suc, ◌+◌, ◌<◌, ◌≤◌, List, [], ◌∷◌, ◌++◌, length, take, get_or, Bool, true, false, Option, Some, refl, sym, ap, subst, ◌∙◌, arith, add-one, inl, inr}
use Rattle.std.specs.Prelude.{slice_get, map}
use Rattle.std.proofs.lemmas.Option.{slice_get-get_or}
use Rattle.krb_base.specs.Limits.{user_data_limit}
use Rattle.krb_seal.specs.declared.seal_error.SealError.{SealError}
use Rattle.krb_seal.specs.declared.seal_error.SealError.TheVariants as errors
use Rattle.krb_seal.specs.Sealer.{SealerState, advanced, end_of_numbers}
use Rattle.krb_seal.specs.Lent.{advanced_by}
use Rattle.krb_bulk.specs.Many.{AnswersMany, CanSealInTurn, RefusesFirst, SealsInTurn}
use Rattle.krb_bulk.specs.declared.many_error.ManyError.{ManyError}
use Rattle.krb_bulk.specs.declared.many_error.ManyError.TheVariants as faults
use Rattle.std.specs.Prelude.{Err}
use Rattle.std.specs.Global.{Vec}
use Rattle.std.proofs.lemmas.List.{length-map}
use Rattle.krb_bulk.specs.Numbered.{RefusesAt}
use Rattle.krb_bulk.proofs.TurnLemmas.{can_seal_at, from_first, from_next}
use Rattle.krb_bulk.specs.declared.unsealed.Unsealed.{Unsealed}
use Rattle.krb_structs.specs.declared.fault.Fault.TheVariants.{Wiped, TooLong, Exhausted}
use Rattle.krb_structs.specs.declared.moment.KrbMoment.{KrbMoment}
use Rattle.krb_structs.specs.Moment.{IsTimed}
use Rattle.krb_structs.specs.Reasons.{NeedsMoment}
use Rattle.krb_structs.specs.Fault.{Needs, fault_code, fault_of}
use Rattle.krb_calls.specs.declared.unsealed.KrbUnsealed.{KrbUnsealed}
use Rattle.krb_calls.specs.Checks.{AllTimed, FailsAt, IsSealableAt}
use Rattle.krb_calls.specs.Many.{AreSealable, FailsFirst, FailsNext, IsSealable}
use Rattle.krb_calls.specs.Unsealed.{unsealed_of}

pub sealable_next : (s : SealerState) (number : ℕ) (m : KrbUnsealed) → IsSealableAt s.wiped number m → IsSealable (record s { next = number }) m
sealable_next s number m h = (h.0, can_seal_at s number (unsealed_of m) h.1)

-- why a message isn't sealed, as its own call answers
because : (s : SealerState) (number : ℕ) (m : KrbUnsealed) (why : SealError) (code : ℕ) → number ≤ end_of_numbers → RefusesAt s.wiped number (unsealed_of m) why → code ≡ fault_code (fault_of why)
    → Needs (s.wiped ≡ false) Wiped (Needs (length m.user_data.now ≤ user_data_limit) TooLong (Needs (¬ (number ≡ end_of_numbers)) Exhausted (λ c. ⊥))) code
because s number m errors.Wiped code le h is = inl (λ live. let no : true ≡ false = sym h ∙ live in cc, is)
because s number m errors.TooLong code le h is = inr (h.0, inl (λ short. omega (arith, h.1, short), is))
because s number m errors.Exhausted code le h is = inr (h.0, inr (h.1, inl (λ left. left (omega (arith, h.2, le)), is)))
because s number m errors.Memory code le h is = absurd h

goes_on : (at : KrbMoment) (P Q : ℕ → Type 0) (code : ℕ) → (P code → Q code) → NeedsMoment at P code → NeedsMoment at Q code
goes_on at P Q code f (inl h) = inl h
goes_on at P Q code f (inr (r, inl h)) = inr (r, inl h)
goes_on at P Q code f (inr (r, inr (m, p))) = inr (r, inr (m, f p))

pub fails_next : (s : SealerState) (number : ℕ) (m : KrbUnsealed) (code : ℕ) → number ≤ end_of_numbers → FailsAt s.wiped number m code → FailsNext (record s { next = number }) m code
fails_next s number m code le h =
    goes_on m.at
    (λ c. (why : SealError) × RefusesAt s.wiped number (unsealed_of m) why × (c ≡ fault_code (fault_of why)))
    (Needs (s.wiped ≡ false) Wiped (Needs (length m.user_data.now ≤ user_data_limit) TooLong (Needs (¬ (number ≡ end_of_numbers)) Exhausted (λ c. ⊥))))
    code (λ p. because s number m p.0 code le p.1 p.2) h

same_message : (x m : KrbUnsealed) → ◌≡◌ {A = Option KrbUnsealed} (Some x) (Some m) → x ≡ m
same_message x m e = cc

-- one more can be sealed
pub sealable_more : (s : SealerState) (ms : List KrbUnsealed) (i : ℕ) (m : KrbUnsealed) → AreSealable s (take i ms) → slice_get ms i ≡ Some m → IsSealable (advanced_by s i) m
    → AreSealable s (take (suc i) ms)
sealable_more s [] i m h e can = absurd cc
sealable_more s (x ∷ ms) zero m h e can =
    (subst (λ (z : KrbUnsealed). IsSealable s z) (sym (same_message x m e)) (from_first (λ t. IsSealable t m) s can), tt)
sealable_more s (x ∷ ms) (suc i) m h e can = (h.0, sealable_more (advanced s) ms i m h.1 e (from_next (λ t. IsSealable t m) s i can))

-- the first that can't be, after those that can
pub fails_after : (s : SealerState) (ms : List KrbUnsealed) (i : ℕ) (m : KrbUnsealed) (code : ℕ) → AreSealable s (take i ms) → slice_get ms i ≡ Some m
    → FailsNext (advanced_by s i) m code → FailsFirst s ms i code
fails_after s [] i m code h e fails = absurd cc
fails_after s (x ∷ ms) zero m code h e fails =
    subst (λ (z : KrbUnsealed). FailsNext s z code) (sym (same_message x m e)) (from_first (λ t. FailsNext t m code) s fails)
fails_after s (x ∷ ms) (suc i) m code h e fails =
    (h.0, fails_after (advanced s) ms i m code h.1 e (from_next (λ t. FailsNext t m code) s i fails))

-- what was read at an index of the messages can't be sealed
pub fails_read : (s : SealerState) (ms : List KrbUnsealed) (i : ℕ) (d : KrbUnsealed) (w : Bool) (number code : ℕ) → i < length ms → w ≡ s.wiped → number ≡ s.next + i
    → number ≤ end_of_numbers → AreSealable s (take i ms) → FailsAt w number (get_or ms i d) code → FailsFirst s ms i code
fails_read s ms i d w number code lt same at le before fails =
    let m = get_or ms i d in
    let told : FailsAt s.wiped number m code = subst (λ (v : Bool). FailsAt v number m code) same fails in
    fails_after s ms i m code before (slice_get-get_or ms i d lt)
    (subst (λ (n : ℕ). FailsNext (record s { next = n }) m code) at (fails_next s number m code le told))

-- or can be
pub sealable_read : (s : SealerState) (ms : List KrbUnsealed) (i : ℕ) (d : KrbUnsealed) (w : Bool) (number : ℕ) → i < length ms → w ≡ s.wiped → number ≡ s.next + i
    → AreSealable s (take i ms) → IsSealableAt w number (get_or ms i d)
    → AreSealable s (take (i + 1) ms) × (w ≡ s.wiped) × (number + 1 ≡ s.next + (i + 1)) × (number + 1 ≤ end_of_numbers)
sealable_read s ms i d w number lt same at before can =
    let m = get_or ms i d in
    let told : IsSealableAt s.wiped number m = subst (λ (v : Bool). IsSealableAt v number m) same can in
    let next : IsSealable (advanced_by s i) m = subst (λ (n : ℕ). IsSealable (record s { next = n }) m) at (sealable_next s number m told) in (
      subst (λ (n : ℕ). AreSealable s (take n ms)) (sym (add-one i)) (sealable_more s ms i m before (slice_get-get_or ms i d lt) next),
      same,
      omega (arith, at),
      omega (arith, told.1.left),
    )

pub all_timed : (s : SealerState) (ms : List KrbUnsealed) → AreSealable s ms → AllTimed ms
all_timed s [] h = tt
all_timed s (m ∷ ms) h = (h.0.0, all_timed (advanced s) ms h.1)

pub timed_at : (ms : List KrbUnsealed) (i : ℕ) (m : KrbUnsealed) → AllTimed ms → slice_get ms i ≡ Some m → IsTimed m.at
timed_at [] i m h e = absurd cc
timed_at (x ∷ ms) zero m h e = subst (λ (z : KrbUnsealed). IsTimed z.at) (same_message x m e) h.0
timed_at (x ∷ ms) (suc i) m h e = timed_at ms i m h.1 e

pub timed_read : (ms : List KrbUnsealed) (i : ℕ) (d : KrbUnsealed) → i < length ms → AllTimed ms → IsTimed (get_or ms i d).at
timed_read ms i d lt h = timed_at ms i (get_or ms i d) h (slice_get-get_or ms i d lt)

pub can_seal_all : (s : SealerState) (ms : List KrbUnsealed) → AreSealable s ms → CanSealInTurn s (map unsealed_of ms)
can_seal_all s [] h = tt
can_seal_all s (m ∷ ms) h = (h.0.1, can_seal_all (advanced s) ms h.1)

-- none is refused where all can be sealed
none_refused : (s : SealerState) (us : List Unsealed) (i : ℕ) (why : SealError) → CanSealInTurn s us → RefusesFirst s us i why → ⊥
none_refused s [] i why can h = h
none_refused s (u ∷ us) zero errors.Wiped can h = let no : true ≡ false = sym h ∙ can.0.live in cc
none_refused s (u ∷ us) zero errors.TooLong can h = omega (arith, h.1, can.0.short)
none_refused s (u ∷ us) zero errors.Exhausted can h = omega (arith, h.2, can.0.left)
none_refused s (u ∷ us) zero errors.Memory can h = h
none_refused s (u ∷ us) (suc i) why can h = none_refused (advanced s) us i why can.1 h.1

pub no_refusal : (s t : SealerState) (us : List Unsealed) (e : ManyError) (i : ℕ) (why : SealError) → t ≡ s → CanSealInTurn s us → e ≡ faults.Refused i why
    → AnswersMany {A = Vec (Vec ℕ)} t us (Err e) → ⊥
no_refusal s t us e i why same can refused h =
    none_refused s us i why can
    (subst (λ (x : ManyError). AnswersMany {A = Vec (Vec ℕ)} s us (Err x)) refused
    (subst (λ (x : SealerState). AnswersMany {A = Vec (Vec ℕ)} x us (Err e)) same h))

-- as many messages in Rattle's type can be sealed
pub can_seal_given : (s : SealerState) (ms : List KrbUnsealed) (us : List Unsealed) → us ≡ map unsealed_of ms → AreSealable s ms → CanSealInTurn s us
can_seal_given s ms us all can = subst (λ (xs : List Unsealed). CanSealInTurn s xs) (sym all) (can_seal_all s ms can)

-- there is a frame for each message
count : (s : SealerState) (us : List Unsealed) (fs : List (Vec ℕ)) → SealsInTurn s us fs → length fs ≡ length us
count s [] [] h = refl
count s [] (f ∷ fs) h = absurd h
count s (u ∷ us) [] h = absurd h
count s (u ∷ us) (f ∷ fs) h = ap suc (count (advanced s) us fs h.1)

pub frame_count : (s : SealerState) (ms : List KrbUnsealed) (fs : List (Vec ℕ)) → SealsInTurn s (map unsealed_of ms) fs → length fs ≡ length ms
frame_count s ms fs h = count s (map unsealed_of ms) fs h ∙ length-map ms unsealed_of

-- one more in Rattle's type
pub unsealed-more : (ms : List KrbUnsealed) (i : ℕ) (d : KrbUnsealed) → i < length ms → map unsealed_of (take (suc i) ms) ≡ map unsealed_of (take i ms) ++ unsealed_of (get_or ms i d) ∷ []
unsealed-more [] i d lt = absurd (omega (arith, lt))
unsealed-more (m ∷ ms) zero d lt = refl
unsealed-more (m ∷ ms) (suc i) d lt = ap (λ (xs : List Unsealed). unsealed_of m ∷ xs) (unsealed-more ms i d (omega (arith, lt)))
