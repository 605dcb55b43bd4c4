-- Messages that are sealed one after another, by their indices.
use Rattle.std.proofs.Common.{◌≡◌, ◌↔◌, ℕ, zero, suc, ◌+◌, ◌^◌, ◌<◌, ◌≤◌, List, [], ◌∷◌, ◌++◌, length, take, false, Option, Some, refl, sym, subst, arith, add-zero}
use Rattle.std.specs.Prelude.{slice_get}
use Rattle.std.specs.Global.{Vec}
use Rattle.krb_seal.specs.declared.seal_error.SealError.{SealError}
use Rattle.krb_seal.specs.declared.seal_error.SealError.TheVariants as errors
use Rattle.krb_seal.specs.Sealer.{SealerState, advanced, end_of_numbers}
use Rattle.krb_seal.specs.Lent.{advanced_by}
use Rattle.krb_bulk.specs.declared.unsealed.Unsealed.{Unsealed}
use Rattle.krb_bulk.specs.Many.{CanSeal, CanSealInTurn, Refuses, RefusesFirst, SealsInTurn, SealsMessage}
use Rattle.krb_bulk.specs.Numbered.{CanSealAt, RefusesAt}

-- ---- the number of each

-- what holds of the sealer holds of it after no frame
pub at_first : (P : SealerState → Type 0) (s : SealerState) → P s → P (advanced_by s 0)
at_first P s h = subst (λ (n : ℕ). P (record s { next = n })) (sym (add-zero s.next)) h

pub from_first : (P : SealerState → Type 0) (s : SealerState) → P (advanced_by s 0) → P s
from_first P s h = subst (λ (n : ℕ). P (record s { next = n })) (add-zero s.next) h

one_more : (a k : ℕ) → a + 1 + k ≡ a + suc k
one_more a k = omega arith

-- k frames after the first are k + 1 frames
pub at_next : (P : SealerState → Type 0) (s : SealerState) (k : ℕ) → P (advanced_by (advanced s) k) → P (advanced_by s (suc k))
at_next P s k h = subst (λ (n : ℕ). P (record s { next = n })) (one_more s.next k) h

pub from_next : (P : SealerState → Type 0) (s : SealerState) (k : ℕ) → P (advanced_by s (suc k)) → P (advanced_by (advanced s) k)
from_next P s k h = subst (λ (n : ℕ). P (record s { next = n })) (sym (one_more s.next k)) h

same_message : (x m : Unsealed) → ◌≡◌ {A = Option Unsealed} (Some x) (Some m) → x ≡ m
same_message x m e = cc

-- ---- what can be sealed

-- each can be sealed at its number
pub can_at : (s : SealerState) (ms : List Unsealed) (k : ℕ) (m : Unsealed) → CanSealInTurn s ms → slice_get ms k ≡ Some m → CanSeal (advanced_by s k) m
can_at s [] k m h e = absurd cc
can_at s (x ∷ ms) zero m h e =
    at_first (λ t. CanSeal t m) s (subst (λ (z : Unsealed). CanSeal s z) (same_message x m e) h.0)
can_at s (x ∷ ms) (suc k) m h e = at_next (λ t. CanSeal t m) s k (can_at (advanced s) ms k m h.1 e)

-- one more can be sealed
pub can_more : (s : SealerState) (ms : List Unsealed) (i : ℕ) → CanSealInTurn s (take i ms) → i < length ms
    → ((m : Unsealed) → slice_get ms i ≡ Some m → CanSeal (advanced_by s i) m) → CanSealInTurn s (take (suc i) ms)
can_more s [] i h lt at = absurd (omega (arith, lt))
can_more s (m ∷ ms) zero h lt at = (from_first (λ t. CanSeal t m) s (at m refl), tt)
can_more s (m ∷ ms) (suc i) h lt at =
    (h.0, can_more (advanced s) ms i h.1 (omega (arith, lt)) (λ x e. from_next (λ t. CanSeal t x) s i (at x e)))

-- so many numbers are left
pub numbers_left : (s : SealerState) (ms : List Unsealed) → CanSealInTurn s ms → s.next ≤ end_of_numbers → s.next + length ms ≤ end_of_numbers
numbers_left s [] h le = omega (arith, le)
numbers_left s (m ∷ ms) h le = omega (arith, numbers_left (advanced s) ms h.1 (omega (arith, h.0.left)))

-- a sealer that seals anything is live
pub live_in_turn : (s : SealerState) (ms : List Unsealed) → CanSealInTurn s ms → 0 < length ms → s.wiped ≡ false
live_in_turn s [] h lt = absurd (omega (arith, lt))
live_in_turn s (m ∷ ms) h lt = h.0.live

-- the first that can't be sealed, after those that can
pub refused_after : (s : SealerState) (ms : List Unsealed) (i : ℕ) (m : Unsealed) (why : SealError) → CanSealInTurn s (take i ms) → slice_get ms i ≡ Some m
    → Refuses (advanced_by s i) m why → RefusesFirst s ms i why
refused_after s [] i m why h e refuses = absurd cc
refused_after s (x ∷ ms) zero m why h e refuses =
    subst (λ (z : Unsealed). Refuses s z why) (sym (same_message x m e)) (from_first (λ t. Refuses t m why) s refuses)
refused_after s (x ∷ ms) (suc i) m why h e refuses =
    (h.0, refused_after (advanced s) ms i m why h.1 e (from_next (λ t. Refuses t m why) s i refuses))

-- a number is left or it is the end
pub refuses_at : (s : SealerState) (number : ℕ) (m : Unsealed) (why : SealError) → number ≤ end_of_numbers → RefusesAt s.wiped number m why
    → Refuses (record s { next = number }) m why
refuses_at s number m errors.Wiped le h = h
refuses_at s number m errors.TooLong le h = h
refuses_at s number m errors.Exhausted le h = (h.0, h.1, omega (arith, le, h.2))
refuses_at s number m errors.Memory le h = h

pub can_seal_at : (s : SealerState) (number : ℕ) (m : Unsealed) → CanSealAt s.wiped number m → CanSeal (record s { next = number }) m
can_seal_at s number m h = record { live = h.live; short = h.short; left = h.left }

-- ---- what was sealed

-- one more frame
pub seals_more : (s : SealerState) (ms : List Unsealed) (fs : List (Vec ℕ)) (f : Vec ℕ) → length fs < length ms → SealsInTurn s (take (length fs) ms) fs
    → ((m : Unsealed) → slice_get ms (length fs) ≡ Some m → SealsMessage (advanced_by s (length fs)) m f.items)
    → SealsInTurn s (take (suc (length fs)) ms) (fs ++ f ∷ [])
seals_more s [] fs f lt h at = absurd (omega (arith, lt))
seals_more s (m ∷ ms) [] f lt h at = (from_first (λ t. SealsMessage t m f.items) s (at m refl), tt)
seals_more s (m ∷ ms) (g ∷ fs) f lt h at =
    (h.0, seals_more (advanced s) ms fs f (omega (arith, lt)) h.1 (λ x e. from_next (λ t. SealsMessage t x f.items) s (length fs) (at x e)))

-- each has one frame, at its number
pub one_each : (s : SealerState) (ms : List Unsealed) (fs : List (Vec ℕ)) → SealsInTurn s ms fs → length fs ≡ length ms
one_each s [] [] h = refl
one_each s [] (f ∷ fs) h = absurd h
one_each s (m ∷ ms) [] h = absurd h
one_each s (m ∷ ms) (f ∷ fs) h = omega (arith, one_each (advanced s) ms fs h.1)

same_frame : (x f : Vec ℕ) → ◌≡◌ {A = Option (Vec ℕ)} (Some x) (Some f) → x ≡ f
same_frame x f e = cc

pub each_at : (s : SealerState) (ms : List Unsealed) (fs : List (Vec ℕ)) (k : ℕ) (m : Unsealed) (f : Vec ℕ) → SealsInTurn s ms fs
    → slice_get ms k ≡ Some m → slice_get fs k ≡ Some f → SealsMessage (advanced_by s k) m f.items
each_at s [] fs k m f h e g = absurd cc
each_at s (x ∷ ms) [] k m f h e g = absurd cc
each_at s (x ∷ ms) (y ∷ fs) zero m f h e g =
    at_first (λ t. SealsMessage t m f.items) s
    (subst (λ (z : Unsealed). SealsMessage s z f.items) (same_message x m e) (subst (λ (z : Vec ℕ). SealsMessage s x z.items) (same_frame y f g) h.0))
each_at s (x ∷ ms) (y ∷ fs) (suc k) m f h e g = at_next (λ t. SealsMessage t m f.items) s k (each_at (advanced s) ms fs k m f h.1 e g)

-- ---- what was refused

pub refused_there : (s : SealerState) (ms : List Unsealed) (i : ℕ) (why : SealError) → RefusesFirst s ms i why → i < length ms
refused_there s [] i why h = absurd h
refused_there s (x ∷ ms) zero why h = omega arith
refused_there s (x ∷ ms) (suc i) why h = omega (arith, refused_there (advanced s) ms i why h.1)

pub can_before : (s : SealerState) (ms : List Unsealed) (i : ℕ) (why : SealError) (k : ℕ) (m : Unsealed) → RefusesFirst s ms i why → k < i
    → slice_get ms k ≡ Some m → CanSeal (advanced_by s k) m
can_before s [] i why k m h lt e = absurd h
can_before s (x ∷ ms) zero why k m h lt e = absurd (omega (arith, lt))
can_before s (x ∷ ms) (suc i) why zero m h lt e = at_first (λ t. CanSeal t m) s (subst (λ (z : Unsealed). CanSeal s z) (same_message x m e) h.0)
can_before s (x ∷ ms) (suc i) why (suc k) m h lt e = at_next (λ t. CanSeal t m) s k (can_before (advanced s) ms i why k m h.1 (omega (arith, lt)) e)

-- ---- what can be sealed, in numbers

pub can_be_sealed : (s : SealerState) (m : Unsealed) → CanSeal s m ↔ ((s.wiped ≡ false) × (length m.user_data.now ≤ 1000001) × (s.next < 2 ^ 32))
can_be_sealed s m = (
  λ can. (can.live, omega (arith, can.short), omega (arith, can.left)),
  λ is. record { live = is.0; short = omega (arith, is.1); left = omega (arith, is.2) },
)
