-- Pauses that double, and how rare tries are.
use Rattle.std.proofs.Common.{◌≡◌, ℕ, zero, suc, ◌+◌, ◌*◌, ◌^◌, ◌<◌, ◌≤◌, min, List, [], ◌∷◌, length, refl, sym, ap, subst, ◌∙◌, inl, inr, arith}
use Rattle.std.proofs.Math.Nat.{le-mul_of_pos_right, mul-le-mul_right, mul_assoc, mul_comm, min-eq_left, min-eq_right, pow-succ'}
use Rattle.std.proofs.lemmas.Bool.{cases_lt}
use Rattle.krb_engine.specs.declared.pause.Pause.{Pause}
use Rattle.krb_engine.specs.Pause.{IsOver, longer, pause_after}
use Rattle.krb_engine.specs.QueueLaws.{Tries, pauses, PausesDouble, TriesAreRare}

-- ---- a pause that is doubled

positive : (n : ℕ) → 0 < 2 ^ n
positive zero = omega arith
positive (suc n) = (let more : 2 ^ suc n ≡ 2 * 2 ^ n = pow-succ' 2 n in omega (arith, positive n, more))

-- a cap may be kept before numbers are multiplied, or after
capped : (m cap p : ℕ) → 0 < p → min (min m cap * p) cap ≡ min (m * p) cap
capped m cap p pos = elim (cases_lt m cap) [
  | inl below ↦
      let le : m ≤ cap = omega (arith, below) in
      ap (λ k. min (k * p) cap) (min-eq_left le)
  | inr above ↦
      let large : cap ≤ cap * p = le-mul_of_pos_right cap pos in
      let larger : cap * p ≤ m * p = mul-le-mul_right p above in
      let both : cap ≤ m * p = omega (arith, large, larger) in
      ap (λ k. min (k * p) cap) (min-eq_right above) ∙ (min-eq_right large ∙ sym (min-eq_right both))
]

one_more : (first n : ℕ) → 2 * first * 2 ^ n ≡ first * 2 ^ suc n
one_more first n = ap (λ k. k * 2 ^ n) (mul_comm 2 first) ∙ (mul_assoc first 2 (2 ^ n) ∙ sym (ap (λ k. first * k) (pow-succ' 2 n)))

doubled : (cap first tries : ℕ) → pause_after cap (min (2 * first) cap) tries ≡ pause_after cap first (suc tries)
doubled cap first tries = capped (2 * first) cap (2 ^ tries) (positive tries) ∙ ap (λ k. min k cap) (one_more first tries)

pub undoubled : (cap first : ℕ) → first ≤ cap → pause_after cap first 0 ≡ first
undoubled cap first fits = (let once : first * 2 ^ 0 ≡ first = omega arith in ap (λ k. min k cap) once ∙ min-eq_left fits)

pub pauses_double : PausesDouble
pauses_double cap old [] new fits same = ap (λ (pause : Pause). pause.length) same ∙ sym (undoubled cap old.length fits)
pauses_double cap old (now ∷ times) new fits tries =
    pauses_double cap (longer cap old now) times new (omega arith) tries.1 ∙ doubled cap old.length (length times)

-- ---- the sum of them

-- the first pause, and those after it
pub pauses_from : (cap first tries : ℕ) → pauses cap first (suc tries) ≡ pause_after cap first 0 + pauses cap (min (2 * first) cap) tries
pauses_from cap first zero = omega arith
pauses_from cap first (suc tries) = omega (arith, pauses_from cap first tries, doubled cap first tries)

pub tries_are_rare : TriesAreRare
tries_are_rare cap old [] new fits same = (let since : new.since ≡ old.since = ap (λ (pause : Pause). pause.since) same in omega (arith, since))
tries_are_rare cap old (now ∷ times) new fits tries =
    omega (arith, pauses_from cap old.length (length times), undoubled cap old.length fits, tries.0, tries_are_rare cap (longer cap old now) times new (omega arith) tries.1)
