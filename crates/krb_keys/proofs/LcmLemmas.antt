-- The least common multiple, as a search finds it.
use Rattle.std.proofs.Common.{◌≡◌, ◌≢◌, ℕ, zero, suc, ◌+◌, ◌*◌, ◌/◌, ◌%◌, ◌<◌, ◌≤◌, inl, inr, Bool, eqb, cond, Some, map, sym, refl, ap, ◌∙◌, arith}
use Rattle.std.specs.Prelude.{unwrap_or}
use Rattle.std.specs.List.{find, range_with_len}
use Rattle.std.specs.Int.{◌∣◌}
use Rattle.std.proofs.Math.Nat.{mod-lt, mul-mod_right, div-mul_cancel, dvd-mul_left, dvd-mul_left_of_dvd, dvd-add_iff_right, dvd_of_mod-eq-zero, mod-eq-zero_of_dvd}
use Rattle.std.proofs.lemmas.Nat.{div-add-mod'}
use Rattle.std.proofs.lemmas.Bool.{eq-eqb, ne_eqb, cases_lt}
use Rattle.krb_keys.specs.Nfold.{lcm, IsLcm}

-- the first multiple of a that b divides, of the `count` ones from `from` times a on
unfoldable pub least_from : ℕ → ℕ → ℕ → ℕ → ℕ
least_from a b from count = unwrap_or (find (λ c. eqb (c % b) 0) (map (λ m. m * a) (range_with_len from count))) (b * a)

-- the search from the first multiple on
pub lcm_is : (a b : ℕ) → lcm a b ≡ least_from a b 1 b
unfolding lcm least_from
lcm_is a b = refl

-- a multiple that b divides ends the search
pub found : (a b from count : ℕ) → from * a % b ≡ 0 → 0 < count → least_from a b from count ≡ from * a
unfolding least_from
found a b from zero e some = absurd (omega arith)
found a b from (suc count) e some =
    ap (λ (t : Bool). unwrap_or (cond t (Some (from * a))
    (find (λ c. eqb (c % b) 0) (map (λ m. m * a) (range_with_len (from + 1) count)))) (b * a))
    (eq-eqb (from * a % b) 0 e)

-- a multiple that b does not divide is passed
pub passed : (a b from count rest : ℕ) → from * a % b ≢ 0 → count ≡ suc rest
    → least_from a b from count ≡ least_from a b (from + 1) rest
unfolding least_from
passed a b from count rest ne e =
    ap (λ (k : ℕ). unwrap_or (find (λ c. eqb (c % b) 0) (map (λ m. m * a) (range_with_len from k))) (b * a)) e
    ∙ ap (λ (t : Bool). unwrap_or (cond t (Some (from * a))
    (find (λ c. eqb (c % b) 0) (map (λ m. m * a) (range_with_len (from + 1) rest)))) (b * a))
    (ne_eqb (from * a % b) 0 ne)

-- m is the first number from `from` on whose product with a is divided by b
record IsFirst (a b from m : ℕ) : Type 0 where
  after : from ≤ m
  divides : m * a % b ≡ 0
  before : (j : ℕ) → from ≤ j → j < m → j * a % b ≢ 0

-- one step of the search for the first such number, which is w at the latest
first_step : (a b from count w r : ℕ) → r ≡ from * a % b → from ≤ w → w * a % b ≡ 0
    → (from + 1 ≤ w → (m : ℕ) × (IsFirst a b (from + 1) m × (least_from a b (from + 1) count ≡ m * a)))
    → (m : ℕ) × (IsFirst a b from m × (least_from a b from (suc count) ≡ m * a))
first_step a b from count w zero e lo we rest = (
  from,
  (
    record {
      after = omega arith;
      divides = sym e;
      before = λ j h k. absurd (omega arith);
    },
    found a b from (suc count) (sym e) (omega arith),
  ),
)
first_step a b from count w (suc r) e lo we rest =
    let fails : from * a % b ≢ 0 = λ z. omega (arith, e, z) in
    let other : from ≢ w = λ q. fails (ap (λ (x : ℕ). x * a % b) q ∙ we) in
    let later : from + 1 ≤ w = omega arith in
    let (m, (first, is)) = rest later in (
      m,
      (
        record {
          after = omega (arith, first.after);
          divides = first.divides;
          before = λ j h k. elim (cases_lt from j) [
            | inl lt ↦ first.before j (omega arith) k
            | inr le ↦ λ z. let same : from ≡ j = omega arith in fails (ap (λ (x : ℕ). x * a % b) same ∙ z)
          ];
        },
        passed a b from (suc count) count fails refl ∙ is,
      ),
    )

-- the search finds the first such number
first_from : (a b from count w : ℕ) → from ≤ w → w < from + count → w * a % b ≡ 0
    → (m : ℕ) × (IsFirst a b from m × (least_from a b from count ≡ m * a))
first_from a b from zero w lo hi e = absurd (omega arith)
first_from a b from (suc count) w lo hi e =
    first_step a b from count w (from * a % b) refl lo e (λ h. first_from a b (from + 1) count w h (omega arith) e)

-- a number that a and b divide is a multiple of the first common one
divides_common : (a b m c : ℕ) → IsFirst a b 1 m → a ∣ c → b ∣ c → m * a ∣ c
divides_common a b m c first ha hb =
    let q : ℕ = c / a in
    let whole : b ∣ m * a = dvd_of_mod-eq-zero b first.divides in
    let parts : q / m * m + q % m ≡ q = div-add-mod' q m in
    let sum : c ≡ q / m * (m * a) + q % m * a =
    sym (div-mul_cancel a ha) ∙ ap (λ (x : ℕ). x * a) (sym parts) ∙ omega arith in
    let rest : b ∣ q % m * a = (dvd-add_iff_right b (dvd-mul_left_of_dvd b whole (q / m))).1 (rw sum at hb) in
    let none : q % m ≡ 0 = no_rest (q % m) refl rest in
    let all : c ≡ q / m * (m * a) = sum ∙ ap (λ (x : ℕ). q / m * (m * a) + x * a) none ∙ omega arith in
    rw all (dvd-mul_left (m * a) (q / m))
  where
    no_rest : (r : ℕ) → r ≡ c / a % m → b ∣ r * a → r ≡ 0
    no_rest zero e h = refl
    no_rest (suc r) e h =
        let low : 1 ≤ suc r = omega arith in
        let small : c / a % m < m = mod-lt (c / a) (omega (arith, first.after)) in
        absurd (first.before (suc r) low (omega (arith, e, small)) (mod-eq-zero_of_dvd b h))

-- what the search finds is the least common multiple
pub lcm_divides : (a b : ℕ) → 0 < b → IsLcm a b (lcm a b)
lcm_divides a b some =
    let (m, (first, is)) = first_from a b 1 b b (omega arith) (omega arith) (mul-mod_right b a) in
    let l : lcm a b ≡ m * a = lcm_is a b ∙ is in
    rw l (dvd-mul_left a m, dvd_of_mod-eq-zero b first.divides, λ c ha hb. divides_common a b m c first ha hb)
