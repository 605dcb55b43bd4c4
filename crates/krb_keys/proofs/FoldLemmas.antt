-- A sum with end-around carry is the sum modulo 2 ^ n - 1, with all ones for a positive multiple.
use Rattle.std.proofs.Common.{◌≡◌, ℕ, zero, suc, ◌+◌, ◌-◌, ◌%◌, ◌<◌, ◌≤◌, Bool, cond, ltb, refl, sym, ap, ◌∙◌, inl, inr, arith, add-one, zero-add}
use Rattle.std.proofs.Math.Nat.{mod-eq_of_lt, mod-eq-sub-mod, mod-add-mod, mod-lt}
use Rattle.std.proofs.lemmas.Bool.{lt-ltb, le-ltb, cases_lt}

-- end_around and around over the modulus m, with m + 1 numbers
unfoldable pub fold_m : ℕ → ℕ → ℕ
fold_m m zero = 0
fold_m m (suc s) = s % m + 1

unfoldable pub around_m : ℕ → ℕ → ℕ
around_m m s = cond (ltb s (m + 1)) s (s - m)

-- a sum that fits stays as it is
below : (m s : ℕ) → s < m + 1 → around_m m s ≡ s
unfolding around_m
below m s h = ap (λ (b : Bool). cond b s (s - m)) (lt-ltb s (m + 1) h)

-- a sum that does not fit gives its carry back at the low end
above : (m s : ℕ) → m + 1 ≤ s → around_m m s ≡ s - m
unfolding around_m
above m s h = ap (λ (b : Bool). cond b s (s - m)) (le-ltb s (m + 1) h)

fold_zero : (m : ℕ) → fold_m m 0 ≡ 0
unfolding fold_m
fold_zero m = refl

-- a number up to m is itself
fold_small : (m b : ℕ) → b ≤ m → fold_m m b ≡ b
unfolding fold_m
fold_small m zero h = refl
fold_small m (suc b) h = let lt : b < m = omega arith in let e : b % m ≡ b = mod-eq_of_lt lt in omega arith

fold_suc : (m s : ℕ) → fold_m m (s + 1) ≡ s % m + 1
unfolding fold_m
fold_suc m s = rw add-one refl

-- one number more, with its carry added at the low end
pub fold_more : (m s b : ℕ) → 0 < m → b ≤ m → around_m m (fold_m m s + b) ≡ fold_m m (s + b)
fold_more m zero b pos h = ap (λ (x : ℕ). around_m m (x + b)) (fold_zero m) ∙ below m (0 + b) (omega arith)
    ∙ zero-add b ∙ sym (fold_small m b h) ∙ ap (fold_m m) (sym (zero-add b))
fold_more m (suc s) b pos h =
    let r : ℕ = s % m in
    let small : r < m = mod-lt s pos in
    let start : fold_m m (suc s) ≡ r + 1 = ap (fold_m m) (omega arith) ∙ fold_suc m s in
    let end : fold_m m (suc s + b) ≡ (s + b) % m + 1 =
    ap (fold_m m) {x = suc s + b} {y = s + b + 1} (omega arith) ∙ fold_suc m (s + b) in
    let same : (r + b) % m ≡ (s + b) % m = mod-add-mod s m b in
    elim (cases_lt (r + b) m) [
      | inl lt ↦
          let e : (r + b) % m ≡ r + b = mod-eq_of_lt lt in
          let fits : fold_m m (suc s) + b < m + 1 = omega arith in
          below m (fold_m m (suc s) + b) fits ∙ omega arith
      | inr ge ↦
          let back : (r + b) % m ≡ (r + b - m) % m = mod-eq-sub-mod ge in
          let lt : r + b - m < m = omega arith in
          let e : (r + b - m) % m ≡ r + b - m = mod-eq_of_lt lt in
          let over : m + 1 ≤ fold_m m (suc s) + b = omega arith in
          above m (fold_m m (suc s) + b) over ∙ omega arith
    ]
