-- Texts as numbers, and a sum with a carry.
use Rattle.std.proofs.Common.{◌≡◌, ℕ, zero, suc, ◌+◌, ◌-◌, ◌*◌, ◌/◌, ◌%◌, ◌^◌, ◌<◌, ◌≤◌, List, [], ◌∷◌, length, take, drop, get_or, refl, sym, ap, ◌∙◌, arith, add-one, length-drop, true, false, cond, ltb, replicate, zero-mul, zero-add}
use Rattle.std.proofs.Math.ListN.{set}
use Rattle.std.proofs.Math.Nat.{pow-suc, mul-le-mul_right}
use Rattle.std.proofs.Math.Seq.{drop-cons}
use Rattle.std.proofs.lemmas.List.{drop-set, take-set-le, take-take, drop_all, get_or-take}
use Rattle.std.proofs.lemmas.Bool.{lt-ltb, le-ltb}
use Rattle.krb_keys.specs.Nfold.{number}

pub number-cons : (x : ℕ) (xs : List ℕ) → number (x ∷ xs) ≡ x * 256 ^ length xs + number xs
unfolding number
number-cons x xs = refl

-- a digit more stays within one power more
digit_fits : (x e r t : ℕ) → x < 256 → r < e → t ≡ e * 256 → x * e + r < t
digit_fits x e r t hx hr ht =
    let m : x * e ≤ 255 * e = mul-le-mul_right e (omega arith) in
    omega arith

-- the number of a text of bytes is below the power of its length
pub number-lt : (xs : List ℕ) → ((i : ℕ) → get_or xs i 0 < 256) → number xs < 256 ^ length xs
unfolding number
number-lt [] h = omega arith
number-lt (x ∷ xs) h =
    let rest : number xs < 256 ^ length xs = number-lt xs (λ i. h (suc i)) in
    let small : x < 256 = h zero in
    let top : 256 ^ suc (length xs) ≡ 256 ^ length xs * 256 = pow-suc 256 (length xs) in
    digit_fits x (256 ^ length xs) (number xs) (256 ^ suc (length xs)) small rest top

-- the part of a text from place i on
pub number-drop : (xs : List ℕ) (i k : ℕ) → i < length xs → k + (i + 1) ≡ length xs
    → number (drop i xs) ≡ get_or xs i 0 * 256 ^ k + number (drop (i + 1) xs)
number-drop xs i k h e =
    let len : length (drop (suc i) xs) ≡ k = length-drop (suc i) xs ∙ omega arith in
    ap number (drop-cons xs i 0 h)
    ∙ number-cons (get_or xs i 0) (drop (suc i) xs)
    ∙ ap (λ (n : ℕ). get_or xs i 0 * 256 ^ n + number (drop (suc i) xs)) len
    ∙ ap (λ (n : ℕ). get_or xs i 0 * 256 ^ k + number (drop n xs)) (sym (add-one i))

-- the same part after byte i was written
pub number-set : (xs : List ℕ) (i k v : ℕ) → i < length xs → k + (i + 1) ≡ length xs
    → number (drop i (set xs i v)) ≡ v * 256 ^ k + number (drop (i + 1) xs)
number-set xs i k v h e =
    let len : length (drop (i + 1) xs) ≡ k = length-drop (i + 1) xs ∙ omega arith in
    ap number (drop-set xs i v h)
    ∙ number-cons v (drop (i + 1) xs)
    ∙ ap (λ (n : ℕ). v * 256 ^ n + number (drop (i + 1) xs)) len

-- a sum of digits is its digit and its carry
digit_sum : (s e : ℕ) → s % 256 * e + s / 256 * (e * 256) ≡ s * e
digit_sum s e =
    let parts : s ≡ s % 256 + 256 * (s / 256) = omega arith in
    let all : s * e ≡ (s % 256 + 256 * (s / 256)) * e = ap (λ (x : ℕ). x * e) parts in
    omega arith

-- the parts of a sum, put together
join : (a b t o x y p q left e carry : ℕ) → a + b ≡ t → t ≡ (p + q + left) * e → o + left * e ≡ x + y + carry
    → a + o + b ≡ p * e + x + (q * e + y) + carry
join a b t o x y p q left e carry d f g = omega arith

-- one byte more of a sum
pub add_more : (out old piece : List ℕ) (k left carry i : ℕ) → i + (k + 1) ≡ length out
    → length old ≡ length out → length piece ≡ length out
    → get_or out i 0 ≡ get_or old i 0
    → number (drop (i + 1) out) + left * 256 ^ k ≡ number (drop (i + 1) old) + number (drop (i + 1) piece) + carry
    → (s : ℕ) → s ≡ get_or out i 0 + get_or piece i 0 + left
    → number (drop i (set out i (s % 256))) + s / 256 * 256 ^ (k + 1)
    ≡ number (drop i old) + number (drop i piece) + carry
add_more out old piece k left carry i at lo lp same sum s es =
    let e : ℕ = 256 ^ k in
    let more : 256 ^ (k + 1) ≡ e * 256 = rw add-one (pow-suc 256 k) in
    let n = number-set out i k (s % 256) (omega arith) (omega arith) in
    let o = number-drop old i k (omega arith) (omega arith) in
    let p = number-drop piece i k (omega arith) (omega arith) in
    let d : s % 256 * e + s / 256 * (e * 256) ≡ s * e = digit_sum s e in
    let f : s * e ≡ (get_or old i 0 + get_or piece i 0 + left) * e =
    ap (λ (x : ℕ). x * e) (es ∙ ap (λ (x : ℕ). x + get_or piece i 0 + left) same) in
    rw (n, more, o, p) (join (s % 256 * e) (s / 256 * (e * 256)) (s * e) (number (drop (i + 1) out))
    (number (drop (i + 1) old)) (number (drop (i + 1) piece)) (get_or old i 0) (get_or piece i 0) left e carry d f sum)

-- one place more of a sum, added from the end down to `head`
pub add_step : (out old piece : List ℕ) (head left carry : ℕ) → 0 < head → head ≤ length old
    → length out ≡ length old → length piece ≡ length old
    → take head out ≡ take head old
    → number (drop head out) + left * 256 ^ (length old - head)
    ≡ number (drop head old) + number (drop head piece) + carry
    → (number
    (drop (head - 1) (set out (head - 1) ((get_or out (head - 1) 0 + get_or piece (head - 1) 0 + left) % 256)))
    + (get_or out (head - 1) 0 + get_or piece (head - 1) 0 + left) / 256 * 256 ^ (length old - (head - 1))
    ≡ number (drop (head - 1) old) + number (drop (head - 1) piece) + carry)
    × (take (head - 1) (set out (head - 1) ((get_or out (head - 1) 0 + get_or piece (head - 1) 0 + left) % 256))
    ≡ take (head - 1) old)
add_step out old piece head left carry some within lo lp before sum =
    let i : ℕ = head - 1 in
    let k : ℕ = length old - head in
    let next : head ≡ i + 1 = omega arith in
    let places : length old - i ≡ k + 1 = omega arith in
    let kept : take (i + 1) out ≡ take (i + 1) old = rw next at before in
    let same : get_or out i 0 ≡ get_or old i 0 =
    sym (get_or-take (i + 1) out i 0 (omega arith)) ∙ ap (λ (x : List ℕ). get_or x i 0) kept
    ∙ get_or-take (i + 1) old i 0 (omega arith) in
    let part : number (drop (i + 1) out) + left * 256 ^ k
    ≡ number (drop (i + 1) old) + number (drop (i + 1) piece) + carry =
    ap (λ (h : ℕ). number (drop h out) + left * 256 ^ k) (sym next) ∙ sum
    ∙ ap (λ (h : ℕ). number (drop h old) + number (drop h piece) + carry) next in (
      rw places (add_more out old piece k left carry i (omega arith) (omega arith) (omega arith) same part _ refl),
      take-set-le i out i _ (omega arith) ∙ sym (take-take i (i + 1) out (omega arith)) ∙ ap (take i) kept
          ∙ take-take i (i + 1) old (omega arith),
    )

-- zeros are the number 0
pub number-zeros : (n : ℕ) → number (replicate n 0) ≡ 0
unfolding number
number-zeros zero = refl
number-zeros (suc n) = rw (zero-mul, zero-add) (number-zeros n)

-- the carry of a sum, added at the low end
pub around_is : (a b c d first last e : ℕ) → a < e → b < e → first < e → c ≤ 1 → d ≤ 1
    → first + c * e ≡ a + b + 0 → last + d * e ≡ first + 0 + c → last ≡ (cond (ltb (a + b) e) (a + b) (a + b - (e - 1)))
around_is a b zero zero first last e ha hb hf hc hd p q =
    let t : ltb (a + b) e ≡ true = lt-ltb (a + b) e (omega arith) in rw t (omega arith)
around_is a b zero (suc zero) first last e ha hb hf hc hd p q = absurd (omega arith)
around_is a b (suc zero) zero first last e ha hb hf hc hd p q =
    let t : ltb (a + b) e ≡ false = le-ltb (a + b) e (omega arith) in rw t (omega arith)
around_is a b (suc zero) (suc zero) first last e ha hb hf hc hd p q = absurd (omega arith)
around_is a b (suc (suc c)) d first last e ha hb hf hc hd p q = absurd (omega arith)
around_is a b zero (suc (suc d)) first last e ha hb hf hc hd p q = absurd (omega arith)
around_is a b (suc zero) (suc (suc d)) first last e ha hb hf hc hd p q = absurd (omega arith)

-- nothing is added before the first place
pub start_sum : (out piece : List ℕ) (carry : ℕ) → length piece ≡ length out
    → number (drop (length out) out) + carry * 256 ^ (length out - length out)
    ≡ number (drop (length out) out) + number (drop (length out) piece) + carry
start_sum out piece carry h =
    let p : number (drop (length out) piece) ≡ 0 =
    ap number (drop_all (length out) piece (omega arith)) ∙ number-zeros 0 in
    let one : 256 ^ (length out - length out) ≡ 1 =
    ap (λ (k : ℕ). 256 ^ k) {x = length out - length out} {y = 0} (omega arith) in
    rw (one, p) (omega arith)

-- a written byte is a byte
pub set_bytes : (xs : List ℕ) (i s : ℕ) → ((j : ℕ) → get_or xs j 0 < 256) → (j : ℕ)
    → get_or (set xs i (s % 256)) j 0 < 256
set_bytes [] i s h j = omega arith
set_bytes (x ∷ xs) zero s h zero = omega arith
set_bytes (x ∷ xs) zero s h (suc j) = h (suc j)
set_bytes (x ∷ xs) (suc i) s h zero = h zero
set_bytes (x ∷ xs) (suc i) s h (suc j) = set_bytes xs i s (λ k. h (suc k)) j

-- a carry is 0 or 1
pub left_small : (a b c : ℕ) → a < 256 → b < 256 → c ≤ 1 → (a + b + c) / 256 ≤ 1
left_small a b c ha hb hc = omega arith
