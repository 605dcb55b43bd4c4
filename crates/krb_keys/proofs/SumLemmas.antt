-- The sum of the sum_of_pieces.
use Rattle.std.proofs.Common.{◌≡◌, ℕ, zero, suc, ◌+◌, ◌-◌, ◌*◌, ◌/◌, ◌%◌, ◌^◌, ◌<◌, ◌≤◌, Bool, false, cond, eqb, ltb, List, [], ◌∷◌, length, get_or, replicate, refl, sym, ap, ap₂, ◌∙◌, arith}
use Rattle.std.proofs.Math.Nat.{pow-suc, mod-eq_of_lt, mul-add-div_right, mul-add-mod_self_right, mul-div_left}
use Rattle.std.proofs.lemmas.Nat.{div-mul-add, div-add-mod', pow-add}
use Rattle.std.proofs.lemmas.Bool.{ne_eqb}
use Rattle.std.specs.Int.{byte_at, bytes_high_first}
use Rattle.krb_keys.specs.Nfold.{number, lcm, repeated, sum_of_pieces, end_around, nfold}
use Rattle.krb_keys.specs.Stream.{stream_byte, value, around}
use Rattle.krb_keys.proofs.NumberLemmas.{number-lt, number-zeros}
use Rattle.krb_keys.proofs.FoldLemmas.{fold_m, around_m, fold_more}
use Rattle.krb_keys.proofs.StreamLemmas.{bits, pow-positive, value-number, value-lt, sum_of_pieces_more, repeated_value, stream_small}

-- a byte of a number, with no case for the lowest
byte_at_is : (k n : ℕ) → byte_at k n ≡ n / 256 ^ k % 256
byte_at_is zero n = ap (λ (x : ℕ). x % 256) {x = n} {y = n / 256 ^ 0} (omega arith)
byte_at_is (suc k) n = refl

-- the lower bytes of a number don't depend on the higher ones
byte_at_low : (j d a b : ℕ) → byte_at j (a * 256 ^ (j + 1 + d) + b) ≡ byte_at j b
byte_at_low j d a b =
    let split : 256 ^ (j + 1 + d) ≡ 256 ^ d * 256 * 256 ^ j =
    ap (λ (k : ℕ). 256 ^ k) {x = j + 1 + d} {y = d + 1 + j} (omega arith) ∙ pow-add 256 (d + 1) j
    ∙ ap (λ (x : ℕ). x * 256 ^ j) (pow-add 256 d 1) in
    byte_at_is j (a * 256 ^ (j + 1 + d) + b)
    ∙ ap (λ (x : ℕ). (a * x + b) / 256 ^ j % 256) split
    ∙ ap (λ (x : ℕ). (x + b) / 256 ^ j % 256)
    {x = a * (256 ^ d * 256 * 256 ^ j)} {y = a * 256 ^ d * 256 * 256 ^ j} (omega arith)
    ∙ ap (λ (x : ℕ). x % 256) (mul-add-div_right (pow-positive j) (a * 256 ^ d * 256) b)
    ∙ mul-add-mod_self_right (a * 256 ^ d) 256 (b / 256 ^ j)
    ∙ sym (byte_at_is j b)

-- so the lowest j bytes are those of the rest
low_bytes : (j k a b : ℕ) → j ≤ k → bytes_high_first j (a * 256 ^ k + b) ≡ bytes_high_first j b
low_bytes zero k a b h = refl
low_bytes (suc j) k a b h =
    let place : k ≡ j + 1 + (k - (j + 1)) = omega arith in
    ap₂ (λ (x : ℕ) (y : List ℕ). x ∷ y)
    (ap (λ (e : ℕ). byte_at j (a * 256 ^ e + b)) place ∙ byte_at_low j (k - (j + 1)) a b)
    (low_bytes j k a b (omega arith))

-- a text is the bytes of its number
pub text_is : (xs : List ℕ) → ((i : ℕ) → get_or xs i 0 < 256) → xs ≡ bytes_high_first (length xs) (number xs)
unfolding number
text_is [] h = refl
text_is (x ∷ xs) h =
    let small : number xs < 256 ^ length xs = number-lt xs (λ i. h (suc i)) in
    let first : byte_at (length xs) (x * 256 ^ length xs + number xs) ≡ x =
    byte_at_is (length xs) (x * 256 ^ length xs + number xs)
    ∙ ap (λ (y : ℕ). y % 256) (div-mul-add x (256 ^ length xs) (number xs) small) ∙ mod-eq_of_lt (h zero) in
    ap₂ (λ (a : ℕ) (b : List ℕ). a ∷ b) (sym first)
    (text_is xs (λ i. h (suc i)) ∙ sym (low_bytes (length xs) (length xs) x (number xs) (omega arith)))

-- the sums with end-around carry, over the modulus
end_around_is : (k s : ℕ) → end_around k s ≡ fold_m (2 ^ k - 1) s
unfolding end_around fold_m
end_around_is k zero = refl
end_around_is k (suc s) =
    let some : eqb (suc s) 0 ≡ false = ne_eqb (suc s) 0 (λ e. omega arith) in
    ap (λ (b : Bool). cond b 0 ((suc s - 1) % (2 ^ k - 1) + 1)) some
    ∙ ap (λ (x : ℕ). x % (2 ^ k - 1) + 1) {x = suc s - 1} {y = s} (omega arith)

around_is_m : (n s : ℕ) → 0 < 256 ^ n → around n s ≡ around_m (256 ^ n - 1) s
unfolding around_m
around_is_m n s pos = ap (λ (e : ℕ). cond (ltb s e) s (s - (256 ^ n - 1))) {x = 256 ^ n} {y = 256 ^ n - 1 + 1}
    (omega arith)

-- one byte or more have a modulus of 1 or more
more_than_one : (n : ℕ) → 0 < n → 1 < 256 ^ n
more_than_one zero h = absurd (omega arith)
more_than_one (suc zero) h = omega arith
more_than_one (suc (suc n)) h = omega (arith, pow-suc 256 (suc n), more_than_one (suc n) (omega arith))

-- a number of n bytes added to a sum with end-around carry
fold_sum : (n s b : ℕ) → 0 < n → b < 256 ^ n → around n (end_around (8 * n) s + b) ≡ end_around (8 * n) (s + b)
fold_sum n s b some lt =
    let big : 1 < 256 ^ n = more_than_one n some in
    let one : (x : ℕ) → end_around (8 * n) x ≡ fold_m (256 ^ n - 1) x =
    λ x. end_around_is (8 * n) x ∙ ap (λ (e : ℕ). fold_m (e - 1) x) (bits n) in
    around_is_m n (end_around (8 * n) s + b) (omega arith)
    ∙ ap (λ (x : ℕ). around_m (256 ^ n - 1) (x + b)) (one s)
    ∙ fold_more (256 ^ n - 1) s b (omega arith) (omega arith)
    ∙ sym (one (s + b))

-- the sum of no pieces
pub sum_none : (n : ℕ) (f : ℕ → ℕ) → number (replicate n 0)
    ≡ end_around (8 * n) (sum_of_pieces (8 * n) 0 (value f (0 * n)))
unfolding end_around sum_of_pieces
sum_none n f = number-zeros n

-- the sum of one piece more
pub sum_more : (text out piece after : List ℕ) (n p : ℕ) → 0 < n → length piece ≡ n
    → ((k : ℕ) → k < length piece → get_or piece k 0 ≡ stream_byte text (p * n + k))
    → number out ≡ end_around (8 * n) (sum_of_pieces (8 * n) p (value (stream_byte text) (p * n)))
    → number after ≡ around n (number out + number piece)
    → number after ≡ end_around (8 * n) (sum_of_pieces (8 * n) (p + 1) (value (stream_byte text) ((p + 1) * n)))
sum_more text out piece after n p some len filled sum added =
    let b : ℕ = value (λ i. stream_byte text (p * n + i)) n in
    let s : ℕ = sum_of_pieces (8 * n) p (value (stream_byte text) (p * n)) in
    let this : number piece ≡ b = value-number piece (λ i. stream_byte text (p * n + i)) filled
    ∙ ap (value (λ i. stream_byte text (p * n + i))) len in
    let small : b < 256 ^ n = value-lt (λ i. stream_byte text (p * n + i)) n (λ i. stream_small text (p * n + i)) in
    added
    ∙ ap₂ (λ (x y : ℕ). around n (x + y)) sum this
    ∙ fold_sum n s b some small
    ∙ ap (end_around (8 * n)) {x = s + b} {y = b + s} (omega arith)
    ∙ ap (end_around (8 * n)) (sym (sum_of_pieces_more (stream_byte text) n p (stream_small text)))
    ∙ ap (λ (x : ℕ). end_around (8 * n) (sum_of_pieces (8 * n) (p + 1) (value (stream_byte text) x)))
    {x = p * n + n} {y = (p + 1) * n} (omega arith)

-- the sum of all pieces of the m repetitions that the least common multiple has
pub sum_all : (text out : List ℕ) (n m p : ℕ) → ((i : ℕ) → get_or text i 0 < 256) → ((i : ℕ) → get_or out i 0 < 256)
    → 0 < length text → length out ≡ n
    → m * length text ≡ lcm (length text) n → m * length text % n ≡ 0 → p ≡ m * length text / n
    → number out ≡ end_around (8 * n) (sum_of_pieces (8 * n) p (value (stream_byte text) (p * n)))
    → out ≡ nfold n text
unfolding nfold
sum_all text out n m p bytes out_bytes some len least whole count sum =
    let l : ℕ = length text in
    let times : m ≡ lcm l n / l = sym (mul-div_left m some) ∙ ap (λ (x : ℕ). x / l) least in
    let part : p ≡ lcm l n / n = count ∙ ap (λ (x : ℕ). x / n) least in
    let all : p * n ≡ m * l = ap (λ (x : ℕ). x * n) count ∙ omega (arith, div-add-mod' (m * l) n) in
    let stream : value (stream_byte text) (p * n) ≡ repeated (8 * l) (number text) m =
    ap (value (stream_byte text)) all ∙ sym (repeated_value text m bytes some) in
    text_is out out_bytes
    ∙ ap₂ bytes_high_first len (sum ∙ ap₂ (λ (a b : ℕ). end_around (8 * n) (sum_of_pieces (8 * n) a b)) part
    (stream ∙ ap (repeated (8 * l) (number text)) times))
