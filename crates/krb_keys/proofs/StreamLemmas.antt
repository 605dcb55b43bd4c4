-- The stream of bytes and the numbers that the definition speaks of.
use Rattle.std.proofs.Common.{◌≡◌, ℕ, zero, suc, ◌+◌, ◌-◌, ◌*◌, ◌/◌, ◌%◌, ◌^◌, ◌<◌, List, [], ◌∷◌, length, get_or, refl, sym, ap, ap₂, ◌∙◌, arith}
use Rattle.std.proofs.Math.Nat.{pow-suc, mod-eq_of_lt, mod-lt, mul-add-div_right, div-div-eq-div-mul, mul_comm, div-lt_iff_lt-mul, add-mod_left}
use Rattle.std.proofs.lemmas.Nat.{pow-add, pow_pos, mul-add-lt, div-mul-add, mod-mul-add, div-add-mod', shr-shr}
use Rattle.std.proofs.Math.Arith.{mod-mul}
use Rattle.krb_keys.specs.Nfold.{number, rotated, repeated, sum_of_pieces}
use Rattle.krb_keys.specs.Stream.{rotated_byte, stream_byte, value}
use Rattle.krb_keys.proofs.NumberLemmas.{number-lt}

-- the number of a stream, byte by byte
pub value-suc : (f : ℕ → ℕ) (n : ℕ) → value f (suc n) ≡ value f n * 256 + f n
unfolding value
value-suc f n = refl

pub value-zero : (f : ℕ → ℕ) → value f 0 ≡ 0
unfolding value
value-zero f = refl

spread : (v e w x : ℕ) → (v * e + w) * 256 + x ≡ v * (e * 256) + (w * 256 + x)
spread v e w x = omega arith

-- a stream cut in two
pub value-add : (f : ℕ → ℕ) (a b : ℕ) → value f (a + b) ≡ value f a * 256 ^ b + value (λ i. f (a + i)) b
value-add f a zero = ap (value f) {x = a + 0} {y = a} (omega arith) ∙ omega (arith, value-zero (λ i. f (a + i)))
value-add f a (suc b) =
    let more : 256 ^ suc b ≡ 256 ^ b * 256 = pow-suc 256 b in
    ap (value f) {x = a + suc b} {y = suc (a + b)} (omega arith)
    ∙ value-suc f (a + b)
    ∙ ap (λ (x : ℕ). x * 256 + f (a + b)) (value-add f a b)
    ∙ spread (value f a) (256 ^ b) (value (λ i. f (a + i)) b) (f (a + b))
    ∙ ap₂ (λ (x y : ℕ). value f a * x + y) (sym more) (sym (value-suc (λ i. f (a + i)) b))

below_step : (v e x t : ℕ) → v < e → x < 256 → t ≡ e * 256 → v * 256 + x < t
below_step v e x t h k q = omega arith

-- the number of n bytes is below the n-th power of 256
pub value-lt : (f : ℕ → ℕ) (n : ℕ) → ((i : ℕ) → f i < 256) → value f n < 256 ^ n
value-lt f zero h = omega (arith, value-zero f)
value-lt f (suc n) h =
    let less : value f n * 256 + f n < 256 ^ suc n =
    below_step (value f n) (256 ^ n) (f n) (256 ^ suc n) (value-lt f n h) (h n) (pow-suc 256 n) in
    omega (arith, value-suc f n)

-- equal bytes give equal numbers
pub value-cong : (f g : ℕ → ℕ) (n : ℕ) → ((i : ℕ) → i < n → f i ≡ g i) → value f n ≡ value g n
value-cong f g zero h = value-zero f ∙ sym (value-zero g)
value-cong f g (suc n) h =
    value-suc f n
    ∙ ap₂ (λ (x y : ℕ). x * 256 + y) (value-cong f g n (λ i lt. h i (omega arith))) (h n (omega arith))
    ∙ sym (value-suc g n)

-- a list of bytes is the number of its stream
pub value-number : (xs : List ℕ) (f : ℕ → ℕ) → ((i : ℕ) → i < length xs → get_or xs i 0 ≡ f i)
    → number xs ≡ value f (length xs)
unfolding number
value-number [] f h = sym (value-zero f)
value-number (x ∷ xs) f h =
    let one : value f 1 ≡ x = value-suc f 0 ∙ omega (arith, value-zero f, h 0 (omega arith)) in
    let rest : number xs ≡ value (λ i. f (1 + i)) (length xs) =
    value-number xs (λ i. f (1 + i)) (λ i lt. h (suc i) (omega arith) ∙ ap f {x = suc i} {y = 1 + i} (omega arith)) in
    ap₂ (λ (a b : ℕ). a * 256 ^ length xs + b) (sym one) rest
    ∙ sym (value-add f 1 (length xs))
    ∙ ap (value f) {x = 1 + length xs} {y = suc (length xs)} (omega arith)

-- the digits of a number
last_digit : (z e t : ℕ) → 0 < e → t ≡ e * 256 → z / 256 % e * 256 + z % 256 ≡ z % t
last_digit z e t pos q = sym (mod-mul z {m = e} {c = 256} pos (omega arith)) ∙ ap (λ (x : ℕ). z % x) (sym q)

digit_up : (z n i : ℕ) → i < n → z / 256 ^ (n - i) % 256 ≡ z / 256 / 256 ^ (n - 1 - i) % 256
digit_up z n i h =
    let p : 256 ^ (n - i) ≡ 256 * 256 ^ (n - 1 - i) =
    ap (λ (k : ℕ). 256 ^ k) {x = n - i} {y = suc (n - 1 - i)} (omega arith) ∙ pow-suc 256 (n - 1 - i)
    ∙ mul_comm (256 ^ (n - 1 - i)) 256 in
    ap (λ (x : ℕ). z / x % 256) p ∙ ap (λ (x : ℕ). x % 256) (sym (div-div-eq-div-mul z 256 (256 ^ (n - 1 - i))))

pub pow-positive : (n : ℕ) → 0 < 256 ^ n
pow-positive zero = omega arith
pow-positive (suc n) = omega (arith, pow-suc 256 n, pow-positive n)

-- the lowest n digits of a number, as a stream
pub value-digits : (z n : ℕ) → value (λ i. z / 256 ^ (n - 1 - i) % 256) n ≡ z % 256 ^ n
value-digits z zero = value-zero (λ i. z / 256 ^ (0 - 1 - i) % 256) ∙ omega arith
value-digits z (suc n) =
    let up : (i : ℕ) → i < n → z / 256 ^ (suc n - 1 - i) % 256 ≡ z / 256 / 256 ^ (n - 1 - i) % 256 =
    λ i h. ap (λ (k : ℕ). z / 256 ^ k % 256) {x = suc n - 1 - i} {y = n - i} (omega arith) ∙ digit_up z n i h in
    let last : z / 256 ^ (suc n - 1 - n) % 256 ≡ z % 256 =
    ap (λ (k : ℕ). z / 256 ^ k % 256) {x = suc n - 1 - n} {y = 0} (omega arith) ∙ omega arith in
    value-suc (λ i. z / 256 ^ (suc n - 1 - i) % 256) n
    ∙ ap₂ (λ (x y : ℕ). x * 256 + y) (value-cong (λ i. z / 256 ^ (suc n - 1 - i) % 256)
    (λ i. z / 256 / 256 ^ (n - 1 - i) % 256) n up ∙ value-digits (z / 256) n) last
    ∙ last_digit z (256 ^ n) (256 ^ suc n) (pow-positive n) (pow-suc 256 n)

-- eight bits across two bytes do not depend on the bytes before them
eighth : (v h l : ℕ) (o : ℕ) → o < 8 → ((v * 256 + h) * 256 + l) / 2 ^ (8 - o) % 256 ≡ (h * 256 + l) / 2 ^ (8 - o) % 256
eighth v h l zero lt = omega arith
eighth v h l (suc zero) lt = omega arith
eighth v h l (suc (suc zero)) lt = omega arith
eighth v h l (suc (suc (suc zero))) lt = omega arith
eighth v h l (suc (suc (suc (suc zero)))) lt = omega arith
eighth v h l (suc (suc (suc (suc (suc zero))))) lt = omega arith
eighth v h l (suc (suc (suc (suc (suc (suc zero)))))) lt = omega arith
eighth v h l (suc (suc (suc (suc (suc (suc (suc zero))))))) lt = omega arith
eighth v h l (suc (suc (suc (suc (suc (suc (suc (suc o)))))))) lt = absurd (omega arith)

-- eight bits across two bytes of a stream, found in the number of n bytes
pub spot : (f : ℕ → ℕ) (n q c o : ℕ) → ((i : ℕ) → f i < 256) → n ≡ q + 2 + c → o < 8
    → value f n / 256 ^ c / 2 ^ (8 - o) % 256 ≡ (f q * 256 + f (q + 1)) / 2 ^ (8 - o) % 256
spot f n q c o bytes place lt =
    let two : value f (q + 2) ≡ (value f q * 256 + f q) * 256 + f (q + 1) =
    ap (value f) {x = q + 2} {y = suc (suc q)} (omega arith) ∙ value-suc f (suc q)
    ∙ ap₂ (λ (x y : ℕ). x * 256 + y) (value-suc f q) (ap f {x = suc q} {y = q + 1} (omega arith)) in
    let front : value f n ≡ value f (q + 2) * 256 ^ c + value (λ i. f (q + 2 + i)) c =
    ap (value f) place ∙ value-add f (q + 2) c in
    let small : value (λ i. f (q + 2 + i)) c < 256 ^ c = value-lt (λ i. f (q + 2 + i)) c (λ i. bytes (q + 2 + i)) in
    ap (λ (x : ℕ). x / 256 ^ c / 2 ^ (8 - o) % 256) front
    ∙ ap (λ (x : ℕ). x / 2 ^ (8 - o) % 256) (div-mul-add (value f (q + 2)) (256 ^ c)
    (value (λ i. f (q + 2 + i)) c) small)
    ∙ ap (λ (x : ℕ). x / 2 ^ (8 - o) % 256) two
    ∙ eighth (value f q) (f q) (f (q + 1)) o lt

-- a rotated number, cut out of the number written twice
rotated_cut : (k r x q p : ℕ) → p ≡ 2 ^ (r % k) → q ≡ 2 ^ (k - r % k) → 2 ^ k ≡ p * q → 0 < p → x < p * q
    → rotated k r x ≡ (x * (p * q) + x) / p % (p * q)
unfolding rotated
rotated_cut k r x q p ep eq ek pos lt =
    let down : (x * (p * q) + x) / p ≡ x * q + x / p =
    ap (λ (y : ℕ). (y + x) / p) {x = x * (p * q)} {y = x * q * p} (omega arith) ∙ mul-add-div_right pos (x * q) x in
    let parts : x ≡ x / p * p + x % p = sym (div-add-mod' x p) in
    let high : x / p < q = (div-lt_iff_lt-mul {k = p} {x = x} {y = q} pos).1 (omega (arith, mul_comm p q)) in
    let low : x % p < p = mod-lt x pos in
    let sum : x * q + x / p ≡ x / p * (p * q) + (x % p * q + x / p) =
    ap (λ (y : ℕ). y * q + x / p) parts ∙ omega arith in
    let fits : x % p * q + x / p < q * p = mul-add-lt (x % p) q (x / p) p low high in
    let result : (x * (p * q) + x) / p % (p * q) ≡ x % p * q + x / p =
    ap (λ (y : ℕ). y % (p * q)) (down ∙ sum) ∙ mod-mul-add (x / p) (p * q) (x % p * q + x / p)
    (omega (arith, mul_comm p q)) in
    ap₂ (λ (a b : ℕ). x / a + x % a * b) (sym ep) (sym eq) ∙ omega (arith, result)

-- n bytes are 8 n bits
pub bits : (n : ℕ) → 2 ^ (8 * n) ≡ 256 ^ n
bits zero = refl
bits (suc n) =
    ap (λ (k : ℕ). 2 ^ k) {x = 8 * suc n} {y = 8 * n + 8} (omega arith) ∙ pow-add 2 (8 * n) 8
    ∙ ap (λ (x : ℕ). x * 2 ^ 8) (bits n) ∙ sym (pow-suc 256 n)

-- the text's bytes over and over
abbrev around_text : List ℕ → ℕ → ℕ
around_text text i = get_or text (i % length text) 0

-- once round the text, and again
text_value : (text : List ℕ) → value (around_text text) (length text) ≡ number text
text_value text = sym (value-number text (around_text text)
    (λ i lt. ap (λ (k : ℕ). get_or text k 0) (sym (mod-eq_of_lt lt))))

again : (text : List ℕ) (i : ℕ) → around_text text (length text + i) ≡ around_text text i
again text i = ap (λ (k : ℕ). get_or text k 0) (add-mod_left (length text) i)

-- the number of the text, written twice
twice : (text : List ℕ) → value (around_text text) (length text + length text)
    ≡ number text * 256 ^ length text + number text
twice text =
    let n : ℕ = length text in
    value-add (around_text text) n n
    ∙ ap₂ (λ (x y : ℕ). x * 256 ^ n + y) (text_value text)
    (value-cong (λ i. around_text text (n + i)) (around_text text) n (λ i _. again text i) ∙ text_value text)

-- places of a byte: e is the number of bits below it in the text that is written twice and a byte
-- longer
places : (len big j s : ℕ) → big < 8 * len → j < len → s ≡ 8 * len - big + 8 * j
    → 8 + (big + 8 * (len - 1 - j)) ≡ 8 * (2 * len - 1 - s / 8) + (8 - s % 8)
places len big j s a b c = omega arith

-- the same place, reached by one shift
one_shift : (d len big j s : ℕ) → big < 8 * len → j < len → s ≡ 8 * len - big + 8 * j
    → d / 256 / 2 ^ big / 256 ^ (len - 1 - j) ≡ d / 256 ^ (2 * len - 1 - s / 8) / 2 ^ (8 - s % 8)
one_shift d len big j s a b c =
    let e : ℕ = len - 1 - j in
    let t : ℕ = 2 * len - 1 - s / 8 in
    ap (λ (x : ℕ). d / 256 / 2 ^ big / x) (sym (bits e))
    ∙ shr-shr (d / 256) big (8 * e)
    ∙ shr-shr d 8 (big + 8 * e)
    ∙ ap (λ (x : ℕ). d / 2 ^ x) (places len big j s a b c)
    ∙ sym (shr-shr d (8 * t) (8 - s % 8))
    ∙ ap (λ (x : ℕ). d / x / 2 ^ (8 - s % 8)) (bits t)

-- a byte of a rotated text, as a digit of the number written twice
rotated_digit : (text : List ℕ) (r j : ℕ) → ((i : ℕ) → get_or text i 0 < 256) → 0 < length text → j < length text
    → rotated_byte text r j ≡ (number text * 256 ^ length text + number text) / 2 ^ (r % (8 * length text))
    / 256 ^ (length text - 1 - j) % 256
unfolding rotated_byte
rotated_digit text r j bytes some lt =
    let len : ℕ = length text in
    let big : ℕ = r % (8 * len) in
    let bits_some : 0 < 8 * len = omega arith in
    let below : big < 8 * len = mod-lt r bits_some in
    let s : ℕ = 8 * len - big + 8 * j in
    let f : ℕ → ℕ = around_text text in
    let whole : value f (suc (len + len)) ≡ (number text * 256 ^ len + number text) * 256 + f (len + len) =
    value-suc f (len + len) ∙ ap (λ (x : ℕ). x * 256 + f (len + len)) (twice text) in
    let cut : value f (suc (len + len)) / 256 ≡ number text * 256 ^ len + number text =
    ap (λ (x : ℕ). x / 256) whole ∙ div-mul-add (number text * 256 ^ len + number text) 256 (f (len + len))
    (bytes ((len + len) % len)) in
    let at = spot f (suc (len + len)) (s / 8) (2 * len - 1 - s / 8) (s % 8) (λ i. bytes (i % len)) (omega arith)
    (omega arith) in
    sym at
    ∙ ap (λ (x : ℕ). x % 256) (sym (one_shift (value f (suc (len + len))) len big j s below lt refl))
    ∙ ap (λ (x : ℕ). x / 2 ^ big / 256 ^ (len - 1 - j) % 256) cut

-- the bytes of a rotated text are the rotated number
pub rotated_value : (text : List ℕ) (r : ℕ) → ((i : ℕ) → get_or text i 0 < 256) → 0 < length text
    → value (rotated_byte text r) (length text) ≡ rotated (8 * length text) r (number text)
rotated_value text r bytes some =
    let len : ℕ = length text in
    let big : ℕ = r % (8 * len) in
    let bits_some : 0 < 8 * len = omega arith in
    let below : big < 8 * len = mod-lt r bits_some in
    let x : ℕ = number text in
    let d : ℕ = x * 256 ^ len + x in
    let p : ℕ = 2 ^ big in
    let q : ℕ = 2 ^ (8 * len - big) in
    let all : 2 ^ (8 * len) ≡ p * q =
    ap (λ (k : ℕ). 2 ^ k) {x = 8 * len} {y = big + (8 * len - big)} (omega arith) ∙ pow-add 2 big (8 * len - big) in
    let both : 256 ^ len ≡ p * q = sym (bits len) ∙ all in
    let small : x < 256 ^ len = number-lt text bytes in
    value-cong (rotated_byte text r) (λ j. d / p / 256 ^ (len - 1 - j) % 256) len
    (λ j lt. rotated_digit text r j bytes some lt)
    ∙ value-digits (d / p) len
    ∙ ap (λ (y : ℕ). (x * y + x) / p % y) both
    ∙ sym (rotated_cut (8 * len) r x q p refl refl all (pow_pos big) (omega arith))

-- the bytes of the repetitions are the repeated number
pub repeated_value : (text : List ℕ) (m : ℕ) → ((i : ℕ) → get_or text i 0 < 256) → 0 < length text
    → repeated (8 * length text) (number text) m ≡ value (stream_byte text) (m * length text)
unfolding repeated stream_byte
repeated_value text zero bytes some = sym (value-zero (stream_byte text))
    ∙ ap (value (stream_byte text)) {x = 0} {y = 0 * length text} (omega arith)
repeated_value text (suc m) bytes some =
    let len : ℕ = length text in
    let next : value (λ i. stream_byte text (m * len + i)) len ≡ rotated (8 * len) (13 * m) (number text) =
    value-cong (λ i. stream_byte text (m * len + i)) (rotated_byte text (13 * m)) len
    (λ i lt. ap₂ (λ (a b : ℕ). rotated_byte text (13 * a) b) (div-mul-add m len i lt) (mod-mul-add m len i lt))
    ∙ rotated_value text (13 * m) bytes some in
    ap₂ (λ (a b : ℕ). a * b + rotated (8 * len) (13 * m) (number text)) (repeated_value text m bytes some) (bits len)
    ∙ ap (λ (x : ℕ). value (stream_byte text) (m * len) * 256 ^ len + x) (sym next)
    ∙ sym (value-add (stream_byte text) (m * len) len)
    ∙ ap (value (stream_byte text)) {x = m * len + len} {y = suc m * len} (omega arith)

-- one piece more
pub sum_of_pieces_more : (f : ℕ → ℕ) (n p : ℕ) → ((i : ℕ) → f i < 256)
    → sum_of_pieces (8 * n) (p + 1) (value f (p * n + n))
    ≡ value (λ i. f (p * n + i)) n + sum_of_pieces (8 * n) p (value f (p * n))
unfolding sum_of_pieces
sum_of_pieces_more f n p bytes =
    let small : value (λ i. f (p * n + i)) n < 256 ^ n = value-lt (λ i. f (p * n + i)) n (λ i. bytes (p * n + i)) in
    let cut : value f (p * n + n) ≡ value f (p * n) * 256 ^ n + value (λ i. f (p * n + i)) n = value-add f (p * n) n in
    ap (λ (k : ℕ). sum_of_pieces (8 * n) k (value f (p * n + n))) {x = p + 1} {y = suc p} (omega arith)
    ∙ ap (λ (e : ℕ). value f (p * n + n) % e + sum_of_pieces (8 * n) p (value f (p * n + n) / e)) (bits n)
    ∙ ap (λ (x : ℕ). x % 256 ^ n + sum_of_pieces (8 * n) p (x / 256 ^ n)) cut
    ∙ ap₂ (λ (a b : ℕ). a + sum_of_pieces (8 * n) p b)
    (mod-mul-add (value f (p * n)) (256 ^ n) (value (λ i. f (p * n + i)) n) small)
    (div-mul-add (value f (p * n)) (256 ^ n) (value (λ i. f (p * n + i)) n) small)

-- the stream's elements are bytes
pub stream_small : (text : List ℕ) (t : ℕ) → stream_byte text t < 256
unfolding stream_byte rotated_byte
stream_small text t = omega arith
