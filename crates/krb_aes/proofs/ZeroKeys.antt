-- An expanded key is never zero, and the round keys of words that are.
use Rattle.std.proofs.Common.{◌≡◌, ℕ, zero, suc, ◌+◌, ◌-◌, ◌*◌, ◌/◌, ◌%◌, ◌^◌, ◌<◌, cond, Bool, bit_xor, List, [], ◌∷◌, ◌++◌, replicate, map, take, length, get_or, refl, sym, ap, ap₂, ◌∙◌, arith}
use Rattle.std.proofs.lemmas.Bool.{le-ltb}
use Rattle.std.proofs.lemmas.List.{get_or_append_left, get_or-append-add, length-take-le, append-nil}
use Rattle.krb_aes.specs.Field.{power, times, product, remainder, inverse, affine, sbox}
use Rattle.krb_base.specs.Bytes.{AreZero}
use Rattle.krb_aes.specs.Keys.{sub_word, rot_word, round_constant, transformed, next_word, key_word, first_words, expanded_key, IsPadded}
use Rattle.krb_aes.specs.InverseCipher.{inv_mixed, inv_mix_columns}
use Rattle.krb_aes.specs.Nibbles.{nibbles_of, bare_nibbles, inv_linear_nibbles, inv_affine_nibbles}
use Rattle.krb_aes.specs.Rounds.{rows_shifted, columns_raised, round_key, AreRoundKeys, AreInverseRoundKeys}
use Rattle.krb_aes.specs.declared.zero_keys.TheConstants.{FORWARD_128, FORWARD_256, BACKWARD_128, BACKWARD_256}
use Rattle.krb_aes.proofs.KeyLemmas.{first_more, length-first_words, transformed_whole, expanded_is}
use Rattle.krb_aes.proofs.StateLemmas.{zeros_at}

-- ---- an expanded key is not zero

-- words that stand stay as they are
word_stays : (key : List ℕ) (n i j k : ℕ) → j < i → get_or (first_words key n (i + k)) j 0 ≡ get_or (first_words key n i) j 0
word_stays key n i j zero h = ap (λ (m : ℕ). get_or (first_words key n m) j 0) {x = i + 0} {y = i} (omega arith)
word_stays key n i j (suc k) h =
    ap (λ (m : ℕ). get_or (first_words key n m) j 0) {x = i + suc k} {y = i + k + 1} (omega arith)
    ∙ ap (λ (x : List ℕ). get_or x j 0) (first_more key n (i + k))
    ∙ get_or_append_left (first_words key n (i + k)) _ 0 j (omega (arith, length-first_words key n (i + k)))
    ∙ word_stays key n i j k h

-- the first word that the expansion adds
first_new : (key : List ℕ) (n : ℕ) → get_or (first_words key n (n + 1)) n 0 ≡ next_word n n (first_words key n n)
first_new key n =
    let f : List ℕ = first_words key n n in
    ap (λ (x : List ℕ). get_or x n 0) (first_more key n n ∙ ap (λ (b : Bool). f ++ cond b (key_word key n) (next_word n n f) ∷ []) (le-ltb n n (omega arith)))
    ∙ ap (λ (m : ℕ). get_or (f ++ next_word n n f ∷ []) m 0) {x = n} {y = length f + 0} (omega (arith, length-first_words key n n))
    ∙ get_or-append-add f (next_word n n f ∷ []) 0 0

of_zeros : bit_xor 0 (bit_xor (sub_word (rot_word 0)) (round_constant 0)) ≡ 0x62636363
unfolding sub_word rot_word round_constant sbox affine inverse power times product remainder
of_zeros = refl

new_word : (n : ℕ) (f : List ℕ) → n % n ≡ 0 → n / n - 1 ≡ 0 → get_or f (n - n) 0 ≡ 0 → get_or f (n - 1) 0 ≡ 0 → next_word n n f ≡ 0x62636363
unfolding next_word
new_word n f e k first last =
    ap₂ (λ (x y : ℕ). bit_xor x (transformed n n y)) first last
    ∙ ap (bit_xor 0) (transformed_whole n n 0 e ∙ ap (λ (j : ℕ). bit_xor (sub_word (rot_word 0)) (round_constant j)) k) ∙ of_zeros

zero_read : (w : List ℕ) (i : ℕ) → AreZero w → get_or w i 0 ≡ 0
zero_read w i z = ap (λ (x : List ℕ). get_or x i 0) z ∙ zeros_at (length w) i

pub never_zero : (key : List ℕ) (n : ℕ) → length key / 4 ≡ n → 0 < n → n % n ≡ 0 → n / n - 1 ≡ 0 → AreZero (expanded_key key) → ⊥
never_zero key n size some e k z =
    let w : List ℕ = first_words key n (4 * n + 28) in
    let is : w ≡ expanded_key key = ap (λ (m : ℕ). first_words key m (4 * m + 28)) (sym size) ∙ expanded_is key in
    let all : (i : ℕ) → get_or w i 0 ≡ 0 = λ i. ap (λ (x : List ℕ). get_or x i 0) is ∙ zero_read (expanded_key key) i z in
    let old : (j : ℕ) → j < n → get_or (first_words key n n) j 0 ≡ 0 =
    λ j lt. sym (word_stays key n n j (3 * n + 28) lt) ∙ ap (λ (m : ℕ). get_or (first_words key n m) j 0) {x = n + (3 * n + 28)} {y = 4 * n + 28} (omega arith) ∙ all j in
    let new : get_or (first_words key n (n + 1)) n 0 ≡ 0 =
    sym (word_stays key n (n + 1) n (3 * n + 27) (omega arith)) ∙ ap (λ (m : ℕ). get_or (first_words key n m) n 0) {x = n + 1 + (3 * n + 27)} {y = 4 * n + 28} (omega arith) ∙ all n in
    let is_0 : 0x62636363 ≡ 0 = sym (new_word n (first_words key n n) e k (old (n - n) (omega arith)) (old (n - 1) (omega arith))) ∙ sym (first_new key n) ∙ new in
    absurd (omega (arith, is_0))

-- ---- the round keys of words that are zero

zero_round_key : (m n : ℕ) → round_key (replicate m 0) n ≡ replicate 16 0
unfolding round_key
zero_round_key m n =
    let b = λ (r c : ℕ). ap (λ (x : ℕ). x / 2 ^ (24 - 8 * r) % 2 ^ 8) (zeros_at m (4 * n + c)) in
    λ i. b 0 0 i ∷ b 1 0 i ∷ b 2 0 i ∷ b 3 0 i ∷ b 0 1 i ∷ b 1 1 i ∷ b 2 1 i ∷ b 3 1 i ∷ b 0 2 i ∷ b 1 2 i ∷ b 2 2 i ∷ b 3 2 i ∷ b 0 3 i ∷ b 1 3 i ∷ b 2 3 i ∷ b 3 3 i ∷ []

zero_key : (w : List ℕ) (n : ℕ) → AreZero w → round_key w n ≡ replicate 16 0
zero_key w n z = ap (λ (x : List ℕ). round_key x n) z ∙ zero_round_key (length w) n

shifted_zeros : (q : ℕ) → rows_shifted q (replicate 16 0) ≡ replicate 16 0
unfolding rows_shifted
shifted_zeros q =
    let b = λ (r c : ℕ). zeros_at 16 (4 * ((c + q * r) % 4) + r) in
    λ i. b 0 0 i ∷ b 1 0 i ∷ b 2 0 i ∷ b 3 0 i ∷ b 0 1 i ∷ b 1 1 i ∷ b 2 1 i ∷ b 3 1 i ∷ b 0 2 i ∷ b 1 2 i ∷ b 2 2 i ∷ b 3 2 i ∷ b 0 3 i ∷ b 1 3 i ∷ b 2 3 i ∷ b 3 3 i ∷ []

bare_zeros : map bare_nibbles (replicate 16 0) ≡ replicate 16 0x6e
unfolding bare_nibbles nibbles_of
bare_zeros = refl

affine_zeros : map inv_affine_nibbles (replicate 16 0) ≡ replicate 16 0x2c
unfolding inv_affine_nibbles inv_linear_nibbles
affine_zeros = refl

raised_zeros : columns_raised (replicate 16 0) ≡ replicate 16 0
unfolding columns_raised
raised_zeros = refl

mixed_zeros : inv_mix_columns (replicate 16 0) ≡ replicate 16 0
unfolding inv_mix_columns inv_mixed times product remainder
mixed_zeros = refl

-- a key within a row of equal ones
within : (k n : ℕ) (x : List ℕ) (rest : List (List ℕ)) → n < k → get_or (replicate k x ++ rest) n [] ≡ x
within zero n x rest h = absurd (omega arith)
within (suc k) zero x rest h = refl
within (suc k) (suc n) x rest h = within k n x rest (omega arith)

key_within : (k n : ℕ) (a x : List ℕ) (rest : List (List ℕ)) → 0 < n → n < suc k → get_or (a ∷ (replicate k x ++ rest)) n [] ≡ x
key_within k zero a x rest lo hi = absurd (omega arith)
key_within k (suc n) a x rest lo hi = within k n x rest (omega arith)

forward_key : (w : List ℕ) (n : ℕ) → AreZero w → map bare_nibbles (rows_shifted (3 * n % 4) (columns_raised (round_key w n))) ≡ replicate 16 0x6e
forward_key w n z =
    ap (λ (x : List ℕ). map bare_nibbles (rows_shifted (3 * n % 4) (columns_raised x))) (zero_key w n z) ∙ ap (λ (x : List ℕ). map bare_nibbles (rows_shifted (3 * n % 4) x)) raised_zeros
    ∙ ap (map bare_nibbles) (shifted_zeros (3 * n % 4)) ∙ bare_zeros

backward_key : (w : List ℕ) (n : ℕ) → AreZero w → map inv_affine_nibbles (rows_shifted (3 * (n + 2) % 4) (columns_raised (inv_mix_columns (round_key w n)))) ≡ replicate 16 0x2c
backward_key w n z =
    ap (λ (x : List ℕ). map inv_affine_nibbles (rows_shifted (3 * (n + 2) % 4) (columns_raised (inv_mix_columns x)))) (zero_key w n z)
    ∙ ap (λ (x : List ℕ). map inv_affine_nibbles (rows_shifted (3 * (n + 2) % 4) (columns_raised x))) mixed_zeros
    ∙ ap (λ (x : List ℕ). map inv_affine_nibbles (rows_shifted (3 * (n + 2) % 4) x)) raised_zeros
    ∙ ap (map inv_affine_nibbles) (shifted_zeros (3 * (n + 2) % 4)) ∙ affine_zeros

first_key : (w : List ℕ) → AreZero w → map nibbles_of (round_key w 0) ≡ replicate 16 0
unfolding nibbles_of
first_key w z = ap (map nibbles_of) (zero_key w 0 z)

last_back : (w : List ℕ) (n : ℕ) → AreZero w → map inv_linear_nibbles (round_key w n) ≡ replicate 16 0
unfolding inv_linear_nibbles
last_back w n z = ap (map inv_linear_nibbles) (zero_key w n z)

last_key : (w : List ℕ) (n : ℕ) → AreZero w → map (λ b. bit_xor b 0x63) (round_key w n) ≡ replicate 16 0x63
last_key w n z = ap (map (λ b. bit_xor b 0x63)) (zero_key w n z)

pub forward_128 : (w : List ℕ) → length w ≡ 44 → AreZero w → AreRoundKeys FORWARD_128 2 w
forward_128 w size z = record {
  size = omega arith;
  first = sym (first_key w z);
  mixing = λ n lo hi. key_within 9 n (replicate 16 0) (replicate 16 0x6e) (replicate 16 0x63 ∷ replicate 4 (replicate 16 0)) lo hi ∙ sym (forward_key w n z);
  last = sym (last_key w 10 z);
}

pub forward_256 : (w : List ℕ) → length w ≡ 60 → AreZero w → AreRoundKeys FORWARD_256 3 w
forward_256 w size z = record {
  size = omega arith;
  first = sym (first_key w z);
  mixing = λ n lo hi. key_within 13 n (replicate 16 0) (replicate 16 0x6e) (replicate 16 0x63 ∷ []) lo hi ∙ sym (forward_key w n z);
  last = sym (last_key w 14 z);
}

pub backward_128 : (w : List ℕ) → length w ≡ 44 → AreZero w → AreInverseRoundKeys BACKWARD_128 2 w
backward_128 w size z = record {
  size = omega arith;
  first = sym (last_back w 10 z);
  mixing = λ n lo hi. key_within 9 n (replicate 16 0) (replicate 16 0x2c) (replicate 5 (replicate 16 0)) lo hi ∙ sym (backward_key w n z);
  last = sym (zero_key w 0 z);
}

pub backward_256 : (w : List ℕ) → length w ≡ 60 → AreZero w → AreInverseRoundKeys BACKWARD_256 3 w
backward_256 w size z = record {
  size = omega arith;
  first = sym (last_back w 14 z);
  mixing = λ n lo hi. key_within 13 n (replicate 16 0) (replicate 16 0x2c) (replicate 16 0 ∷ []) lo hi ∙ sym (backward_key w n z);
  last = sym (zero_key w 0 z);
}

pub front_zero : (w : List ℕ) → length w ≡ 60 → AreZero w → AreZero (take 44 w)
front_zero w size z =
    let whole : w ≡ replicate 60 0 = z ∙ ap (λ (n : ℕ). replicate n 0) size in
    ap (take 44) whole ∙ ap (λ (n : ℕ). replicate n 0) {x = 44} {y = length (take 44 w)} (sym (length-take-le 44 w (omega arith)))

pub padded_whole : (w : List ℕ) → IsPadded w w
padded_whole w =
    let none : length w - length w ≡ 0 = omega arith in
    record { zeros = sym (append-nil w) ∙ ap (λ (n : ℕ). w ++ replicate n 0) (sym none) }
