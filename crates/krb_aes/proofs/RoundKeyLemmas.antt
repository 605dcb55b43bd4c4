-- The round keys that the rounds on vectors take.
use Rattle.std.proofs.Common.{◌≡◌, ℕ, ◌+◌, ◌*◌, ◌%◌, ◌^◌, ◌<◌, List, [], ◌∷◌, ◌++◌, get_or, set, length, map, replicate, bit_xor, refl, sym, ap, ◌∙◌, arith, inl, inr}
use Rattle.std.proofs.lemmas.Bool.{cases_lt}
use Rattle.std.proofs.lemmas.List.{get_or-set_same, get_or-set_other}
use Rattle.std.proofs.lemmas.Simd.{map-map, zip2_splat}
use lib.Lanes.{zip2, pick_l}
use Rattle.krb_aes.specs.Cipher.{cell, from_cells}
use Rattle.krb_aes.specs.Words.{columns}
use Rattle.krb_aes.specs.Nibbles.{nibbles_of, bare_nibbles}
use Rattle.krb_aes.specs.Rounds.{rows_shifted, columns_raised, round_key}
use Rattle.krb_aes.specs.Field.{times, product, remainder}
use Rattle.krb_aes.specs.Cipher.{sub_bytes, shift_rows, add_round_key}
use Rattle.krb_aes.specs.InverseCipher.{inv_mixed, inv_sub_bytes, inv_shift_rows, inv_mix_columns}
use Rattle.krb_base.specs.Bytes.{AreBytes}
use Rattle.krb_aes.specs.Nibbles.{inv_linear_nibbles, inv_affine_nibbles}
use Rattle.krb_aes.proofs.Inverse.{inv_sub-sub, inv_shift-shift, IsState-sub}
use Rattle.krb_aes.proofs.Xor.{xor_cancel}
use lib.Bits.{xor_zero_r}
use Rattle.krb_aes.proofs.Rounds.{AreBytes-round_key}
use Rattle.krb_aes.proofs.WordLemmas.{word_of_bytes}

-- four words of an expanded key are the columns of a round key
pub key_columns : (w : List ℕ) (n a : ℕ) → a ≡ get_or w (4 * n) 0 → ((i : ℕ) → get_or w i 0 < 2 ^ 32) → a ∷ get_or w (4 * n + 1) 0 ∷ get_or w (4 * n + 2) 0 ∷ get_or w (4 * n + 3) 0 ∷ [] ≡ columns (round_key w n)
unfolding columns round_key
key_columns w n a e small =
    let key : a ≡ get_or w (4 * n + 0) 0 = e ∙ ap (λ (i : ℕ). get_or w i 0) (omega arith) in
    λ i. (key ∙ sym (word_of_bytes (get_or w (4 * n + 0) 0) (small (4 * n + 0)))) i ∷ sym (word_of_bytes (get_or w (4 * n + 1) 0) (small (4 * n + 1))) i
    ∷ sym (word_of_bytes (get_or w (4 * n + 2) 0) (small (4 * n + 2))) i ∷ sym (word_of_bytes (get_or w (4 * n + 3) 0) (small (4 * n + 3))) i ∷ []

pub cells-round_key : (w : List ℕ) (n : ℕ) → from_cells (cell (round_key w n)) ≡ round_key w n
unfolding round_key
cells-round_key w n = refl

pub rows_shifted-round_key : (w : List ℕ) (n : ℕ) → round_key w n ≡ rows_shifted 0 (round_key w n)
unfolding rows_shifted round_key
rows_shifted-round_key w n = refl

-- the lanes of a state, turned so many times and raised
pub turned_lanes : (f : ℕ → ℕ) (p x s : List ℕ) (n q : ℕ) → q ≡ 3 * n % 4 → x ≡ map f (rows_shifted 0 s) → pick_l 0 (map f (rows_shifted 0 s) ++ map f (rows_shifted 0 s)) p ≡ map f (rows_shifted q (columns_raised s))
    → pick_l 0 (x ++ x) p ≡ map f (rows_shifted (3 * n % 4) (columns_raised s))
turned_lanes f p x s n q e g h = ap (λ (y : List ℕ). pick_l 0 (y ++ y) p) g ∙ h ∙ ap (λ (k : ℕ). map f (rows_shifted k (columns_raised s))) e

-- a key without the S-box's constant, held
pub nibbles_bare : (x t r : List ℕ) → length x ≡ 16 → x ≡ t → r ≡ map nibbles_of (zip2 bit_xor x (replicate 16 0x63)) → r ≡ map bare_nibbles t
unfolding bare_nibbles
nibbles_bare x t r size e f = f ∙ ap (map nibbles_of) (zip2_splat bit_xor x 16 0x63 size) ∙ map-map nibbles_of (λ b. bit_xor b 0x63) x ∙ ap (map (λ b. nibbles_of (bit_xor b 0x63))) e

-- the keys up to n, and then one more
pub keys_more : (keys : List (List ℕ)) (k : ℕ → List ℕ) (n : ℕ) (x : List ℕ) → n < length keys → ((j : ℕ) → 0 < j → j < n → get_or keys j [] ≡ k j) → x ≡ k n → (j : ℕ) → 0 < j → j < n + 1 → get_or (set keys n x) j [] ≡ k j
keys_more keys k n x room before here j lo hi =
    elim (cases_lt j n) [
      | inl below ↦ get_or-set_other keys n j x [] (λ e. absurd (omega arith)) ∙ before j lo below
      | inr top ↦
          let e : j ≡ n = omega arith in
          rw e (get_or-set_same keys n x [] room ∙ here)
    ]

pub length-round_key : (w : List ℕ) (n : ℕ) → length (round_key w n) ≡ 16
unfolding round_key
length-round_key w n = refl

-- ---- for the inverse cipher

abbrev pub no_words : List ℕ
no_words = replicate 4 0

-- the sum with a round key of zeros
zero_round_key : (w : List ℕ) (n : ℕ) → add_round_key no_words 0 (round_key w n) ≡ round_key w n
unfolding add_round_key round_key
zero_round_key w n = λ i.
    xor_zero_r (get_or (round_key w n) 0 0) i ∷
    xor_zero_r (get_or (round_key w n) 1 0) i ∷
    xor_zero_r (get_or (round_key w n) 2 0) i ∷
    xor_zero_r (get_or (round_key w n) 3 0) i ∷
    xor_zero_r (get_or (round_key w n) 4 0) i ∷
    xor_zero_r (get_or (round_key w n) 5 0) i ∷
    xor_zero_r (get_or (round_key w n) 6 0) i ∷
    xor_zero_r (get_or (round_key w n) 7 0) i ∷
    xor_zero_r (get_or (round_key w n) 8 0) i ∷
    xor_zero_r (get_or (round_key w n) 9 0) i ∷
    xor_zero_r (get_or (round_key w n) 10 0) i ∷
    xor_zero_r (get_or (round_key w n) 11 0) i ∷
    xor_zero_r (get_or (round_key w n) 12 0) i ∷
    xor_zero_r (get_or (round_key w n) 13 0) i ∷
    xor_zero_r (get_or (round_key w n) 14 0) i ∷
    xor_zero_r (get_or (round_key w n) 15 0) i ∷ []

pub no_key_mixed : rows_shifted 0 (columns_raised (inv_mix_columns (round_key no_words 0))) ≡ replicate 16 0
unfolding rows_shifted columns_raised inv_mix_columns round_key inv_mixed times product remainder
no_key_mixed = refl

pub undone_key : (w : List ℕ) (n : ℕ) → add_round_key no_words 0 (inv_sub_bytes (inv_shift_rows (shift_rows (sub_bytes (round_key w n))))) ≡ round_key w n
undone_key w n =
    let k : List ℕ = round_key w n in
    let h : AreBytes k = AreBytes-round_key w n in
    ap (λ (x : List ℕ). add_round_key no_words 0 (inv_sub_bytes x)) (inv_shift-shift (sub_bytes k) (IsState-sub k h))
    ∙ ap (add_round_key no_words 0) (inv_sub-sub k (record { bytes = h; cells = cells-round_key w n }))
    ∙ zero_round_key w n

-- after ShiftRows, turned 3 times, rows stand as before it
pub rows_shifted-shifted : (w : List ℕ) (n : ℕ) → sub_bytes (round_key w n) ≡ rows_shifted 3 (shift_rows (sub_bytes (round_key w n)))
unfolding rows_shifted shift_rows sub_bytes
rows_shifted-shifted w n = refl

-- a key without the S-box's constant, held for the inverse cipher
pub held_start : (x t r : List ℕ) → length x ≡ 16 → x ≡ t → r ≡ map inv_affine_nibbles (zip2 bit_xor x (replicate 16 0x63)) → r ≡ map inv_linear_nibbles t
unfolding inv_affine_nibbles
held_start x t r size e f =
    f ∙ ap (map (λ b. inv_linear_nibbles (bit_xor b 0x63))) (zip2_splat bit_xor x 16 0x63 size) ∙ map-map (λ b. inv_linear_nibbles (bit_xor b 0x63)) (λ b. bit_xor b 0x63) x
    ∙ (λ i. map (λ b. inv_linear_nibbles (xor_cancel b 0x63 i)) (e i))
