-- What each form of a round of the inverse cipher makes of a state, lane by lane.
-- tests/vector_tables.py computes the lanes.
use Rattle.std.proofs.Common.{◌≡◌, ℕ, List, [], ◌∷◌, map, get_or, bit_xor}
use Rattle.krb_base.specs.Bytes.{AreBytes}
use Rattle.krb_aes.specs.Field.{times}
use Rattle.krb_aes.specs.InverseCipher.{inv_mixed, inv_sbox, inv_sub_bytes, inv_shift_rows, inv_mix_columns}
use Rattle.krb_aes.specs.Stealing.{xor_block}
use Rattle.krb_aes.specs.Nibbles.{inv_linear_nibbles, inv_affine_nibbles}
use Rattle.krb_aes.specs.Rounds.{rows_shifted, columns_raised}
use Rattle.krb_aes.proofs.Entries.{inv_sbox-lt}
use Rattle.krb_aes.proofs.InverseNibbles.{mixed_back_late, inv_mix_lanes}

-- the products of the inverse S-box by a number, of a state with ShiftRows done p times
abbrev pub product_lanes : ℕ → ℕ → List ℕ → List ℕ
product_lanes number p s = map (λ b. inv_linear_nibbles (times number (inv_sbox b))) (rows_shifted p s)

-- a round key mixed back, with ShiftRows done q times
abbrev pub key_lanes : ℕ → List ℕ → List ℕ
key_lanes q k = map inv_affine_nibbles (rows_shifted q (columns_raised (inv_mix_columns k)))

-- a lane: of the bytes a, b, c and d of the state, and e, f, m and n of the round key
lane : (s k : List ℕ) → AreBytes s → AreBytes k → (a b c d e f m n : ℕ)
    → bit_xor (inv_linear_nibbles (times 14 (inv_sbox (get_or s a 0)))) (bit_xor (inv_linear_nibbles (times 11 (inv_sbox (get_or s b 0)))) (bit_xor (inv_linear_nibbles (times 13 (inv_sbox (get_or s c 0)))) (bit_xor (inv_linear_nibbles (times 9 (inv_sbox (get_or s d 0)))) (inv_affine_nibbles (inv_mixed (get_or k e 0) (get_or k f 0) (get_or k m 0) (get_or k n 0))))))
    ≡ inv_affine_nibbles (inv_mixed (bit_xor (inv_sbox (get_or s a 0)) (get_or k e 0)) (bit_xor (inv_sbox (get_or s b 0)) (get_or k f 0)) (bit_xor (inv_sbox (get_or s c 0)) (get_or k m 0)) (bit_xor (inv_sbox (get_or s d 0)) (get_or k n 0)))
lane s k h g a b c d e f m n =
    mixed_back_late (inv_sbox (get_or s a 0)) (inv_sbox (get_or s b 0)) (inv_sbox (get_or s c 0)) (inv_sbox (get_or s d 0)) (get_or k e 0) (get_or k f 0) (get_or k m 0) (get_or k n 0)
    (inv_sbox-lt _ (h.small a)) (inv_sbox-lt _ (h.small b)) (inv_sbox-lt _ (h.small c)) (inv_sbox-lt _ (h.small d)) (g.small e) (g.small f) (g.small m) (g.small n)

pub inv_mix_lanes-1 : (s k : List ℕ) → AreBytes s → AreBytes k
    → inv_mix_lanes (13 ∷ 14 ∷ 15 ∷ 12 ∷ 1 ∷ 2 ∷ 3 ∷ 0 ∷ 5 ∷ 6 ∷ 7 ∷ 4 ∷ 9 ∷ 10 ∷ 11 ∷ 8 ∷ []) (product_lanes 14 0 s) (product_lanes 11 0 s) (product_lanes 13 0 s) (product_lanes 9 0 s) (key_lanes 1 k)
    ≡ map inv_affine_nibbles (rows_shifted 1 (inv_mix_columns (xor_block (inv_sub_bytes (inv_shift_rows s)) k)))
unfolding rows_shifted columns_raised inv_shift_rows inv_sub_bytes inv_mix_columns xor_block
inv_mix_lanes-1 s k h g = λ i.
    lane s k h g 0 13 10 7 0 1 2 3 i ∷
    lane s k h g 1 14 11 4 5 6 7 4 i ∷
    lane s k h g 2 15 8 5 10 11 8 9 i ∷
    lane s k h g 3 12 9 6 15 12 13 14 i ∷
    lane s k h g 4 1 14 11 4 5 6 7 i ∷
    lane s k h g 5 2 15 8 9 10 11 8 i ∷
    lane s k h g 6 3 12 9 14 15 12 13 i ∷
    lane s k h g 7 0 13 10 3 0 1 2 i ∷
    lane s k h g 8 5 2 15 8 9 10 11 i ∷
    lane s k h g 9 6 3 12 13 14 15 12 i ∷
    lane s k h g 10 7 0 13 2 3 0 1 i ∷
    lane s k h g 11 4 1 14 7 4 5 6 i ∷
    lane s k h g 12 9 6 3 12 13 14 15 i ∷
    lane s k h g 13 10 7 0 1 2 3 0 i ∷
    lane s k h g 14 11 4 1 6 7 4 5 i ∷
    lane s k h g 15 8 5 2 11 8 9 10 i ∷
    []

pub inv_mix_lanes-2 : (s k : List ℕ) → AreBytes s → AreBytes k
    → inv_mix_lanes (9 ∷ 10 ∷ 11 ∷ 8 ∷ 13 ∷ 14 ∷ 15 ∷ 12 ∷ 1 ∷ 2 ∷ 3 ∷ 0 ∷ 5 ∷ 6 ∷ 7 ∷ 4 ∷ []) (product_lanes 14 1 s) (product_lanes 11 1 s) (product_lanes 13 1 s) (product_lanes 9 1 s) (key_lanes 2 k)
    ≡ map inv_affine_nibbles (rows_shifted 2 (inv_mix_columns (xor_block (inv_sub_bytes (inv_shift_rows s)) k)))
unfolding rows_shifted columns_raised inv_shift_rows inv_sub_bytes inv_mix_columns xor_block
inv_mix_lanes-2 s k h g = λ i.
    lane s k h g 0 13 10 7 0 1 2 3 i ∷
    lane s k h g 5 2 15 8 9 10 11 8 i ∷
    lane s k h g 10 7 0 13 2 3 0 1 i ∷
    lane s k h g 15 8 5 2 11 8 9 10 i ∷
    lane s k h g 4 1 14 11 4 5 6 7 i ∷
    lane s k h g 9 6 3 12 13 14 15 12 i ∷
    lane s k h g 14 11 4 1 6 7 4 5 i ∷
    lane s k h g 3 12 9 6 15 12 13 14 i ∷
    lane s k h g 8 5 2 15 8 9 10 11 i ∷
    lane s k h g 13 10 7 0 1 2 3 0 i ∷
    lane s k h g 2 15 8 5 10 11 8 9 i ∷
    lane s k h g 7 0 13 10 3 0 1 2 i ∷
    lane s k h g 12 9 6 3 12 13 14 15 i ∷
    lane s k h g 1 14 11 4 5 6 7 4 i ∷
    lane s k h g 6 3 12 9 14 15 12 13 i ∷
    lane s k h g 11 4 1 14 7 4 5 6 i ∷
    []

pub inv_mix_lanes-3 : (s k : List ℕ) → AreBytes s → AreBytes k
    → inv_mix_lanes (5 ∷ 6 ∷ 7 ∷ 4 ∷ 9 ∷ 10 ∷ 11 ∷ 8 ∷ 13 ∷ 14 ∷ 15 ∷ 12 ∷ 1 ∷ 2 ∷ 3 ∷ 0 ∷ []) (product_lanes 14 2 s) (product_lanes 11 2 s) (product_lanes 13 2 s) (product_lanes 9 2 s) (key_lanes 3 k)
    ≡ map inv_affine_nibbles (rows_shifted 3 (inv_mix_columns (xor_block (inv_sub_bytes (inv_shift_rows s)) k)))
unfolding rows_shifted columns_raised inv_shift_rows inv_sub_bytes inv_mix_columns xor_block
inv_mix_lanes-3 s k h g = λ i.
    lane s k h g 0 13 10 7 0 1 2 3 i ∷
    lane s k h g 9 6 3 12 13 14 15 12 i ∷
    lane s k h g 2 15 8 5 10 11 8 9 i ∷
    lane s k h g 11 4 1 14 7 4 5 6 i ∷
    lane s k h g 4 1 14 11 4 5 6 7 i ∷
    lane s k h g 13 10 7 0 1 2 3 0 i ∷
    lane s k h g 6 3 12 9 14 15 12 13 i ∷
    lane s k h g 15 8 5 2 11 8 9 10 i ∷
    lane s k h g 8 5 2 15 8 9 10 11 i ∷
    lane s k h g 1 14 11 4 5 6 7 4 i ∷
    lane s k h g 10 7 0 13 2 3 0 1 i ∷
    lane s k h g 3 12 9 6 15 12 13 14 i ∷
    lane s k h g 12 9 6 3 12 13 14 15 i ∷
    lane s k h g 5 2 15 8 9 10 11 8 i ∷
    lane s k h g 14 11 4 1 6 7 4 5 i ∷
    lane s k h g 7 0 13 10 3 0 1 2 i ∷
    []

pub inv_mix_lanes-0 : (s k : List ℕ) → AreBytes s → AreBytes k
    → inv_mix_lanes (1 ∷ 2 ∷ 3 ∷ 0 ∷ 5 ∷ 6 ∷ 7 ∷ 4 ∷ 9 ∷ 10 ∷ 11 ∷ 8 ∷ 13 ∷ 14 ∷ 15 ∷ 12 ∷ []) (product_lanes 14 3 s) (product_lanes 11 3 s) (product_lanes 13 3 s) (product_lanes 9 3 s) (key_lanes 0 k)
    ≡ map inv_affine_nibbles (rows_shifted 0 (inv_mix_columns (xor_block (inv_sub_bytes (inv_shift_rows s)) k)))
unfolding rows_shifted columns_raised inv_shift_rows inv_sub_bytes inv_mix_columns xor_block
inv_mix_lanes-0 s k h g = λ i.
    lane s k h g 0 13 10 7 0 1 2 3 i ∷
    lane s k h g 13 10 7 0 1 2 3 0 i ∷
    lane s k h g 10 7 0 13 2 3 0 1 i ∷
    lane s k h g 7 0 13 10 3 0 1 2 i ∷
    lane s k h g 4 1 14 11 4 5 6 7 i ∷
    lane s k h g 1 14 11 4 5 6 7 4 i ∷
    lane s k h g 14 11 4 1 6 7 4 5 i ∷
    lane s k h g 11 4 1 14 7 4 5 6 i ∷
    lane s k h g 8 5 2 15 8 9 10 11 i ∷
    lane s k h g 5 2 15 8 9 10 11 8 i ∷
    lane s k h g 2 15 8 5 10 11 8 9 i ∷
    lane s k h g 15 8 5 2 11 8 9 10 i ∷
    lane s k h g 12 9 6 3 12 13 14 15 i ∷
    lane s k h g 9 6 3 12 13 14 15 12 i ∷
    lane s k h g 6 3 12 9 14 15 12 13 i ∷
    lane s k h g 3 12 9 6 15 12 13 14 i ∷
    []
