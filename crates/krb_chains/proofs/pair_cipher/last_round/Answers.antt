use Rattle.std.proofs.Common.{◌≡◌, ℕ, List, [], ◌∷◌, map, get_or, bit_xor, ap, ◌∙◌}
use Rattle.krb_aes.specs.Field.{sbox}
use Rattle.krb_aes.specs.Cipher.{sub_bytes, shift_rows, add_round_key}
use Rattle.krb_aes.specs.Rounds.{rows_shifted, round_key}
use Rattle.krb_aes.specs.Pairs.{pair, twice}
use Rattle.krb_aes.proofs.Rounds.{AreBytes-rows_shifted, last_lanes}
use Rattle.krb_aes.proofs.Nibbles.{xor_both}
use Rattle.krb_aes.proofs.PairLanes.{AreBytes-pair}
use Rattle.krb_chains.proofs.pair_cipher.last_round.Goals as goal

one : (s w : List ℕ) (n : ℕ) → last_lanes (0 ∷ 9 ∷ 2 ∷ 11 ∷ 4 ∷ 13 ∷ 6 ∷ 15 ∷ 8 ∷ 1 ∷ 10 ∷ 3 ∷ 12 ∷ 5 ∷ 14 ∷ 7 ∷ []) (map (λ b. bit_xor (sbox b) 0x63) (rows_shifted 3 s)) (map (λ b. bit_xor b 0x63) (round_key w n)) ≡ add_round_key w n (shift_rows (sub_bytes s))
unfolding rows_shifted sub_bytes shift_rows add_round_key round_key
one s w n = (λ i.
    xor_both (sbox (get_or s 0 0)) (get_or (round_key w n) 0 0) 0x63 i ∷
    xor_both (sbox (get_or s 5 0)) (get_or (round_key w n) 1 0) 0x63 i ∷
    xor_both (sbox (get_or s 10 0)) (get_or (round_key w n) 2 0) 0x63 i ∷
    xor_both (sbox (get_or s 15 0)) (get_or (round_key w n) 3 0) 0x63 i ∷
    xor_both (sbox (get_or s 4 0)) (get_or (round_key w n) 4 0) 0x63 i ∷
    xor_both (sbox (get_or s 9 0)) (get_or (round_key w n) 5 0) 0x63 i ∷
    xor_both (sbox (get_or s 14 0)) (get_or (round_key w n) 6 0) 0x63 i ∷
    xor_both (sbox (get_or s 3 0)) (get_or (round_key w n) 7 0) 0x63 i ∷
    xor_both (sbox (get_or s 8 0)) (get_or (round_key w n) 8 0) 0x63 i ∷
    xor_both (sbox (get_or s 13 0)) (get_or (round_key w n) 9 0) 0x63 i ∷
    xor_both (sbox (get_or s 2 0)) (get_or (round_key w n) 10 0) 0x63 i ∷
    xor_both (sbox (get_or s 7 0)) (get_or (round_key w n) 11 0) 0x63 i ∷
    xor_both (sbox (get_or s 12 0)) (get_or (round_key w n) 12 0) 0x63 i ∷
    xor_both (sbox (get_or s 1 0)) (get_or (round_key w n) 13 0) 0x63 i ∷
    xor_both (sbox (get_or s 6 0)) (get_or (round_key w n) 14 0) 0x63 i ∷
    xor_both (sbox (get_or s 11 0)) (get_or (round_key w n) 15 0) 0x63 i ∷ [])

pub returns : goal.returns
unfolding rows_shifted sub_bytes shift_rows add_round_key round_key
returns c = λ s t w n h j ex ek.
    let g = AreBytes-pair _ _ (AreBytes-rows_shifted 3 s h) (AreBytes-rows_shifted 3 t j) in
    let k = c.twice.ensures.value ∙ ap twice ek in
    (λ i. last_lanes (0 ∷ 9 ∷ 2 ∷ 11 ∷ 4 ∷ 13 ∷ 6 ∷ 15 ∷ 8 ∷ 1 ∷ 10 ∷ 3 ∷ 12 ∷ 5 ∷ 14 ∷ 7 ∷ 16 ∷ 25 ∷ 18 ∷ 27 ∷ 20 ∷ 29 ∷ 22 ∷ 31 ∷ 24 ∷ 17 ∷ 26 ∷ 19 ∷ 28 ∷ 21 ∷ 30 ∷ 23 ∷ []) (c.bare_sub_bytes.ensures (pair (rows_shifted 3 s) (rows_shifted 3 t)) g ex i) (k i)) ∙ (λ i. pair (one s w n i) (one t w n i))
