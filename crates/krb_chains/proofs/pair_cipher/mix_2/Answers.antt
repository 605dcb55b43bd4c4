use Rattle.std.proofs.Common.{◌≡◌, ℕ, List, [], ◌∷◌, map, get_or, ◌∙◌}
use Rattle.krb_base.specs.Bytes.{AreBytes}
use Rattle.krb_aes.specs.Cipher.{shift_rows, mix_columns}
use Rattle.krb_aes.specs.Stealing.{xor_block}
use Rattle.krb_aes.specs.Nibbles.{nibbles_of, bare_nibbles, bare_doubled}
use Rattle.krb_aes.specs.Rounds.{rows_shifted, columns_raised}
use Rattle.krb_aes.specs.Pairs.{pair}
use Rattle.krb_aes.proofs.Rounds.{mixed_lanes}
use Rattle.krb_aes.proofs.Nibbles.{mixed_nibbles_late}
use Rattle.krb_chains.proofs.pair_cipher.mix_2.Goals as goal

one : (s k : List ℕ) → AreBytes s → AreBytes k
    → mixed_lanes (9 ∷ 10 ∷ 11 ∷ 8 ∷ 13 ∷ 14 ∷ 15 ∷ 12 ∷ 1 ∷ 2 ∷ 3 ∷ 0 ∷ 5 ∷ 6 ∷ 7 ∷ 4 ∷ []) (11 ∷ 8 ∷ 9 ∷ 10 ∷ 15 ∷ 12 ∷ 13 ∷ 14 ∷ 3 ∷ 0 ∷ 1 ∷ 2 ∷ 7 ∷ 4 ∷ 5 ∷ 6 ∷ []) (map bare_nibbles (rows_shifted 3 s)) (map bare_doubled (rows_shifted 3 s)) (map bare_nibbles (rows_shifted 2 (columns_raised k)))
    ≡ map nibbles_of (rows_shifted 2 (xor_block (mix_columns (shift_rows s)) k))
unfolding rows_shifted columns_raised shift_rows mix_columns xor_block
one s k h g = (λ i.
    mixed_nibbles_late (get_or s 0 0) (get_or s 5 0) (get_or s 10 0) (get_or s 15 0) (get_or k 0 0) (h.small 0) (h.small 5) (h.small 10) (h.small 15) (g.small 0) i ∷
    mixed_nibbles_late (get_or s 13 0) (get_or s 2 0) (get_or s 7 0) (get_or s 8 0) (get_or k 9 0) (h.small 13) (h.small 2) (h.small 7) (h.small 8) (g.small 9) i ∷
    mixed_nibbles_late (get_or s 10 0) (get_or s 15 0) (get_or s 0 0) (get_or s 5 0) (get_or k 2 0) (h.small 10) (h.small 15) (h.small 0) (h.small 5) (g.small 2) i ∷
    mixed_nibbles_late (get_or s 7 0) (get_or s 8 0) (get_or s 13 0) (get_or s 2 0) (get_or k 11 0) (h.small 7) (h.small 8) (h.small 13) (h.small 2) (g.small 11) i ∷
    mixed_nibbles_late (get_or s 4 0) (get_or s 9 0) (get_or s 14 0) (get_or s 3 0) (get_or k 4 0) (h.small 4) (h.small 9) (h.small 14) (h.small 3) (g.small 4) i ∷
    mixed_nibbles_late (get_or s 1 0) (get_or s 6 0) (get_or s 11 0) (get_or s 12 0) (get_or k 13 0) (h.small 1) (h.small 6) (h.small 11) (h.small 12) (g.small 13) i ∷
    mixed_nibbles_late (get_or s 14 0) (get_or s 3 0) (get_or s 4 0) (get_or s 9 0) (get_or k 6 0) (h.small 14) (h.small 3) (h.small 4) (h.small 9) (g.small 6) i ∷
    mixed_nibbles_late (get_or s 11 0) (get_or s 12 0) (get_or s 1 0) (get_or s 6 0) (get_or k 15 0) (h.small 11) (h.small 12) (h.small 1) (h.small 6) (g.small 15) i ∷
    mixed_nibbles_late (get_or s 8 0) (get_or s 13 0) (get_or s 2 0) (get_or s 7 0) (get_or k 8 0) (h.small 8) (h.small 13) (h.small 2) (h.small 7) (g.small 8) i ∷
    mixed_nibbles_late (get_or s 5 0) (get_or s 10 0) (get_or s 15 0) (get_or s 0 0) (get_or k 1 0) (h.small 5) (h.small 10) (h.small 15) (h.small 0) (g.small 1) i ∷
    mixed_nibbles_late (get_or s 2 0) (get_or s 7 0) (get_or s 8 0) (get_or s 13 0) (get_or k 10 0) (h.small 2) (h.small 7) (h.small 8) (h.small 13) (g.small 10) i ∷
    mixed_nibbles_late (get_or s 15 0) (get_or s 0 0) (get_or s 5 0) (get_or s 10 0) (get_or k 3 0) (h.small 15) (h.small 0) (h.small 5) (h.small 10) (g.small 3) i ∷
    mixed_nibbles_late (get_or s 12 0) (get_or s 1 0) (get_or s 6 0) (get_or s 11 0) (get_or k 12 0) (h.small 12) (h.small 1) (h.small 6) (h.small 11) (g.small 12) i ∷
    mixed_nibbles_late (get_or s 9 0) (get_or s 14 0) (get_or s 3 0) (get_or s 4 0) (get_or k 5 0) (h.small 9) (h.small 14) (h.small 3) (h.small 4) (g.small 5) i ∷
    mixed_nibbles_late (get_or s 6 0) (get_or s 11 0) (get_or s 12 0) (get_or s 1 0) (get_or k 14 0) (h.small 6) (h.small 11) (h.small 12) (h.small 1) (g.small 14) i ∷
    mixed_nibbles_late (get_or s 3 0) (get_or s 4 0) (get_or s 9 0) (get_or s 14 0) (get_or k 7 0) (h.small 3) (h.small 4) (h.small 9) (h.small 14) (g.small 7) i ∷ [])

pub returns : goal.returns
unfolding rows_shifted columns_raised shift_rows mix_columns xor_block
returns c = λ s t k h j g ea eb ek.
    (λ i. mixed_lanes (9 ∷ 10 ∷ 11 ∷ 8 ∷ 13 ∷ 14 ∷ 15 ∷ 12 ∷ 1 ∷ 2 ∷ 3 ∷ 0 ∷ 5 ∷ 6 ∷ 7 ∷ 4 ∷ 25 ∷ 26 ∷ 27 ∷ 24 ∷ 29 ∷ 30 ∷ 31 ∷ 28 ∷ 17 ∷ 18 ∷ 19 ∷ 16 ∷ 21 ∷ 22 ∷ 23 ∷ 20 ∷ []) (11 ∷ 8 ∷ 9 ∷ 10 ∷ 15 ∷ 12 ∷ 13 ∷ 14 ∷ 3 ∷ 0 ∷ 1 ∷ 2 ∷ 7 ∷ 4 ∷ 5 ∷ 6 ∷ 27 ∷ 24 ∷ 25 ∷ 26 ∷ 31 ∷ 28 ∷ 29 ∷ 30 ∷ 19 ∷ 16 ∷ 17 ∷ 18 ∷ 23 ∷ 20 ∷ 21 ∷ 22 ∷ []) (ea i) (eb i) (ek i)) ∙ (λ i. pair (one s k h g i) (one t k j g i))
