use Rattle.std.proofs.Common.{[], ◌∷◌, ◌∙◌}
use Rattle.krb_aes.specs.InverseCipher.{inv_sub_bytes, inv_shift_rows, inv_mix_columns}
use Rattle.krb_aes.specs.Stealing.{xor_block}
use Rattle.krb_aes.specs.Rounds.{rows_shifted, columns_raised}
use Rattle.krb_aes.specs.Pairs.{pair}
use Rattle.krb_aes.proofs.InverseNibbles.{inv_mix_lanes}
use Rattle.krb_aes.proofs.InverseMixing.{inv_mix_lanes-1}
use Rattle.krb_aes.proofs.inverse_pairs.inv_mix_1.Goals as goal

pub returns : goal.returns
unfolding rows_shifted columns_raised inv_shift_rows inv_sub_bytes inv_mix_columns xor_block
returns c = λ s t k hs ht g ea eb ec ed ek.
    (λ i. inv_mix_lanes (13 ∷ 14 ∷ 15 ∷ 12 ∷ 1 ∷ 2 ∷ 3 ∷ 0 ∷ 5 ∷ 6 ∷ 7 ∷ 4 ∷ 9 ∷ 10 ∷ 11 ∷ 8 ∷ 29 ∷ 30 ∷ 31 ∷ 28 ∷ 17 ∷ 18 ∷ 19 ∷ 16 ∷ 21 ∷ 22 ∷ 23 ∷ 20 ∷ 25 ∷ 26 ∷ 27 ∷ 24 ∷ []) (ea i) (eb i) (ec i) (ed i) (ek i))
    ∙ (λ i. pair (inv_mix_lanes-1 s k hs g i) (inv_mix_lanes-1 t k ht g i))
