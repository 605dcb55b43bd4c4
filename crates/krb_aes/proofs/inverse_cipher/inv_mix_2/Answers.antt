use Rattle.std.proofs.Common.{[], ◌∷◌, ◌∙◌}
use Rattle.krb_aes.proofs.InverseNibbles.{inv_mix_lanes}
use Rattle.krb_aes.proofs.InverseMixing.{inv_mix_lanes-2}
use Rattle.krb_aes.proofs.inverse_cipher.inv_mix_2.Goals as goal

pub returns : goal.returns
returns c = λ s k h g ea eb ec ed ek. (λ i. inv_mix_lanes (9 ∷ 10 ∷ 11 ∷ 8 ∷ 13 ∷ 14 ∷ 15 ∷ 12 ∷ 1 ∷ 2 ∷ 3 ∷ 0 ∷ 5 ∷ 6 ∷ 7 ∷ 4 ∷ []) (ea i) (eb i) (ec i) (ed i) (ek i)) ∙ inv_mix_lanes-2 s k h g
