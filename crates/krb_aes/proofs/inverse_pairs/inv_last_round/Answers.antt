use Rattle.std.proofs.Common.{[], ◌∷◌, ◌∙◌, ap}
use Rattle.krb_aes.specs.Cipher.{add_round_key}
use Rattle.krb_aes.specs.InverseCipher.{inv_sub_bytes, inv_shift_rows}
use Rattle.krb_aes.specs.Rounds.{rows_shifted, round_key}
use Rattle.krb_aes.specs.Pairs.{pair, twice}
use Rattle.krb_aes.proofs.Rounds.{AreBytes-rows_shifted, last_lanes}
use Rattle.krb_aes.proofs.PairLanes.{AreBytes-pair}
use Rattle.krb_aes.proofs.inverse_pairs.inv_last_round.Goals as goal

pub returns : goal.returns
unfolding rows_shifted add_round_key inv_sub_bytes inv_shift_rows round_key
returns c = λ s t w hs ht ex ek.
    let g = AreBytes-pair _ _ (AreBytes-rows_shifted 1 s hs) (AreBytes-rows_shifted 1 t ht) in
    let k = c.twice.ensures.value ∙ ap twice ek in
    λ i. last_lanes (0 ∷ 9 ∷ 2 ∷ 11 ∷ 4 ∷ 13 ∷ 6 ∷ 15 ∷ 8 ∷ 1 ∷ 10 ∷ 3 ∷ 12 ∷ 5 ∷ 14 ∷ 7 ∷ 16 ∷ 25 ∷ 18 ∷ 27 ∷ 20 ∷ 29 ∷ 22 ∷ 31 ∷ 24 ∷ 17 ∷ 26 ∷ 19 ∷ 28 ∷ 21 ∷ 30 ∷ 23 ∷ []) (c.inv_sub_bytes.ensures (pair (rows_shifted 1 s) (rows_shifted 1 t)) g ex i) (k i)
