use Rattle.std.proofs.Common.{ap, ◌∙◌}
use Rattle.krb_aes.specs.Cipher.{add_round_key}
use Rattle.krb_aes.specs.Stealing.{xor_block}
use Rattle.krb_aes.specs.Rounds.{rows_shifted, round_key}
use Rattle.krb_aes.specs.Pairs.{pair, twice}
use Rattle.krb_aes.proofs.Rounds.{AreBytes-rows_shifted, AreBytes-round_key}
use Rattle.krb_aes.proofs.PairLanes.{AreBytes-pair}
use Rattle.krb_aes.proofs.inverse_pairs.inv_round_2.Goals as goal

pub returns : goal.returns
unfolding xor_block add_round_key round_key
returns c = λ s t w n hs ht ex ek.
    let p = c.inv_products.ensures in
    let r = pair (rows_shifted 1 s) (rows_shifted 1 t) in
    let g = AreBytes-pair _ _ (AreBytes-rows_shifted 1 s hs) (AreBytes-rows_shifted 1 t ht) in
    c.inv_mix_2.ensures s t (round_key w n) hs ht (AreBytes-round_key w n) (p.by_14 r g ex) (p.by_11 r g ex) (p.by_13 r g ex) (p.by_9 r g ex) (c.twice.ensures.value ∙ ap twice ek)
