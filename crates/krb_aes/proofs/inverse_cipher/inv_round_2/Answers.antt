use Rattle.krb_aes.specs.Cipher.{add_round_key}
use Rattle.krb_aes.specs.Stealing.{xor_block}
use Rattle.krb_aes.specs.Rounds.{rows_shifted, round_key}
use Rattle.krb_aes.proofs.Rounds.{AreBytes-rows_shifted, AreBytes-round_key}
use Rattle.krb_aes.proofs.inverse_cipher.inv_round_2.Goals as goal

pub returns : goal.returns
unfolding xor_block add_round_key round_key
returns c = λ s w n h ex ek.
    let p = c.inv_products.ensures in
    let t = rows_shifted 1 s in
    let g = AreBytes-rows_shifted 1 s h in
    c.inv_mix_2.ensures s (round_key w n) h (AreBytes-round_key w n) (p.by_14 t g ex) (p.by_11 t g ex) (p.by_13 t g ex) (p.by_9 t g ex) ek
