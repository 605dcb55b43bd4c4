use Rattle.krb_aes.specs.Cipher.{sub_bytes, add_round_key}
use Rattle.krb_aes.specs.Stealing.{xor_block}
use Rattle.krb_aes.specs.Rounds.{rows_shifted, round_key}
use Rattle.krb_aes.proofs.StateLemmas.{AreBytes-sub_bytes}
use Rattle.krb_aes.proofs.Rounds.{AreBytes-rows_shifted, AreBytes-round_key}
use Rattle.krb_aes.proofs.cipher.round_3.Goals as goal

pub returns : goal.returns
unfolding rows_shifted sub_bytes xor_block add_round_key round_key
returns c = λ s w n h ex ek.
    c.mix_3.ensures (sub_bytes s) (round_key w n) (AreBytes-sub_bytes s h) (AreBytes-round_key w n)
    (c.sub_bytes_products.ensures.by_1 (rows_shifted 2 s) (AreBytes-rows_shifted 2 s h) ex)
    (c.sub_bytes_products.ensures.by_2 (rows_shifted 2 s) (AreBytes-rows_shifted 2 s h) ex) ek
