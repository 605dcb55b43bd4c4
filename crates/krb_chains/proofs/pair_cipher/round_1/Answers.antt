use Rattle.std.proofs.Common.{ap, ◌∙◌}
use Rattle.krb_aes.specs.Cipher.{sub_bytes, add_round_key}
use Rattle.krb_aes.specs.Stealing.{xor_block}
use Rattle.krb_aes.specs.Rounds.{rows_shifted, round_key}
use Rattle.krb_aes.specs.Pairs.{pair, twice}
use Rattle.krb_aes.proofs.StateLemmas.{AreBytes-sub_bytes}
use Rattle.krb_aes.proofs.Rounds.{AreBytes-rows_shifted, AreBytes-round_key}
use Rattle.krb_aes.proofs.PairLanes.{AreBytes-pair}
use Rattle.krb_chains.proofs.pair_cipher.round_1.Goals as goal

pub returns : goal.returns
unfolding rows_shifted sub_bytes xor_block add_round_key round_key
returns c = λ s t w n h j ex ek.
    let r = pair (rows_shifted 0 s) (rows_shifted 0 t) in
    let g = AreBytes-pair _ _ (AreBytes-rows_shifted 0 s h) (AreBytes-rows_shifted 0 t j) in
    c.mix_1.ensures (sub_bytes s) (sub_bytes t) (round_key w n) (AreBytes-sub_bytes s h) (AreBytes-sub_bytes t j) (AreBytes-round_key w n)
    (c.sub_bytes_products.ensures.by_1 r g ex) (c.sub_bytes_products.ensures.by_2 r g ex) (c.twice.ensures.value ∙ ap twice ek)
