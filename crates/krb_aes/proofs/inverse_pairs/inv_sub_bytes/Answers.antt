use Rattle.krb_aes.specs.Nibbles.{entry, first_place, second_place}
use Rattle.krb_aes.specs.declared.inverse_sbox.TheConstants.{INV_SBOX_FIRST, INV_SBOX_SECOND}
use Rattle.krb_aes.proofs.Lanes.{looked_of, sum_of}
use Rattle.krb_aes.proofs.InverseNibbles.{lanes_plain}
use Rattle.krb_aes.proofs.inverse_pairs.inv_sub_bytes.Goals as goal

pub returns : goal.returns
returns c = λ s h e.
    lanes_plain s c.args.x _ h e
    (sum_of (λ b. entry INV_SBOX_FIRST (first_place b)) (λ b. entry INV_SBOX_SECOND (second_place b)) c.args.x
    (looked_of INV_SBOX_FIRST first_place c.args.x c.look_up.ensures c.places.ensures.first)
    (looked_of INV_SBOX_SECOND second_place c.args.x c.look_up-2.ensures c.places.ensures.second))
