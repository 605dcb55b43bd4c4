use Rattle.krb_aes.specs.Nibbles.{entry, first_place, second_place}
use Rattle.krb_aes.specs.declared.sbox.TheConstants.{BARE_FIRST, BARE_SECOND}
use Rattle.krb_aes.proofs.Lanes.{looked_of, sum_of}
use Rattle.krb_aes.proofs.Nibbles.{plain_lanes}
use Rattle.krb_chains.proofs.pair_cipher.bare_sub_bytes.Goals as goal

pub returns : goal.returns
returns c = λ s h e.
    plain_lanes s c.args.x _ h e
    (sum_of (λ b. entry BARE_FIRST (first_place b)) (λ b. entry BARE_SECOND (second_place b)) c.args.x
    (looked_of BARE_FIRST first_place c.args.x c.look_up.ensures c.places.ensures.first)
    (looked_of BARE_SECOND second_place c.args.x c.look_up-2.ensures c.places.ensures.second))
