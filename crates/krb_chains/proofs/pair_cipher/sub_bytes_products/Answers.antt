use Rattle.krb_aes.specs.Nibbles.{entry, first_place, second_place}
use Rattle.krb_aes.specs.declared.sbox.TheConstants.{SBOX_FIRST, SBOX_SECOND, DOUBLED_FIRST, DOUBLED_SECOND}
use Rattle.krb_aes.proofs.Lanes.{looked_of, sum_of}
use Rattle.krb_aes.proofs.Nibbles.{bare_lanes, doubled_lanes}
use Rattle.krb_chains.proofs.pair_cipher.sub_bytes_products.Goals as goal

pub returns-clause-by_1 : goal.returns-clause-by_1
returns-clause-by_1 c = λ s h e.
    bare_lanes s c.args.x _ h e
    (sum_of (λ b. entry SBOX_FIRST (first_place b)) (λ b. entry SBOX_SECOND (second_place b)) c.args.x
    (looked_of SBOX_FIRST first_place c.args.x c.look_up.ensures c.places.ensures.first)
    (looked_of SBOX_SECOND second_place c.args.x c.look_up-2.ensures c.places.ensures.second))

pub returns-clause-by_2 : goal.returns-clause-by_2
returns-clause-by_2 c = λ s h e.
    doubled_lanes s c.args.x _ h e
    (sum_of (λ b. entry DOUBLED_FIRST (first_place b)) (λ b. entry DOUBLED_SECOND (second_place b)) c.args.x
    (looked_of DOUBLED_FIRST first_place c.args.x c.look_up-3.ensures c.places.ensures.first)
    (looked_of DOUBLED_SECOND second_place c.args.x c.look_up-4.ensures c.places.ensures.second))
