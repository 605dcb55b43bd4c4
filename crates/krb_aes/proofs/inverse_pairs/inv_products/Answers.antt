use Rattle.krb_aes.specs.Nibbles.{entry, first_place, second_place}
use Rattle.krb_aes.specs.declared.inverse_sbox.TheConstants.{TIMES_14_FIRST, TIMES_14_SECOND, TIMES_11_FIRST, TIMES_11_SECOND, TIMES_13_FIRST, TIMES_13_SECOND, TIMES_9_FIRST, TIMES_9_SECOND}
use Rattle.krb_aes.proofs.Lanes.{looked_of, sum_of}
use Rattle.krb_aes.proofs.InverseNibbles.{lanes_14, lanes_11, lanes_13, lanes_9}
use Rattle.krb_aes.proofs.inverse_pairs.inv_products.Goals as goal

pub returns-clause-by_14 : goal.returns-clause-by_14
returns-clause-by_14 c = λ s h e.
    lanes_14 s c.args.x _ h e
    (sum_of (λ b. entry TIMES_14_FIRST (first_place b)) (λ b. entry TIMES_14_SECOND (second_place b)) c.args.x
    (looked_of TIMES_14_FIRST first_place c.args.x c.look_up.ensures c.places.ensures.first)
    (looked_of TIMES_14_SECOND second_place c.args.x c.look_up-2.ensures c.places.ensures.second))

pub returns-clause-by_11 : goal.returns-clause-by_11
returns-clause-by_11 c = λ s h e.
    lanes_11 s c.args.x _ h e
    (sum_of (λ b. entry TIMES_11_FIRST (first_place b)) (λ b. entry TIMES_11_SECOND (second_place b)) c.args.x
    (looked_of TIMES_11_FIRST first_place c.args.x c.look_up-3.ensures c.places.ensures.first)
    (looked_of TIMES_11_SECOND second_place c.args.x c.look_up-4.ensures c.places.ensures.second))

pub returns-clause-by_13 : goal.returns-clause-by_13
returns-clause-by_13 c = λ s h e.
    lanes_13 s c.args.x _ h e
    (sum_of (λ b. entry TIMES_13_FIRST (first_place b)) (λ b. entry TIMES_13_SECOND (second_place b)) c.args.x
    (looked_of TIMES_13_FIRST first_place c.args.x c.look_up-5.ensures c.places.ensures.first)
    (looked_of TIMES_13_SECOND second_place c.args.x c.look_up-6.ensures c.places.ensures.second))

pub returns-clause-by_9 : goal.returns-clause-by_9
returns-clause-by_9 c = λ s h e.
    lanes_9 s c.args.x _ h e
    (sum_of (λ b. entry TIMES_9_FIRST (first_place b)) (λ b. entry TIMES_9_SECOND (second_place b)) c.args.x
    (looked_of TIMES_9_FIRST first_place c.args.x c.look_up-7.ensures c.places.ensures.first)
    (looked_of TIMES_9_SECOND second_place c.args.x c.look_up-8.ensures c.places.ensures.second))
