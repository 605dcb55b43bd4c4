use Rattle.krb_aes.proofs.Rounds.{lanes_bytes}
use Rattle.krb_chains.proofs.ChainLemmas.{pair_ciphered}
use Rattle.krb_chains.proofs.chains.chain_four.Goals as goal

pub returns-clause-a : goal.returns-clause-a
returns-clause-a c = λ w k.
    (pair_ciphered w c.args.a.now c.args.b.now c.args.state c.joined.result _ c.requires.a c.requires.b c.joined.ensures.first_bytes c.joined.ensures.second_bytes
    c.fits-state.0 (lanes_bytes c.args.state c.fits-state.1) c.joined.ensures.value (λ p q hp hq e. c.encrypt_pairs.ensures.first w p q k hp hq e)).0

pub returns-clause-b : goal.returns-clause-b
returns-clause-b c = λ w k.
    (pair_ciphered w c.args.a.now c.args.b.now c.args.state c.joined.result _ c.requires.a c.requires.b c.joined.ensures.first_bytes c.joined.ensures.second_bytes
    c.fits-state.0 (lanes_bytes c.args.state c.fits-state.1) c.joined.ensures.value (λ p q hp hq e. c.encrypt_pairs.ensures.first w p q k hp hq e)).1

pub returns-clause-c : goal.returns-clause-c
returns-clause-c c = λ w k.
    (pair_ciphered w c.args.c.now c.args.d.now c.args.other c.joined-2.result _ c.requires.c c.requires.d c.joined-2.ensures.first_bytes c.joined-2.ensures.second_bytes
    c.fits-other.0 (lanes_bytes c.args.other c.fits-other.1) c.joined-2.ensures.value (λ p q hp hq e. c.encrypt_pairs.ensures.second w p q k hp hq e)).0

pub returns-clause-d : goal.returns-clause-d
returns-clause-d c = λ w k.
    (pair_ciphered w c.args.c.now c.args.d.now c.args.other c.joined-2.result _ c.requires.c c.requires.d c.joined-2.ensures.first_bytes c.joined-2.ensures.second_bytes
    c.fits-other.0 (lanes_bytes c.args.other c.fits-other.1) c.joined-2.ensures.value (λ p q hp hq e. c.encrypt_pairs.ensures.second w p q k hp hq e)).1
