use Rattle.std.proofs.Common.{◌≡◌, ℕ, false, subst, sym, rules}
use Rattle.std.specs.Option.{ForSome}
use Rattle.krb_seal.specs.Covered.{IsCodedFrame}
use Rattle.krb_seal.specs.Opens.{Opens}
use Rattle.krb_seal.specs.Unseals.{OrMemory, untold}
use Rattle.krb_peers.specs.ReceiverState.{ReceiverState}
use Rattle.krb_peers.proofs.ReceiverLemmas.{given_in_range, refused_is}
use Rattle.krb_peers.proofs.receiver.Receiver.unsealed.Goals as goal

pub unseal_coded-requires : goal.unseal_coded-requires
unseal_coded-requires c =
    record { coded = subst (λ (z : ReceiverState). ForSome c.args.coded (IsCodedFrame z.opener c.args.frame.now)) (sym c.self.view_is) c.requires.coded }

pub returns-clause-refused : goal.returns-clause-refused
returns-clause-refused c =
    let s : ReceiverState = c.args.self.now in
    let live : s.demand.closed ≡ false = search rules in
    let answer = subst (λ (n : ℕ). OrMemory (Opens c.self.inside.opener n c.args.now c.args.frame.now) (untold c.unseal_coded.result)) c.expected.ensures.number c.unseal_coded.ensures.answer in
    refused_is s c.args.now c.args.frame.now c.unseal_coded.result live
    (subst (λ (z : ReceiverState). OrMemory (Opens z.opener z.demand.expected c.args.now c.args.frame.now) (untold c.unseal_coded.result)) c.self.view_is answer)

pub returns-clause-in_range : goal.returns-clause-in_range
returns-clause-in_range c =
    let answer = subst (λ (n : ℕ). OrMemory (Opens c.self.inside.opener n c.args.now c.args.frame.now) (untold c.unseal_coded.result)) c.expected.ensures.number c.unseal_coded.ensures.answer in
    given_in_range c.args.self.now c.args.now c.args.frame.now c.unseal_coded.result
    (subst (λ (z : ReceiverState). OrMemory (Opens z.opener z.demand.expected c.args.now c.args.frame.now) (untold c.unseal_coded.result)) c.self.view_is answer)
