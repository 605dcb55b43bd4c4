use Rattle.std.proofs.Common.{ℕ, Option, sym, subst, length}
use Rattle.krb_structs.specs.Fault.{answer_of}
use Rattle.krb_structs.specs.Peer.{PeerState}
use Rattle.krb_structs.specs.Reasons.{SealAnswer}
use Rattle.krb_c.specs.Peers.{SealAnswerAt}
use Rattle.krb_c.proofs.peer_calls.krbrelay_peer_seal.Goals as goal

pub returns-clause-answer : goal.returns-clause-answer
returns-clause-answer c =
    let n = length c.args.user.now in let at = c.args.at.now in let room = length c.args.out.now in
    let code = answer_of c.seal-sealed.result in
    let held = subst (λ (p : PeerState). SealAnswer p.sealer n at room code) c.deref_mut.ensures.value c.seal-sealed.ensures.answer in
    let by = subst (λ (p : Option PeerState). SealAnswerAt p n at room code) (sym c.in-Some.ensures.taken) held in
    subst (λ (k : ℕ). SealAnswerAt c.args.handle.now.peer n at room k) (sym c.answer.ensures.answer) by
