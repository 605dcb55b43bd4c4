use Rattle.std.proofs.Common.{ℕ, Option, Some, sym, subst, length}
use Rattle.krb_structs.specs.Fault.{answer_of}
use Rattle.krb_structs.specs.Peer.{PeerState}
use Rattle.krb_structs.specs.Reasons.{DemandAnswer}
use Rattle.krb_c.specs.Peers.{OpenAnswerAt}
use Rattle.krb_c.proofs.peer_calls.krbrelay_peer_open.Goals as goal

pub returns-clause-answer : goal.returns-clause-answer
returns-clause-answer c =
    let at = c.args.at.now in let frame = c.args.frame.now in let room = length c.args.out.now in
    let code = answer_of c.open-opened.result in
    let held = subst (λ (p : PeerState). DemandAnswer (Some p.opener) p.demand at frame room code) c.deref_mut.ensures.value c.open-opened.ensures.answer in
    let by = subst (λ (p : Option PeerState). OpenAnswerAt p at frame room code) (sym c.in-Some.ensures.taken) held in
    subst (λ (k : ℕ). OpenAnswerAt c.args.handle.now.peer at frame room k) (sym c.answer.ensures.answer) by
