use Rattle.std.proofs.Common.{ap, subst, length}
use Rattle.krb_seal.specs.Sealer.{SealerState}
use Rattle.krb_structs.specs.Fault.{answer_of}
use Rattle.krb_structs.specs.Peer.{PeerState}
use Rattle.krb_structs.specs.Reasons.{SealAnswer}
use Rattle.krb_structs.proofs.peer.Peer.seal.Goals as goal

pub returns-clause-answer : goal.returns-clause-answer
returns-clause-answer c =
    subst (λ (s : SealerState). SealAnswer s (length c.args.user.now) c.args.at.now (length c.args.out.now) (answer_of c.seal.result))
    (ap (λ (p : PeerState). p.sealer) c.self.view_is) c.seal.ensures.answer
