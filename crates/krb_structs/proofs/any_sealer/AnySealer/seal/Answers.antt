use Rattle.std.proofs.Common.{inr, refl, length}
use Rattle.krb_structs.proofs.Answering.{sealed_answer}
use Rattle.krb_structs.proofs.any_sealer.AnySealer.seal.Goals as goal

pub returns-clause-answer : goal.returns-clause-answer
returns-clause-answer c = sealed_answer c.args.self.now (length c.args.user.now) c.args.at.now (length c.args.out.now) 0 c.in_ok-at.ensures.ready (inr refl)
