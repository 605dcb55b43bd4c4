use Rattle.std.proofs.Common.{◌+◌, ◌∷◌, inr, refl, length}
use Rattle.krb_record.specs.Record.{first_byte_of}
use Rattle.krb_structs.proofs.Answering.{sealed_answer}
use Rattle.krb_structs.proofs.any_sealer.AnySealer.seal_record.Goals as goal

pub returns-clause-answer : goal.returns-clause-answer
returns-clause-answer c =
    let n = 1 + length c.args.body.now in
    let has = c.in_ok-kind.ensures.ok in
    inr ((has.0, (first_byte_of c.in_ok-kind.kind ∷ c.args.body.now, has.1)), sealed_answer c.args.self.now n c.args.at.now (length c.args.out.now) 0 c.in_ok-at.ensures.ready (inr refl))
