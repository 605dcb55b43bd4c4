use Rattle.krb_seal.specs.Opens.{Opens}
use Rattle.krb_seal.proofs.Checking.{refusal_alone}
use Rattle.krb_seal.proofs.opener.Opener.unseal.Goals as goal

pub returns-in_err-user_data-clause-answer : goal.returns-in_err-user_data-clause-answer
returns-in_err-user_data-clause-answer c =
    refusal_alone (Opens c.args.self.now c.args.number c.args.now c.args.frame.now) c.unseal_telling.result _ c.from_residual.result c.unseal_telling.ensures.answer c.in_err-user_data.was c.from_residual.ensures.1
