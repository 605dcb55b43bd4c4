use Rattle.std.proofs.Common.{Err, inr, ap}
use Rattle.krb_seal.specs.Unseals.{untold}
use Rattle.krb_seal.proofs.Checking.{priv_refused, priv_opened}
use Rattle.krb_seal.proofs.opening.Opening.open_priv.Goals as goal

pub returns-in-Ok-clause-answer : goal.returns-in-Ok-clause-answer
returns-in-Ok-clause-answer c =
    priv_opened c.args.self.now c.args.number c.args.now c.args.m.now c.authentic_priv.result c.in-Ok.body (untold c.open_body.result) c.authentic_priv.ensures.answer c.in-Ok.is (inr c.open_body.ensures.answer)

pub returns-in-Err-clause-answer : goal.returns-in-Err-clause-answer
returns-in-Err-clause-answer c =
    priv_refused c.args.self.now c.args.number c.args.now c.args.m.now c.authentic_priv.result c.in-Err.refusal (Err c.from.result.refusal) c.authentic_priv.ensures.answer c.in-Err.is (ap (λ z. z.refusal) c.from.ensures)
