use Rattle.std.proofs.Common.{Err, ap}
use Rattle.krb_seal.specs.Unseals.{untold}
use Rattle.krb_seal.proofs.Checking.{body_given, text_refused}
use Rattle.krb_seal.proofs.opening.Opening.open_text.Goals as goal

pub returns-in-Ok-clause-answer : goal.returns-in-Ok-clause-answer
returns-in-Ok-clause-answer c =
    body_given c.args.self.now c.args.number c.args.now c.args.text c.args.tag.now c.authentic_text.result c.in-Ok.body (untold c.open_body.result) c.authentic_text.ensures.answer c.in-Ok.is c.open_body.ensures.answer

pub returns-in-Err-clause-answer : goal.returns-in-Err-clause-answer
returns-in-Err-clause-answer c =
    text_refused c.args.self.now c.args.number c.args.now c.args.text c.args.tag.now c.authentic_text.result c.in-Err.refusal (Err c.from.result.refusal) c.authentic_text.ensures.answer c.in-Err.is (ap (λ z. z.refusal) c.from.ensures)
