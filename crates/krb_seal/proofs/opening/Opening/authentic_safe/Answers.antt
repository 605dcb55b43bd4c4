use Rattle.std.proofs.Common.{Ok, ap, inr, ◌∙◌}
use Rattle.krb_seal.specs.Authentic.{GivesBody, authentic_checks}
use Rattle.krb_seal.proofs.Checking.{all_passed_for, authentic_others, not_passed, refused_otherwise}
use Rattle.krb_seal.proofs.opening.Opening.authentic_safe.Goals as goal

pub returns-in_err-check_authentic-clause-answer : goal.returns-in_err-check_authentic-clause-answer
returns-in_err-check_authentic-clause-answer c =
    inr (not_passed (authentic_checks c.args.self.now c.args.m.now) _ c.check_authentic.result _ c.from_residual.result c.check_authentic.ensures c.in_err-check_authentic.was c.from_residual.ensures.1)

pub returns-in_err-check_authentic-clause-memory : goal.returns-in_err-check_authentic-clause-memory
returns-in_err-check_authentic-clause-memory c =
    refused_otherwise (authentic_checks c.args.self.now c.args.m.now) c.check_authentic.result _ c.from_residual.result c.check_authentic.ensures (authentic_others c.args.self.now c.args.m.now)
    c.in_err-check_authentic.was c.from_residual.ensures.1

pub returns-in-Ok-clause-answer : goal.returns-in-Ok-clause-answer
returns-in-Ok-clause-answer c =
    inr (all_passed_for (authentic_checks c.args.self.now c.args.m.now) (GivesBody c.args.m.now.body) c.check_authentic.result _ (Ok c.in-Ok.body) c.check_authentic.ensures c.in_ok-check_authentic.was
    (ap Ok (c.in-Ok.ensures ∙ c.body.ensures)))
