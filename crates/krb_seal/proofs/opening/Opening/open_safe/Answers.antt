use Rattle.std.proofs.Common.{◌≡◌, Ok, ap, inr, ◌∙◌}
use Rattle.krb_seal.specs.Opens.{safe_checks}
use Rattle.krb_seal.specs.Unseals.{untold}
use Rattle.krb_seal.proofs.Checking.{all_passed_for, not_passed, refused_otherwise, safe_others, untold_err}
use Rattle.krb_seal.proofs.opening.Opening.open_safe.Goals as goal

pub returns-in_err-check_safe-clause-answer : goal.returns-in_err-check_safe-clause-answer
returns-in_err-check_safe-clause-answer c =
    let o = c.args.self.now in let m = c.args.m.now in
    inr (not_passed (safe_checks o c.args.number c.args.now m) (λ y. y ≡ Ok m.body.user_data) (untold c.check_safe.result) _ (untold c.from_residual.result)
    c.check_safe.ensures.checked (ap untold c.in_err-check_safe.was) (untold_err c.from_residual.result _ c.from_residual.ensures.1))

pub returns-in_err-check_safe-clause-memory : goal.returns-in_err-check_safe-clause-memory
returns-in_err-check_safe-clause-memory c =
    let o = c.args.self.now in let m = c.args.m.now in
    refused_otherwise (safe_checks o c.args.number c.args.now m) (untold c.check_safe.result) _ (untold c.from_residual.result)
    c.check_safe.ensures.checked (safe_others o c.args.number c.args.now m) (ap untold c.in_err-check_safe.was) (untold_err c.from_residual.result _ c.from_residual.ensures.1)

pub returns-in-Ok-clause-answer : goal.returns-in-Ok-clause-answer
returns-in-Ok-clause-answer c =
    let o = c.args.self.now in let m = c.args.m.now in
    inr (all_passed_for (safe_checks o c.args.number c.args.now m) (λ y. y ≡ Ok m.body.user_data) (untold c.check_safe.result) _ (Ok c.new.result)
    c.check_safe.ensures.checked (ap untold c.in_ok-check_safe.was) (ap Ok (c.new.ensures ∙ c.in-Ok.ensures.items ∙ c.user_data.ensures ∙ ap (λ z. z.user_data) c.body.ensures)))
