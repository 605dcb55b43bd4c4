use Rattle.std.proofs.Common.{ap, subst, ◌∙◌, ◌++◌}
use Rattle.krb_etype.specs.Etype.{number_of}
use Rattle.krb_seal.specs.Opens.{OpenerState, body_checks, safe_header}
use Rattle.krb_seal.specs.Unseals.{Checked, refusal_of}
use Rattle.krb_seal.proofs.Checking.{refused, checked_later}
use Rattle.krb_seal.proofs.opening.Opening.check_fields.Goals as goal

pub returns-in_err-check_safe_header : goal.returns-in_err-check_safe_header
returns-in_err-check_safe_header c =
    let m = c.args.m.now in
    subst (λ (z : OpenerState). Checked (safe_header z.etype z.expect m ++ body_checks z.expect c.args.number c.args.now m.body) c.from_residual.result) c.self.view_is
    (refused (safe_header (number_of c.self.inside.etype) c.self.inside.expect.now m) _ c.check_safe_header.result _ c.from_residual.result c.check_safe_header.ensures c.in_err-check_safe_header.was c.from_residual.ensures.1)

pub returns : goal.returns
returns c =
    let x = c.self.inside.expect.now in let m = c.args.m.now in
    subst (λ (z : OpenerState). Checked (safe_header z.etype z.expect m ++ body_checks z.expect c.args.number c.args.now m.body) c.check_body.result) c.self.view_is
    (checked_later (safe_header (number_of c.self.inside.etype) x m) (body_checks x c.args.number c.args.now m.body) c.check_body.result (c.check_safe_header.ensures ∙ ap refusal_of c.in_ok-check_safe_header.was) (rw c.body.ensures at c.check_body.ensures))
