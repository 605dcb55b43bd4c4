use Rattle.std.proofs.Common.{◌≡◌, inr, subst}
use Rattle.krb_seal.specs.Opens.{OpenerState, priv_header}
use Rattle.krb_seal.specs.Unseals.{first_unmet, refusal_of}
use Rattle.krb_seal.proofs.Checking.{not_passed}
use Rattle.krb_seal.proofs.opening.Opening.authentic_priv.Goals as goal

pub returns-in_err-check_priv_header-clause-answer : goal.returns-in_err-check_priv_header-clause-answer
returns-in_err-check_priv_header-clause-answer c =
    let o = c.args.self.now in
    let h = subst (λ (z : OpenerState). first_unmet (priv_header z.etype z.expect c.args.m.now) ≡ refusal_of c.check_priv_header.result) c.self.view_is c.check_priv_header.ensures in
    inr (not_passed (priv_header o.etype o.expect c.args.m.now) _ c.check_priv_header.result _ c.from_residual.result h c.in_err-check_priv_header.was c.from_residual.ensures.1)
