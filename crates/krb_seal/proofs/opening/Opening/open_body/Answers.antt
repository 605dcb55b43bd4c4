use Rattle.std.proofs.Common.{◌≡◌, Ok, Err, subst}
use Rattle.krb_seal.specs.Opens.{OpenerState, body_checks}
use Rattle.krb_seal.specs.Unseals.{first_unmet, refusal_of}
use Rattle.krb_seal.proofs.Checking.{not_passed}
use Rattle.krb_seal.proofs.opening.Opening.open_body.Goals as goal

pub returns-clause-answer : goal.returns-clause-answer
returns-clause-answer c =
    let b = c.args.body in let o = c.args.self.now in
    let h = subst (λ (z : OpenerState). first_unmet (body_checks z.expect c.args.number c.args.now b) ≡ refusal_of c.check_body-checked.result) c.self.view_is (rw c.borrowed.ensures at c.check_body-checked.ensures) in
    not_passed (body_checks o.expect c.args.number c.args.now b) (λ y. y ≡ Ok b.user_data) c.check_body-checked.result c.in-Err.refusal (Err c.new.result.refusal) h c.in-Err.is c.new.ensures.refusal
