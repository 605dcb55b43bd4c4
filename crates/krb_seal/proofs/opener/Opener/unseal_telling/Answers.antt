use Rattle.std.proofs.Common.{◌≡◌, ◌∙◌, subst, rules}
use Rattle.krb_seal.specs.Opens.{OpenerState, Opens}
use Rattle.krb_seal.specs.Unseals.{OrMemory, untold}
use Rattle.krb_seal.proofs.opener.Opener.unseal_telling.Goals as goal

pub returns-then-is_wiped-clause-answer : goal.returns-then-is_wiped-clause-answer
returns-then-is_wiped-clause-answer c =
    let same : c.new.result ≡ c.args.self.now = search rules in
    subst (λ (o : OpenerState). OrMemory (Opens o c.args.number c.args.now c.args.frame.now) (untold c.unseal-answer.result)) same c.unseal-answer.ensures.answer

pub returns-clause-answer : goal.returns-clause-answer
returns-clause-answer c =
    subst (λ (o : OpenerState). OrMemory (Opens o c.args.number c.args.now c.args.frame.now) (untold c.unseal.result))
    (c.new-2.ensures ∙ c.self.view_is) c.unseal.ensures.answer
