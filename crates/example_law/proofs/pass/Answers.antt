-- By the law that was cited.
use Rattle.example_law.proofs.Passing.{passes}
use Rattle.example_law.proofs.pass.Goals as goal

pub returns-clause-text : goal.returns-clause-text
returns-clause-text g c =
    (passes c.args.opener.now (g.S.Sealer.state c.args.sealer.now) c.args.text.now c.args.number c.args.at c.args.at _ c.in_ok-frame.frame.items c.deref.result.now c.in_ok-unseal.field-0.items
    c.opens_at_its_number_alone.ensures.nothing_else c.requires.etype c.requires.key c.in_ok-frame.ensures.sealed c.deref.ensures.value c.in_ok-unseal.ensures.answer).1

pub returns-clause-number : goal.returns-clause-number
returns-clause-number g c =
    (passes c.args.opener.now (g.S.Sealer.state c.args.sealer.now) c.args.text.now c.args.number c.args.at c.args.at _ c.in_ok-frame.frame.items c.deref.result.now c.in_ok-unseal.field-0.items
    c.opens_at_its_number_alone.ensures.nothing_else c.requires.etype c.requires.key c.in_ok-frame.ensures.sealed c.deref.ensures.value c.in_ok-unseal.ensures.answer).0
