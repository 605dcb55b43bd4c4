use Rattle.std.proofs.Common.{sym, ap, ◌∙◌}
use Rattle.krb_tlv.specs.Integer.{width}
use Rattle.krb_tlv.proofs.Writers.{size-integer}
use Rattle.krb_tlv.proofs.integer.Signed.size.Goals as goal

pub returns-clause-value : goal.returns-clause-value
returns-clause-value c =
    let n = c.args.self.now in
    let e = c.width_of.ensures.value ∙ ap width c.from.ensures in
    sym (size-integer n.negative n.n c.width_of.result e c.width_of.ensures.bound)
