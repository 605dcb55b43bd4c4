use Rattle.krb_seal.specs.declared.refusal.Refusal.TheVariants.{Modified}
use Rattle.krb_seal.specs.Seals.{safe_checksum}
use Rattle.krb_seal.proofs.Checking.{code_refused, code_passed}
use Rattle.krb_seal.proofs.opening.Opening.check_checksum.Goals as goal

pub returns-then-not-has_checksum : goal.returns-then-not-has_checksum
returns-then-not-has_checksum c =
    let m = c.args.m.now in
    code_refused m.checksum (safe_checksum c.args.self.now.key m) c.checksum-checksum.result c.has_checksum.result Modified
    c.has_checksum.ensures c.if-not-has_checksum.true c.checksum-checksum.ensures

pub returns : goal.returns
returns c =
    let m = c.args.m.now in
    code_passed m.checksum (safe_checksum c.args.self.now.key m) c.checksum-checksum.result c.has_checksum.result Modified
    c.has_checksum.ensures c.if-not-has_checksum.false c.checksum-checksum.ensures
