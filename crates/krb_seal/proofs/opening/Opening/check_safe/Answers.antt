use Rattle.std.proofs.Common.{◌++◌, Result, Err, ap, refl, ◌∙◌}
use Rattle.krb_seal.specs.declared.refusal.Refusal.{Refusal}
use Rattle.krb_seal.specs.Opens.{body_checks, safe_checks, safe_header}
use Rattle.krb_seal.specs.OpensParts.{Checks, checksum_checks}
use Rattle.krb_seal.specs.Unseals.{Checked, refusal_of}
use Rattle.krb_seal.proofs.Checking.{checked_later, checked_untold, refused}
use Rattle.krb_seal.proofs.Numbers.{safe_tells}
use Rattle.krb_seal.proofs.opening.Opening.check_safe.Goals as goal

pub returns-in-Err-clause-checked : goal.returns-in-Err-clause-checked
returns-in-Err-clause-checked c =
    let o = c.args.self.now in let m = c.args.m.now in
    let fields : Checks = safe_header o.etype o.expect m ++ body_checks o.expect c.args.number c.args.now m.body in
    let failed : Result Unit Refusal = Err c.in-Err.refusal in
    refused fields (checksum_checks o.key m) c.check_fields.result c.in-Err.refusal failed c.check_fields.ensures c.in-Err.is refl

pub returns-in-Err-clause-number : goal.returns-in-Err-clause-number
returns-in-Err-clause-number c =
    let o = c.args.self.now in let m = c.args.m.now in
    let fields : Checks = safe_header o.etype o.expect m ++ body_checks o.expect c.args.number c.args.now m.body in
    let failed : Result Unit Refusal = Err c.in-Err.refusal in
    let all : Checked (safe_checks o c.args.number c.args.now m) failed = refused fields (checksum_checks o.key m) c.check_fields.result c.in-Err.refusal failed c.check_fields.ensures c.in-Err.is refl in
    safe_tells o c.args.number c.args.now m failed (record { refusal = c.in-Err.refusal; number = c.number_of-number.result }) all refl c.number_of-number.ensures.order

pub returns-in_err-check_checksum-clause-checked : goal.returns-in_err-check_checksum-clause-checked
returns-in_err-check_checksum-clause-checked c =
    let o = c.args.self.now in let m = c.args.m.now in
    let fields : Checks = safe_header o.etype o.expect m ++ body_checks o.expect c.args.number c.args.now m.body in
    let all : Checked (safe_checks o c.args.number c.args.now m) c.check_checksum.result = checked_later fields (checksum_checks o.key m) c.check_checksum.result (c.check_fields.ensures ∙ ap refusal_of c.in_default.is) c.check_checksum.ensures in
    checked_untold (safe_checks o c.args.number c.args.now m) c.check_checksum.result _ c.from_residual.result all c.in_err-check_checksum.was c.from_residual.ensures.1

pub returns-clause-checked : goal.returns-clause-checked
returns-clause-checked c =
    let o = c.args.self.now in let m = c.args.m.now in
    let fields : Checks = safe_header o.etype o.expect m ++ body_checks o.expect c.args.number c.args.now m.body in
    let all : Checked (safe_checks o c.args.number c.args.now m) c.check_checksum.result = checked_later fields (checksum_checks o.key m) c.check_checksum.result (c.check_fields.ensures ∙ ap refusal_of c.in_default.is) c.check_checksum.ensures in
    all ∙ ap refusal_of c.in_ok-check_checksum.was
