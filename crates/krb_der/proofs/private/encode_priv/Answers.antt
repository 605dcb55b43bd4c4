use Rattle.std.proofs.Common.{◌≡◌, refl, ap, arith, length}
use Rattle.krb_der.specs.declared.error.DerError.TheVariants.{TooLong}
use Rattle.krb_der.specs.declared.message.Message.TheVariants.{Priv}
use Rattle.krb_der.specs.Message.{Spells, message}
use Rattle.krb_der.proofs.Lengths.{memory_only}
use Rattle.krb_der.proofs.Drafts.{private_spelt, private_too_long, within_limit}
use Rattle.krb_der.proofs.private.encode_priv.Goals as goal

pub returns-in_err-size : goal.returns-in_err-size
returns-in_err-size c =
    let is : c.in_err-size.field-0.0 ≡ TooLong = cc c.in_err-size.ensures.err in
    private_too_long c.args.m.now _ c.from_residual.result _ (ap length c.as_slice.ensures) c.from_residual.ensures.1 is c.in_err-size.ensures.too_long

pub returns-in_err-spelling : goal.returns-in_err-spelling
returns-in_err-spelling c =
    memory_only Spells message (Priv c.args.m.now) c.from_residual-in_err-spelling.result c.from_residual-in_err-spelling.ensures.1
    (within_limit c.args.m.now (length c.as_slice.result.now) _ (ap length c.as_slice.ensures) (omega (arith, c.in_ok-size.ensures)) c.args.m.now.cipher refl)

pub returns : goal.returns
returns c =
    private_spelt c.args.m.now (length c.as_slice.result.now) _ (ap length c.as_slice.ensures) c.known.ensures (omega (arith, c.in_ok-size.ensures)) c.in_ok-spelling.ensures
