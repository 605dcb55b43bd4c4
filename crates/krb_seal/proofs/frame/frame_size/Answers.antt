use Rattle.std.proofs.Common.{sym, subst}
use Rattle.krb_der.specs.declared.safe.SafeMsg.{SafeMsg}
use Rattle.krb_seal.specs.declared.session.Mode.{Mode}
use Rattle.krb_seal.specs.declared.session.Mode.TheVariants.{Safe}
use Rattle.krb_etype.specs.Etype.{number_of}
use Rattle.krb_seal.specs.Body.{HasSizeOf}
use Rattle.krb_seal.proofs.frame.frame_size.Goals as goal

pub returns-in-Safe : goal.returns-in-Safe
returns-in-Safe c =
    let made : HasSizeOf Safe (number_of c.args.etype) c.args.body c.args.len c.safe_frame_size.result =
    subst (λ (m : SafeMsg). HasSizeOf Safe (number_of c.args.etype) m.body c.args.len c.safe_frame_size.result) c.unsigned.ensures c.safe_frame_size.ensures in
    subst (λ (mode : Mode). HasSizeOf mode (number_of c.args.etype) c.args.body c.args.len c.safe_frame_size.result) (sym c.in-Safe.is) made

pub returns-in-Priv : goal.returns-in-Priv
returns-in-Priv c =
    subst (λ (mode : Mode). HasSizeOf mode (number_of c.args.etype) c.args.body c.args.len c.priv_frame_size.result) (sym c.in-Priv.is) c.priv_frame_size.ensures
