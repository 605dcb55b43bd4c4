use Rattle.std.proofs.Common.{Ok, subst, sym}
use Rattle.krb_der.specs.declared.message.Message.{Message}
use Rattle.krb_der.specs.Message.{Spells, Decodes}
use Rattle.krb_der.specs.MessageRef.{owned}
use Rattle.krb_der.proofs.Grammar.{copied, message_decided, refused_alike}
use Rattle.krb_der.proofs.message.decode.Goals as goal

pub returns-in_err-found : goal.returns-in_err-found
returns-in_err-found c =
    let d = refused_alike c.args.bytes.now _ c.from_residual.result c.in_err-found.ensures c.from_residual.ensures.1 in
    record { answer = d; only = message_decided c.args.bytes.now c.from_residual.result d }

pub returns-in_err-to_owned : goal.returns-in_err-to_owned
returns-in_err-to_owned c =
    let d = copied c.args.bytes.now (owned c.in_ok-found.found) c.from_residual-in_err-to_owned.result c.in_ok-found.ensures c.from_residual-in_err-to_owned.ensures.1 in
    record { answer = d; only = message_decided c.args.bytes.now c.from_residual-in_err-to_owned.result d }

pub returns : goal.returns
returns c =
    let d : Decodes Spells (Ok c.in_ok-to_owned.field-0) c.args.bytes.now =
    subst (λ (m : Message). Spells m c.args.bytes.now) (sym c.in_ok-to_owned.ensures) c.in_ok-found.ensures in
    record { answer = d; only = message_decided c.args.bytes.now (Ok c.in_ok-to_owned.field-0) d }
