use Rattle.krb_der.specs.declared.message.Message.TheVariants as messages
use Rattle.std.proofs.Common.{subst}
use Rattle.krb_der.specs.declared.message.MessageRef.{MessageRef}
use Rattle.krb_der.specs.MessageRef.{owned}
use Rattle.krb_der.specs.Message.{Spells}
use Rattle.krb_seal.specs.Unseals.{untold}
use Rattle.krb_seal.proofs.Checking.{frame_opened}
use Rattle.krb_seal.proofs.Numbers.{frame_told}
use Rattle.krb_seal.proofs.opening.Opening.unseal.Goals as goal

pub returns-in-Ok-Safe-clause-answer : goal.returns-in-Ok-Safe-clause-answer
returns-in-Ok-Safe-clause-answer c =
    frame_opened c.args.self.now c.args.number c.args.now c.micros-now.result c.args.frame.now (messages.Safe c.in-Ok-Safe.m) (untold c.open_safe.result) c.micros-now.ensures.value (subst (λ (z : MessageRef). Spells (owned z) c.args.frame.now) c.in-Ok-Safe.field-0-is c.in-Ok-Safe.ensures) c.open_safe.ensures.answer

pub returns-in-Ok-Priv-clause-answer : goal.returns-in-Ok-Priv-clause-answer
returns-in-Ok-Priv-clause-answer c =
    frame_opened c.args.self.now c.args.number c.args.now c.micros-now.result c.args.frame.now (messages.Priv c.in-Ok-Priv.m) (untold c.open_priv.result) c.micros-now.ensures.value (subst (λ (z : MessageRef). Spells (owned z) c.args.frame.now) c.in-Ok-Priv.field-0-is c.in-Ok-Priv.ensures) c.open_priv.ensures.answer

pub returns-in-Ok-Safe-clause-number : goal.returns-in-Ok-Safe-clause-number
returns-in-Ok-Safe-clause-number c =
    frame_told c.args.self.now c.args.now c.micros-now.result c.args.frame.now (messages.Safe c.in-Ok-Safe.m) c.open_safe.result c.micros-now.ensures.value (subst (λ (z : MessageRef). Spells (owned z) c.args.frame.now) c.in-Ok-Safe.field-0-is c.in-Ok-Safe.ensures) c.open_safe.ensures.number

pub returns-in-Ok-Priv-clause-number : goal.returns-in-Ok-Priv-clause-number
returns-in-Ok-Priv-clause-number c =
    frame_told c.args.self.now c.args.now c.micros-now.result c.args.frame.now (messages.Priv c.in-Ok-Priv.m) c.open_priv.result c.micros-now.ensures.value (subst (λ (z : MessageRef). Spells (owned z) c.args.frame.now) c.in-Ok-Priv.field-0-is c.in-Ok-Priv.ensures) c.open_priv.ensures.number
