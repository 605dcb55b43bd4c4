use Rattle.krb_der.specs.declared.message.Message.TheVariants as messages
use Rattle.std.proofs.Common.{subst}
use Rattle.krb_der.specs.declared.message.MessageRef.{MessageRef}
use Rattle.krb_der.specs.MessageRef.{owned}
use Rattle.krb_der.specs.Message.{Spells}
use Rattle.krb_seal.specs.Authentic.{AuthenticMessage}
use Rattle.krb_seal.proofs.Checking.{frame_passed}
use Rattle.krb_seal.proofs.opening.Opening.authenticate.Goals as goal

pub returns-in-Ok-Safe-clause-answer : goal.returns-in-Ok-Safe-clause-answer
returns-in-Ok-Safe-clause-answer c =
    frame_passed (AuthenticMessage c.args.self.now) c.args.frame.now (messages.Safe c.in-Ok-Safe.m) c.authentic_safe.result (subst (λ (z : MessageRef). Spells (owned z) c.args.frame.now) c.in-Ok-Safe.field-0-is c.in-Ok-Safe.ensures) c.authentic_safe.ensures.answer
