use Rattle.std.proofs.Common.{ℕ, subst}
use Rattle.krb_der.specs.declared.message.Message.TheVariants as messages
use Rattle.krb_seal.specs.declared.coded.Covered.{Covered}
use Rattle.krb_seal.specs.Covered.{CoversFrame}
use Rattle.krb_seal.specs.Memory.{AreMet}
use Rattle.krb_seal.specs.Opens.{safe_checks}
use Rattle.krb_seal.specs.Unseals.{untold}
use Rattle.krb_seal.proofs.Checking.{frame_opened}
use Rattle.krb_seal.proofs.Numbers.{frame_told, message_told}
use Rattle.krb_seal.proofs.opening.Opening.unseal_coded.Goals as goal

pub returns-in-Safe-clause-answer : goal.returns-in-Safe-clause-answer
returns-in-Safe-clause-answer c =
    let o = c.args.self.now in let frame = c.args.frame.now in
    let read = subst (λ (z : Covered). CoversFrame o frame z) c.in-Safe.is c.requires.coded.0 in
    frame_opened o c.args.number c.args.now c.micros-now.result frame (messages.Safe c.in-Safe.message) (untold c.open_safe.result) c.micros-now.ensures.value read.0 c.open_safe.ensures.answer

pub returns-in-Safe-clause-number : goal.returns-in-Safe-clause-number
returns-in-Safe-clause-number c =
    let o = c.args.self.now in let frame = c.args.frame.now in
    let read = subst (λ (z : Covered). CoversFrame o frame z) c.in-Safe.is c.requires.coded.0 in
    frame_told o c.args.now c.micros-now.result frame (messages.Safe c.in-Safe.message) c.open_safe.result c.micros-now.ensures.value read.0 c.open_safe.ensures.number

pub returns-in-Safe-clause-memory : goal.returns-in-Safe-clause-memory
returns-in-Safe-clause-memory c e =
    let o = c.args.self.now in let frame = c.args.frame.now in let m = c.in-Safe.message in
    let read = subst (λ (z : Covered). CoversFrame o frame z) c.in-Safe.is c.requires.coded.0 in
    (messages.Safe m, read.0, subst (λ (z : ℕ). AreMet (safe_checks o c.args.number z m)) c.micros-now.ensures.value (c.open_safe.ensures.memory e))

pub returns-in-Priv-clause-number : goal.returns-in-Priv-clause-number
returns-in-Priv-clause-number c =
    let o = c.args.self.now in let frame = c.args.frame.now in let m = c.in-Priv._message in
    let read = subst (λ (z : Covered). CoversFrame o frame z) c.in-Priv.is c.requires.coded.0 in
    frame_told o c.args.now c.micros-now.result frame (messages.Priv m) c.open_text.result c.micros-now.ensures.value read.0
    (message_told o c.micros-now.result m c.in-Priv.text c.in-Priv.tag c.open_text.result read.2 read.3 c.open_text.ensures.number)

pub returns-in-Priv-clause-memory : goal.returns-in-Priv-clause-memory
returns-in-Priv-clause-memory c e =
    let o = c.args.self.now in
    let read = subst (λ (z : Covered). CoversFrame o c.args.frame.now z) c.in-Priv.is c.requires.coded.0 in
    (messages.Priv c.in-Priv._message, read.0, read.2)
