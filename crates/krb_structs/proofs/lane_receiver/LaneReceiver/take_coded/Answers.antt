use Rattle.std.proofs.Common.{◌≡◌, ◌∙◌, ℕ, List, Some, Err, subst, sym, ap, drop, length, take, inl, inr, refl, arith}
use Rattle.std.proofs.lemmas.List.{take_rest}
use Rattle.krb_record.specs.Record.{number_of}
use Rattle.krb_peers.specs.ReceiverState.{ReceiverState}
use Rattle.krb_peers.specs.Receiver.{OpensRecord}
use Rattle.krb_structs.specs.declared.fault.Fault.TheVariants.{Refused, Room}
use Rattle.krb_structs.specs.Moment.{micros_of}
use Rattle.krb_structs.specs.Fault.{fault_code}
use Rattle.krb_structs.specs.Record.{Accepts}
use Rattle.krb_structs.specs.Reasons.{TakeAnswer}
use Rattle.krb_seal.specs.declared.refusal.Refusal.TheVariants.{BadOrder}
use Rattle.krb_structs.specs.Number.{TellsItsNumber}
use Rattle.krb_structs.proofs.Refusals.{is_order}
use Rattle.krb_structs.proofs.Answering.{answer_is, timed}
use Rattle.krb_structs.proofs.ReceiverLemmas.{accepts_of, take_answer, take_refused}
use Rattle.krb_structs.proofs.lane_receiver.LaneReceiver.take_coded.Goals as goal

pub returns-in_err-opened-clause-answer : goal.returns-in_err-opened-clause-answer
returns-in_err-opened-clause-answer c =
    let now = c.in_ok-now.now in let frame = c.args.frame.now in let r = c.in_err-opened.field-0.0 in
    let judged = c.in_err-opened.ensures.refused in
    take_refused c.args.self.now now c.args.at.now frame (length c.args.out.now) r c.from_residual-in_err-opened.result (timed c.args.at.now c.in_ok-now.ensures.answer) c.in_ok-now.ensures.value judged
    (λ e. c.in_err-opened.ensures.memory (ap Err e)) c.from_residual-in_err-opened.ensures.1

pub returns-in_err-size-clause-answer : goal.returns-in_err-size-clause-answer
returns-in_err-size-clause-answer c =
    let now = c.in_ok-now.now in let frame = c.args.frame.now in let opened = c.in_ok-opened.opened in let room = length c.args.out.now in
    let opens = c.in_ok-opened.ensures.opened in
    let short = c.in_err-size.ensures.room in
    let is = answer_is c.from_residual-in_err-size.result c.in_err-size.field-0.0 c.from_residual-in_err-size.ensures.1 ∙ ap fault_code short.0 in
    subst (TakeAnswer (Some c.args.self.now) c.args.at.now frame room) (sym is) (take_answer c.args.self.now now c.args.at.now frame room opened _ (fault_code Room) (timed c.args.at.now c.in_ok-now.ensures.answer)
    c.in_ok-now.ensures.value opens (take_rest c.as_slice.result.now 1 ∙ ap (drop 1) c.as_slice.ensures) (inl (λ fits. omega arith, refl)))

pub returns-clause-answer : goal.returns-clause-answer
returns-clause-answer c =
    let now = c.in_ok-now.now in let frame = c.args.frame.now in let opened = c.in_ok-opened.opened in
    let opens = c.in_ok-opened.ensures.opened in
    take_answer c.args.self.now now c.args.at.now frame (length c.args.out.now) opened _ 0 (timed c.args.at.now c.in_ok-now.ensures.answer)
    c.in_ok-now.ensures.value opens (take_rest c.as_slice.result.now 1 ∙ ap (drop 1) c.as_slice.ensures) (inr (c.in_ok-size.ensures.fits, refl))

pub returns-clause-accepted : goal.returns-clause-accepted
returns-clause-accepted c =
    let now = c.in_ok-now.now in let frame = c.args.frame.now in let opened = c.in_ok-opened.opened in
    let s : ReceiverState = c.self.inside.receiver in
    let o = subst (λ (z : ReceiverState). OpensRecord z now frame opened) (sym c.self.view_is) c.in_ok-opened.ensures.opened in
    let written : List ℕ = take c.in_ok-size.size c.put_within.new.out in
    let next = c.accept.new.self in
    let accepts = accepts_of s now frame opened written next o (c.in_ok-size.ensures.written ∙ take_rest c.as_slice.result.now 1 ∙ ap (drop 1) c.as_slice.ensures) (c.accept.ensures o.0 o.3) in
    rw c.number.ensures (subst (λ (z : ReceiverState). Accepts z (micros_of c.args.at.now) frame (number_of opened.kind) written next) c.self.view_is
    (subst (λ (m : ℕ). Accepts s m frame (number_of opened.kind) written next) c.in_ok-now.ensures.value accepts))

pub returns-in_err-opened-clause-misordered : goal.returns-in_err-opened-clause-misordered
returns-in_err-opened-clause-misordered c e =
    let r = c.in_err-opened.field-0.0 in
    let order : r ≡ BadOrder = is_order r (sym (answer_is c.from_residual-in_err-opened.result (Refused r) c.from_residual-in_err-opened.ensures.1) ∙ e) in
    subst (λ (m : ℕ). TellsItsNumber c.args.self.now.opener m c.args.frame.now c.open.new.number) c.in_ok-now.ensures.value (c.in_err-opened.ensures.misordered (ap Err order))
