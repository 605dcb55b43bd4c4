use Rattle.std.proofs.Common.{Option, Some, sym, ap, ◌∙◌, subst, length, take}
use Rattle.krb_peers.specs.ReceiverState.{ReceiverState}
use Rattle.krb_structs.specs.Moment.{micros_of}
use Rattle.krb_structs.specs.Fault.{fault_code}
use Rattle.krb_structs.specs.Reasons.{TakeAnswer}
use Rattle.krb_structs.specs.Record.{Accepts}
use Rattle.krb_c.specs.Exports.{AcceptsTo}
use Rattle.krb_c.proofs.receiver_calls.krbrelay_receiver_take_numbered.Goals as goal

pub returns-in-Ok-clause-accepted : goal.returns-in-Ok-clause-accepted
returns-in-Ok-clause-accepted c = λ _.
    let now = micros_of c.args.at.now in let frame = c.args.frame.now in
    let kind = c.in-Ok.found in let body = take c.in-Ok.written c.take_numbered-taken.new.out in
    let new = c.take_numbered-taken.new.self in
    let held = subst (λ (s : ReceiverState). Accepts s now frame kind body new) c.deref_mut.ensures.value c.in-Ok.ensures.accepted in
    subst (λ (n : Option ReceiverState). AcceptsTo c.args.handle.now.receiver now frame kind body n) (sym c.put.ensures)
    (subst (λ (s : Option ReceiverState). AcceptsTo s now frame kind body (Some new)) (sym c.in-Some.ensures.taken) held)

pub returns-in-Ok-clause-answer : goal.returns-in-Ok-clause-answer
returns-in-Ok-clause-answer c =
    let at = c.args.at.now in let frame = c.args.frame.now in let room = length c.args.out.now in
    let held = subst (λ (s : ReceiverState). TakeAnswer (Some s) at frame room 0) c.deref_mut.ensures.value c.in-Ok.ensures.answer in
    subst (λ (s : Option ReceiverState). TakeAnswer s at frame room 0) (sym c.in-Some.ensures.taken) held

pub returns-in-Err-clause-number_kept : goal.returns-in-Err-clause-number_kept
returns-in-Err-clause-number_kept c = λ failed other. c.in-Err.ensures.untold (λ e. other (c.code-in-Err.ensures.value ∙ ap fault_code e))
