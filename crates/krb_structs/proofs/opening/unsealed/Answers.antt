use Rattle.std.proofs.Common.{Option, Some, sym, ap, subst, Err}
use Rattle.krb_seal.specs.Opens.{OpenerState}
use Rattle.krb_structs.specs.declared.fault.Fault.TheVariants.{Refused}
use Rattle.krb_structs.specs.Fault.{fault_code}
use Rattle.krb_structs.specs.Reasons.{OpenAnswer}
use Rattle.krb_structs.proofs.Answering.{open_refused, timed}
use Rattle.krb_structs.proofs.opening.unsealed.Goals as goal

pub returns-in-Err-clause-fails : goal.returns-in-Err-clause-fails
returns-in-Err-clause-fails c = λ room.
    let number = c.args.number in let frame = c.args.frame.now in
    let opener = c.in_ok-opener.opener.now in let r = c.in-Err.unopened.refusal in
    subst (λ (o : Option OpenerState). OpenAnswer (Some o) number c.args.at.now frame room (fault_code (Refused r))) (sym c.in_ok-opener.ensures.live)
    (open_refused opener number c.in_ok-now.now c.args.at.now frame r (timed c.args.at.now c.in_ok-now.ensures.answer) c.in_ok-now.ensures.value c.in-Err.ensures.answer (λ e. c.in-Err.ensures.memory (ap Err e)) room)
