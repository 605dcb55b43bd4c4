use Rattle.std.proofs.Common.{ℕ, ℤ, sym, subst, length}
use mir.Syntax.{w32}
use Rattle.std.proofs.lemmas.Int.{to_z-of_z}
use Rattle.krb_structs.specs.Fault.{fault_code}
use Rattle.krb_structs.specs.Reasons.{ResumeAnswer}
use Rattle.krb_c.proofs.peer_calls.krbrelay_peer_resume.Goals as goal

pub returns-in-Ok-clause-answer : goal.returns-in-Ok-clause-answer
returns-in-Ok-clause-answer c =
    subst (λ (e : ℤ). ResumeAnswer e (length c.args.key.now) c.args.told.now c.args.demand.now c.args.state.now 0) (to_z-of_z w32 c.args.etype c.ranges.etype) c.in-Ok.ensures.answer

pub returns-in-Err-clause-answer : goal.returns-in-Err-clause-answer
returns-in-Err-clause-answer c =
    let n = length c.args.key.now in
    let same = subst (λ (e : ℤ). ResumeAnswer e n c.args.told.now c.args.demand.now c.args.state.now (fault_code c.in-Err.fault)) (to_z-of_z w32 c.args.etype c.ranges.etype) c.in-Err.ensures.answer in
    subst (λ (k : ℕ). ResumeAnswer c.args.etype n c.args.told.now c.args.demand.now c.args.state.now k) (sym c.code.ensures.value) same
