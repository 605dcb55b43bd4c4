use Rattle.std.proofs.Common.{◌≡◌, ℕ, Option, Some, Err, sym, ap, refl, subst, ◌∙◌, length}
use Rattle.krb_seal.specs.Opens.{OpenerState}
use Rattle.krb_structs.specs.declared.fault.Fault.TheVariants.{Refused}
use Rattle.krb_seal.specs.declared.refusal.Refusal.TheVariants.{BadOrder}
use Rattle.krb_structs.specs.Fault.{fault_code}
use Rattle.krb_structs.specs.Moment.{micros_of}
use Rattle.krb_structs.specs.Opening.{Misorders, MisordersTo}
use Rattle.krb_structs.specs.Reasons.{DemandAnswer}
use Rattle.krb_structs.proofs.Answering.{answer_is, demand_refused, timed}
use Rattle.krb_structs.proofs.Refusals.{is_order}
use Rattle.krb_structs.proofs.opening.open_telling.Goals as goal

pub returns-in_err-body-clause-answer : goal.returns-in_err-body-clause-answer
returns-in_err-body-clause-answer c =
    let d = c.args.demand.now in let frame = c.args.frame.now in let room = length c.args.out.now in
    let opener = c.in_ok-opener.opener.now in let r = c.in_err-body.field-0.0 in
    let now_is = c.micros-now.ensures.value ∙ c.in_ok-moment.ensures.value in
    let is = answer_is c.from_residual-in_err-body.result (Refused r) c.from_residual-in_err-body.ensures.1 in
    subst (λ (code : ℕ). DemandAnswer (Some c.args.opener.now) d c.args.at.now frame room code) (sym is)
    (subst (λ (o : Option OpenerState). DemandAnswer (Some o) d c.args.at.now frame room (fault_code (Refused r))) (sym c.in_ok-opener.ensures.live)
    (demand_refused opener d c.micros-now.result c.args.at.now frame room r (c.if-not-is_demand.ensures.0 refl) (timed c.args.at.now c.in_ok-moment.ensures.answer) now_is c.in_err-body.ensures.answer
    (λ e. c.in_err-body.ensures.memory (ap Err e))))

pub returns-in_err-body-clause-misordered : goal.returns-in_err-body-clause-misordered
returns-in_err-body-clause-misordered c = λ is.
    let d = c.args.demand.now in let frame = c.args.frame.now in let told = c.open_body.new.told in
    let opener = c.in_ok-opener.opener.now in let r = c.in_err-body.field-0.0 in
    let now_is = c.micros-now.ensures.value ∙ c.in_ok-moment.ensures.value in
    let code = answer_is c.from_residual-in_err-body.result (Refused r) c.from_residual-in_err-body.ensures.1 in
    let order : r ≡ BadOrder = is_order r (sym code ∙ is) in
    let misorders = subst (λ (m : ℕ). Misorders opener d m frame told) now_is (c.in_err-body.ensures.misordered (ap Err order)) in
    subst (λ (o : Option OpenerState). MisordersTo (Some o) d (micros_of c.args.at.now) frame told) (sym c.in_ok-opener.ensures.live) misorders
