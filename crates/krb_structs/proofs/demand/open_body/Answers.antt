use Rattle.std.proofs.Common.{Err, refl, ap, ◌∙◌, ◌≡◌}
use Rattle.krb_seal.specs.declared.refusal.Refusal.TheVariants.{BadOrder}
use Rattle.krb_structs.proofs.DemandLemmas.{demand_unmet, demand_met, misorders, same_fault}
use Rattle.krb_structs.proofs.demand.open_body.Goals as goal

pub returns-in-Ok-clause-answer : goal.returns-in-Ok-clause-answer
returns-in-Ok-clause-answer c =
    demand_met c.args.opener.now c.args.demand.now c.args.now c.args.frame.now c.authenticate.result c.in_ok-body.body c.check_demand.result c.in-Ok.field-0
    c.authenticate.ensures.answer c.in_ok-body.was c.check_demand.ensures.checks c.in-Ok.is

pub returns-in-Err-clause-answer : goal.returns-in-Err-clause-answer
returns-in-Err-clause-answer c =
    demand_unmet c.args.opener.now c.args.demand.now c.args.now c.args.frame.now c.authenticate.result c.in_ok-body.body c.check_demand.result c.in-Err.refusal (Err c.in-Err.refusal)
    c.authenticate.ensures.answer c.in_ok-body.was c.check_demand.ensures.checks c.in-Err.is refl

pub returns-in-Err-clause-misordered : goal.returns-in-Err-clause-misordered
returns-in-Err-clause-misordered c = λ e.
    let same : c.in-Err.refusal ≡ BadOrder = same_fault c.in-Err.refusal BadOrder e in
    misorders c.args.opener.now c.args.demand.now c.args.now c.args.frame.now c.authenticate.result c.in_ok-body.body c.check_demand.result _
    c.authenticate.ensures.answer c.in_ok-body.was c.check_demand.ensures.checks (c.in-Err.is ∙ ap Err same) (c.tell_misordered.ensures.told same)
