use Rattle.toml.specs.View.{view}
use Rattle.krb_job.specs.Lists.{plan_of}
use Rattle.krb_job.proofs.FailLemmas.{err_some}
use Rattle.krb_job.proofs.table.plan.Goals as goal

pub returns-in_err-read_plan-in-Some : goal.returns-in_err-read_plan-in-Some
returns-in_err-read_plan-in-Some c =
    rw (c.if-allowed.true, ← c.in-Some.ensures) (err_some _ c.from_residual.result c.in_err-read_plan-in-Some.field-0.0 plan_of (view c.in-Some.value.now) c.args.place c.from_residual.ensures c.in_err-read_plan-in-Some.ensures)
