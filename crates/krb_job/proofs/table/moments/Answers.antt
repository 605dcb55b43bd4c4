use Rattle.toml.specs.View.{view, table_view}
use Rattle.krb_job.specs.Lists.{moments_of}
use Rattle.krb_job.proofs.FailLemmas.{err_needed, of_needed}
use Rattle.krb_job.proofs.table.moments.Goals as goal

pub returns-in_err-needed : goal.returns-in_err-needed
returns-in_err-needed c = err_needed (λ v. v.items) c.from_residual.result moments_of c.args.place c.in_err-needed.field-0.0 (table_view c.args.table.now) c.from_residual.ensures c.in_err-needed.ensures

pub returns : goal.returns
returns c = of_needed (λ v. v.items) c.read_moments.result moments_of c.args.place (table_view c.args.table.now) (view c.in_ok-needed.field-0.now) c.in_ok-needed.ensures c.read_moments.ensures
