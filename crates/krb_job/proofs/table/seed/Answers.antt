use Rattle.std.proofs.Common.{None}
use Rattle.toml.specs.View.{table_view}
use Rattle.krb_job.specs.Values.{seed_of}
use Rattle.krb_job.specs.Keys.{some}
use Rattle.krb_job.proofs.FailLemmas.{err_if_allowed}
use Rattle.krb_job.proofs.table.seed.Goals as goal

pub returns-in_err-value-clause-value : goal.returns-in_err-value-clause-value
returns-in_err-value-clause-value c = err_if_allowed None c.args.place (some seed_of) _ c.from_residual.result c.in_err-value.field-0.0 c.args.allowed (table_view c.args.table.now) c.from_residual.ensures c.in_err-value.ensures.value
