use Rattle.std.proofs.Common.{[]}
use Rattle.toml.specs.View.{table_view}
use Rattle.krb_job.specs.Lists.{frames_of}
use Rattle.krb_job.proofs.FailLemmas.{err_if_allowed}
use Rattle.krb_job.proofs.table.frames.Goals as goal

pub returns-in_err-value : goal.returns-in_err-value
returns-in_err-value c = err_if_allowed [] c.args.place frames_of _ c.from_residual.result c.in_err-value.field-0.0 c.args.allowed (table_view c.args.table.now) c.from_residual.ensures c.in_err-value.ensures.value
