use Rattle.toml.specs.View.{table_view}
use Rattle.krb_job.specs.Job.{job_of, job_view}
use Rattle.std.proofs.Common.{◌≡◌, length}
use Rattle.krb_job.proofs.JobLimits.{of_checks, one_read}
use Rattle.krb_job.proofs.read.read_job.Goals as goal

pub returns-clause-one : goal.returns-clause-one
returns-clause-one c one =
    let members = table_view c.in_ok-table.table in
    of_checks job_view _ (job_of c.args.command members) (λ job. length job.senders.items ≡ 1) c.read_members-job.ensures.value (λ job e. one_read c.args.command members job one e)
