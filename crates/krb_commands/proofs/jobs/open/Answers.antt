use Rattle.krb_commands.proofs.ParsedLemmas.{opened_parsed}
use Rattle.krb_commands.proofs.jobs.open.Goals as goal

pub returns-clause-prefix : goal.returns-clause-prefix
returns-clause-prefix g c = λ parsed is.
    opened_parsed parsed c.in_ok-sender.sender c.as_slice.result.now c.open_job.result _ _ (c.in_ok-sender.ensures.parsed parsed is) c.as_slice.ensures.value
    (rw (c.in_ok-receiving.ensures.receiver, c.in_ok-receiving.ensures.nows) at c.open_job.ensures.prefix)
