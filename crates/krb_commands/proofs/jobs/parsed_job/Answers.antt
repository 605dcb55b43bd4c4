use Rattle.std.proofs.Common.{rules, arith}
use Rattle.std.proofs.lemmas.Grind.{common_steps}
use Rattle.krb_commands.proofs.ParsedLemmas.{reads_parsed, job_parsed, bad_parsed}
use Rattle.krb_commands.proofs.jobs.parsed_job.Goals as goal

pub returns-in_err-read_job-clause-reading : goal.returns-in_err-read_job-clause-reading
returns-in_err-read_job-clause-reading g c = record {
  within = first_of (search rules, grind (arith, common_steps));
  too_long = first_of (search rules, grind (arith, common_steps));
  bad_input = λ parsed is bad named.
      let gives = reads_parsed c.args.command (g.R.Read.remaining c.args.reader.now) _ _ _ parsed c.read_job.result c.in_ok-input.ensures.whole c.as_slice.ensures c.read_job.ensures.document c.read_job.ensures.none is in
      bad_parsed parsed c.read_job.result c.in_err-read_job.field-0.0 c.from_residual-in_err-read_job.result bad c.in_err-read_job.was gives c.from_residual-in_err-read_job.ensures.1 named;
}

pub returns-clause-parsed : goal.returns-clause-parsed
returns-clause-parsed g c = λ parsed is.
    let gives = reads_parsed c.args.command (g.R.Read.remaining c.args.reader.now) _ _ _ parsed c.read_job.result c.in_ok-input.ensures.whole c.as_slice.ensures c.read_job.ensures.document c.read_job.ensures.none is in
    job_parsed parsed c.read_job.result _ c.in_ok-read_job.was gives
