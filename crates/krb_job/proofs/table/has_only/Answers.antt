use Rattle.std.proofs.Common.{◌∙◌}
use Rattle.krb_job.proofs.KeyLemmas.{names_only}
use Rattle.krb_job.proofs.table.has_only.Goals as goal

pub returns : goal.returns
returns c = c.names_pass.ensures ∙ names_only c.args.known.now c.args.table.now.entries
