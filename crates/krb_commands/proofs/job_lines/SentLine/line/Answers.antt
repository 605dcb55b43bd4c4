use Rattle.krb_commands.proofs.TextLemmas.{formatted, sent_joined}
use Rattle.krb_commands.proofs.job_lines.SentLine.line.Goals as goal

pub returns : goal.returns
returns c = formatted c.format.result _ _ c.format.ensures.ok (rw c.ending_name-ending.ensures (sent_joined _ _ _))
