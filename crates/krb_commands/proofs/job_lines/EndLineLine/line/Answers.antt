use Rattle.krb_commands.proofs.TextLemmas.{formatted, end_joined}
use Rattle.krb_commands.proofs.job_lines.EndLineLine.line.Goals as goal

pub returns : goal.returns
returns c = formatted c.format.result _ _ c.format.ensures.ok (rw (c.state_name-name.ensures, c.ending_name-ending.ensures) (end_joined _ _ _ _ _))
