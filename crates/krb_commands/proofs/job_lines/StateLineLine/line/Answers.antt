use Rattle.krb_commands.proofs.TextLemmas.{formatted, lane_joined}
use Rattle.krb_commands.proofs.job_lines.StateLineLine.line.Goals as goal

pub returns : goal.returns
returns c = formatted c.format.result _ _ c.format.ensures.ok (rw c.state_name-name.ensures (lane_joined _ _))
