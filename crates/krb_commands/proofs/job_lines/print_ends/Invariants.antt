use Rattle.krb_commands.proofs.EndedLemmas.{HasPrinted}
use Rattle.krb_commands.proofs.job_lines.print_ends.Given as goal

-- the lines of the lanes below this one are written
abbrev pub invariant-loop-lane : goal.invariant-loop-lane
invariant-loop-lane g l = HasPrinted (g.W.Write.contents l.fn.writer) (g.W.Write.contents l.writer) l.sents l.log l.lane l.all_closed
