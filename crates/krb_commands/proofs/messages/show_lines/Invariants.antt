use Rattle.std.proofs.Common.{length}
use Rattle.krb_commands.specs.Key.{key_of}
use Rattle.krb_commands.proofs.ShowLemmas.{Printed}
use Rattle.krb_commands.proofs.messages.show_lines.Given as goal

abbrev pub invariant-loop-line : goal.invariant-loop-line
invariant-loop-line g l = Printed l.form (key_of l.openers) (g.W.Write.contents l.fn.writer) (g.W.Write.contents l.writer) l.initial.rest l.rest l.all_accepted

abbrev pub decreases-loop-line : goal.decreases-loop-line
decreases-loop-line g l = length l.rest
