use Rattle.std.proofs.Common.{inr}
use Rattle.krb_commands.proofs.OutputLemmas.{prefix_by_part}
use Rattle.krb_commands.proofs.ShowLemmas.{on_err}
use Rattle.krb_commands.proofs.plain.print_plain.Goals as goal

pub returns-in_err-print_lines-clause-prefix : goal.returns-in_err-print_lines-clause-prefix
returns-in_err-print_lines-clause-prefix g c =
    on_err _ c.from_residual-in_err-print_lines.result
    (inr (c.in_ok-outcomes.outcomes.items, c.in_ok-outcomes.ensures, prefix_by_part _ _ _ (rw c.as_slice.ensures.value at c.in_err-print_lines.ensures.part)))
