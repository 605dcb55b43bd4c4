use Rattle.std.proofs.Common.{ap, ◌∙◌}
use Rattle.krb_commands.specs.JobLines.{status_by}
use Rattle.krb_commands.proofs.OpenedLemmas.{prefix_by_fault, first_by_fault, prefix_of_state, all_printed, took_all}
use Rattle.krb_commands.proofs.OutputLemmas.{prefix_by_part}
use Rattle.krb_commands.proofs.ShowLemmas.{on_err}
use Rattle.krb_commands.proofs.opening.open_job.Goals as goal

pub returns-in_err-print_taken-clause-prefix : goal.returns-in_err-print_taken-clause-prefix
returns-in_err-print_taken-clause-prefix g c =
    on_err _ c.from_residual.result
    (prefix_by_fault _ _ _ _ _ c.take_all-outcome.ensures _ (g.W.Write.contents c.args.writer.now) _ c.in_err-print_taken.field-0.0 c.in_err-print_taken.ensures.fault)

pub returns-in_err-print_taken-clause-stopped : goal.returns-in_err-print_taken-clause-stopped
returns-in_err-print_taken-clause-stopped g c = λ lines named.
    first_by_fault _ _ _ _ _ c.take_all-outcome.ensures _ (g.W.Write.contents c.args.writer.now) _ c.from_residual.result c.in_err-print_taken.field-0.0 lines c.from_residual.ensures.1 named c.in_err-print_taken.ensures.fault

pub returns-in_err-print_line-clause-prefix : goal.returns-in_err-print_line-clause-prefix
returns-in_err-print_line-clause-prefix g c =
    let all = took_all _ _ _ _ _ c.take_all-outcome.ensures c.in_ok-print_taken.ensures.all in
    on_err _ c.from_residual-in_err-print_line.result
    (prefix_of_state _ _ _ _ _ c.take_all-outcome.ensures _ _ _ all c.in_ok-print_taken.ensures.printed
    c.status-status.result (rw c.end.ensures at c.status-status.ensures) (prefix_by_part _ _ _ c.in_err-print_line.ensures.part))

pub returns-clause-printed : goal.returns-clause-printed
returns-clause-printed g c =
    let all = took_all _ _ _ _ _ c.take_all-outcome.ensures c.in_ok-print_taken.ensures.all in
    all_printed _ _ _ _ _ c.take_all-outcome.ensures _ _ _ all c.in_ok-print_taken.ensures.printed
    c.status-status.result (rw c.end.ensures at c.status-status.ensures) c.in_ok-print_line.ensures.printed _ (c.status_of_lanes.ensures ∙ ap status_by c.is_closed.ensures)
