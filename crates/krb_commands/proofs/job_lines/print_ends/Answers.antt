use Rattle.std.proofs.Common.{ap, ◌∙◌, arith}
use Rattle.std.proofs.lemmas.Option.{slice_get-get_or}
use Rattle.krb_commands.specs.JobLines.{is_closed_state}
use Rattle.krb_commands.proofs.EndedLemmas.{printed_next, printed_front}
use Rattle.krb_commands.proofs.ShowLemmas.{on_err}
use Rattle.krb_commands.proofs.job_lines.print_ends.Goals as goal

pub returns-in_err-print_line-clause-part : goal.returns-in_err-print_line-clause-part
returns-in_err-print_line-clause-part g c =
    let sents = c.args.sents.now in
    on_err _ c.from_residual.result
    (printed_front _ _ _ sents c.args.log.now c.loop-lane.lane c.loop-lane.all_closed c.loop-lane.invariant _ (slice_get-get_or sents c.loop-lane.lane _ (omega arith))
    (rw c.status.ensures at c.in_err-print_line.ensures.part))

pub loop-lane-preserved : goal.loop-lane-preserved
loop-lane-preserved g c =
    let sents = c.args.sents.now in
    rw (c.is_closed-all_closed.ensures ∙ ap is_closed_state c.status.ensures)
    (printed_next _ _ _ sents c.args.log.now c.loop-lane.lane c.loop-lane.all_closed c.loop-lane.invariant _ (slice_get-get_or sents c.loop-lane.lane _ (omega arith))
    (rw c.status.ensures at c.in_ok-print_line.ensures.printed))
