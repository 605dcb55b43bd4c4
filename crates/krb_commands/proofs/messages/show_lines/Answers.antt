use Rattle.krb_commands.proofs.ShowLemmas.{printed_more, printed_prefix, printed_all, on_err}
use Rattle.krb_commands.proofs.messages.show_lines.Goals as goal

pub returns-in_err-accepted-clause-prefix : goal.returns-in_err-accepted-clause-prefix
returns-in_err-accepted-clause-prefix g c =
    on_err _ c.from_residual.result
    (printed_prefix _ _ _ _ _ _ c.loop-line.rest.now c.in-Some.line.now c.in-Some.after.now c.loop-line.all_accepted c.loop-line.invariant
    c.in-Some.ensures.line c.in_err-accepted.ensures.prefix)

pub loop-line-preserved : goal.loop-line-preserved
loop-line-preserved g c =
    printed_more _ _ _ _ _ _ c.loop-line.rest.now c.in-Some.line.now c.in-Some.after.now c.loop-line.all_accepted c.in_ok-accepted.accepted c.loop-line.invariant
    c.in-Some.ensures.line c.in_ok-accepted.ensures.shown

pub returns-clause-shown : goal.returns-clause-shown
returns-clause-shown g c =
    printed_all _ _ _ _ _ c.loop-line.rest.now c.loop-line.all_accepted c.status_of.result c.loop-line.invariant c.in_default.ensures.line c.status_of.ensures
