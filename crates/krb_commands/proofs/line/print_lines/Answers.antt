use Rattle.krb_commands.specs.JobLines.{line_of}
use Rattle.krb_commands.proofs.LinesLemmas.{printed-more, printed-part}
use Rattle.krb_commands.proofs.ShowLemmas.{on_err}
use Rattle.krb_commands.proofs.line.print_lines.Goals as goal

pub loop-item-preserved : goal.loop-item-preserved
loop-item-preserved g c =
    printed-more (λ item. line_of (g.L.Line.text item)) _ _ _ c.args.items.now c.loop-item.item-index c.item-item.result c.loop-item-test.true c.item-item.is c.loop-item.invariant c.in_ok-print_line.ensures.printed

pub returns-in_err-print_line-clause-part : goal.returns-in_err-print_line-clause-part
returns-in_err-print_line-clause-part g c =
    on_err _ c.from_residual.result
    (printed-part (λ item. line_of (g.L.Line.text item)) _ _ _ c.args.items.now c.loop-item.item-index c.item-item.result c.loop-item-test.true c.item-item.is c.loop-item.invariant c.in_err-print_line.ensures.part)
