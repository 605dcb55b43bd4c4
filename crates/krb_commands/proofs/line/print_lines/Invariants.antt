use Rattle.std.proofs.Common.{take, map}
use Rattle.std.specs.List.{concat}
use Rattle.std.specs.Io.KnownBytes.{Appends}
use Rattle.krb_commands.specs.JobLines.{line_of}
use Rattle.krb_commands.proofs.line.print_lines.Given as goal

-- the lines of the items so far are written
abbrev pub invariant-loop-item : goal.invariant-loop-item
invariant-loop-item g l =
    Appends (g.W.Write.contents l.fn.writer) (g.W.Write.contents l.writer) (concat (map (λ item. line_of (g.L.Line.text item)) (take l.item-index l.items)))
