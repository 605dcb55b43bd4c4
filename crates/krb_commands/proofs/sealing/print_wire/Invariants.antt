use Rattle.std.proofs.Common.{take}
use Rattle.std.specs.Io.KnownBytes.{Appends}
use Rattle.krb_commands.specs.JobLines.{frame_lines}
use Rattle.krb_commands.proofs.sealing.print_wire.Given as goal

-- the emissions so far are written
abbrev pub invariant-loop-k : goal.invariant-loop-k
invariant-loop-k g l =
    Appends (g.W.Write.contents l.fn.writer) (g.W.Write.contents l.writer) (frame_lines (take l.k l.wire))
