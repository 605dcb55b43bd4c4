use Rattle.std.proofs.Common.{◌≡◌, ℕ, length, List, ◌++◌}
use Rattle.std.specs.Io.KnownBytes.{Appends}
use Rattle.krb_commands.proofs.output.write_all.Given as goal

abbrev pub invariant-loop-rest : goal.invariant-loop-rest
invariant-loop-rest g l = (done : List ℕ) × Appends (g.W.Write.contents l.fn.writer) (g.W.Write.contents l.writer) done × (l.initial.rest ≡ done ++ l.rest)

abbrev pub decreases-loop-rest : goal.decreases-loop-rest
decreases-loop-rest g l = length l.rest
