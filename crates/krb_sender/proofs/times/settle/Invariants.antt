use Rattle.std.proofs.Common.{◌≡◌, ◌<◌, length}
use Rattle.krb_sender.specs.Times.{NodesBut}
use Rattle.krb_sender.proofs.times.settle.Given as goal

abbrev pub invariant-loop-i : goal.invariant-loop-i
invariant-loop-i l = record { there : l.i < length l.at; sized : length l.least ≡ length l.at; others : NodesBut l.at l.least l.i }

abbrev pub decreases-loop-i : goal.decreases-loop-i
decreases-loop-i l = l.i
