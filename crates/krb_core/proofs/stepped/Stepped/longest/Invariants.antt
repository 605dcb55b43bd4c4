use Rattle.std.proofs.Common.{◌≡◌, max, drop}
use Rattle.krb_core.specs.Finish.{longest_wire}
use Rattle.krb_core.proofs.stepped.Stepped.longest.Given as goal

abbrev pub invariant-loop-track : goal.invariant-loop-track
invariant-loop-track l = max l.longest (longest_wire (drop l.track-index l.track-items)) ≡ longest_wire l.track-items
