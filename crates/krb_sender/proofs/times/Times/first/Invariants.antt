use Rattle.std.proofs.Common.{◌≡◌, ◌<◌, ◌-◌, length}
use Rattle.krb_sender.specs.Times.{time_of}
use Rattle.krb_sender.proofs.times.Times.first.Given as goal

abbrev pub invariant-loop-self : goal.invariant-loop-self
invariant-loop-self l = record {
  there : l.place < length l.self-inside.at.items;
  root : time_of l.self-inside.least.items l.place ≡ time_of l.self-inside.least.items 0;
}

abbrev pub decreases-loop-self : goal.decreases-loop-self
decreases-loop-self l = length l.self-inside.at.items - l.place
