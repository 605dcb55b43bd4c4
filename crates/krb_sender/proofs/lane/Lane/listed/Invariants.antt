use Rattle.std.proofs.Common.{ℕ, ◌<◌}
use Rattle.krb_sender.specs.Lane.{IsAwake, IsSameButList}
use Rattle.krb_sender.proofs.lane.Lane.listed.Given as goal

abbrev pub invariant-loop-place : goal.invariant-loop-place
invariant-loop-place l = record {
  same : IsSameButList l.fn.self l.fn.list l.self;
  awake : (k : ℕ) → k < l.place → IsAwake l.self k;
}
