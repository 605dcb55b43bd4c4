use Rattle.std.proofs.Common.{◌≡◌, length, take, drop}
use Rattle.krb_core.proofs.settled.settle_all.Given as goal

-- the receivers so far are settled, and the others are where they were
abbrev pub invariant-loop-lane : goal.invariant-loop-lane
invariant-loop-lane l = record {
  settled : l.settled.items ≡ take l.lane l.fn.receivings.items;
  others : drop l.lane l.receivers.items.items ≡ drop l.lane l.fn.receivings.items;
  count : length l.receivers.items.items ≡ length l.fn.receivings.items;
}
