use Rattle.std.proofs.Common.{◌≡◌, ◌+◌, length}
use Rattle.krb_bench.proofs.lane.send_frames.Given as goal

abbrev pub invariant-loop : goal.invariant-loop
invariant-loop g l =
    (l.tx.lane ≡ l.initial.tx.lane)
    × (length l.tx.frames ≡ length l.initial.tx.frames + l.counter)
