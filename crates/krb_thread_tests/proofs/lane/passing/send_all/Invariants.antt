use Rattle.std.proofs.Common.{◌≡◌, ◌++◌}
use Rattle.std.specs.Vec.Iter.{into_iter_items}
use Rattle.krb_thread_tests.proofs.lane.passing.send_all.Given as goal

abbrev pub invariant-loop-bytes : goal.invariant-loop-bytes
invariant-loop-bytes g l =
    (goal.iterator-loop-bytes g).can_next l.bytes-iterator
    × (goal.iterator-loop-bytes g).is_finite l.bytes-iterator
    × (l.tx ≡ record l.fn.tx { frames = l.fn.tx.frames ++ l.yielded })
    × (l.fn.frames.items ≡ l.yielded ++ into_iter_items l.bytes-iterator)
