use Rattle.std.proofs.Common.{◌≡◌}
use Rattle.krb_thread_tests.proofs.lane.passing.take_all.Given as goal

abbrev pub invariant-loop : goal.invariant-loop
invariant-loop g l =
    (goal.iterator-loop g).can_next l.iterator'
    × (goal.iterator-loop g).is_finite l.iterator'
    × (l.rx.lane ≡ l.initial.rx.lane)
    × (l.rx.frames ≡ l.got.items)
