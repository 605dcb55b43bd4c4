use Rattle.std.proofs.Common.{◌≡◌, length}
use Rattle.krb_thread_tests.proofs.stepped.sweep.each_turn_is_done_or_memory_wanted.Given as goal

abbrev pub invariant-loop-place : goal.invariant-loop-place
invariant-loop-place g l = length l.relay.tracks ≡ 1
