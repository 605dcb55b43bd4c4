use Rattle.std.proofs.Common.{◌≡◌, length}
use Rattle.krb_thread_tests.proofs.stepped.steps.turn_by_turn.Given as goal

abbrev pub invariant-loop-sends : goal.invariant-loop-sends
invariant-loop-sends g l = length l.relay.tracks ≡ 1
