use Rattle.std.proofs.Common.{take, ◌<◌, length}
use Rattle.std.specs.Prelude.{All}
use Rattle.krb_thread_tests.proofs.relay_asserts.assert_receivers.Given as goal

abbrev pub invariant-loop-receiving : goal.invariant-loop-receiving
invariant-loop-receiving g l =
    All (λ receiving. 0 < length receiving.nows.items) (take l.receiving-index l.receivings)
