use Rattle.std.proofs.Common.{take}
use Rattle.std.specs.Prelude.{All}
use Rattle.krb_peers.specs.Sending.{source_of, IsSender}
use Rattle.krb_thread_tests.proofs.relay_asserts.assert_senders.Given as goal

abbrev pub invariant-loop-sending : goal.invariant-loop-sending
invariant-loop-sending g l =
    All (λ sending. IsSender (source_of g.S.Sealer.state sending))
    (take l.sending-index l.sendings)
