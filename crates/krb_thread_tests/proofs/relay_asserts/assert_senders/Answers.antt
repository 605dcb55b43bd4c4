-- One sender more.
use Rattle.std.proofs.Common.{arith, ◌<◌, length}
use Rattle.krb_peers.specs.Sending.{source_of, IsSender}
use Rattle.krb_peers.proofs.ListLemmas.{All-more, All-whole}
use Rattle.krb_thread_tests.proofs.relay_asserts.assert_senders.Goals as goal

pub loop-sending-preserved : goal.loop-sending-preserved
loop-sending-preserved g c =
    let lt : c.loop-sending.sending-index < length c.args.sendings.now = omega arith in
    All-more (λ sending. IsSender (source_of g.S.Sealer.state sending)) c.args.sendings.now
    c.loop-sending.sending-index _ lt c.loop-sending.invariant c.sending-item.is
    c.assert_sender.ensures

pub returns : goal.returns
returns g c =
    All-whole (λ sending. IsSender (source_of g.S.Sealer.state sending)) c.args.sendings.now
    c.loop-sending.sending-index c.loop-sending.invariant (omega arith)
