use Rattle.std.proofs.Common.{◌≡◌, map, take}
use Rattle.krb_peers.specs.Sending.{source_of, sent_of}
use Rattle.krb_relay.proofs.running.sents.Given as goal

abbrev pub invariant-loop-sending : goal.invariant-loop-sending
invariant-loop-sending g l = l.sents.items ≡ map (λ sending. sent_of (source_of g.S.Sealer.state sending)) (take l.sending-index l.sendings)
