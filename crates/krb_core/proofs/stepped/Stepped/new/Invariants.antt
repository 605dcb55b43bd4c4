use Rattle.std.proofs.Common.{◌≡◌, ◌<◌, ◌++◌, length, map}
use Rattle.std.specs.Prelude.{All}
use Rattle.std.specs.List.{zip}
use Rattle.krb_peers.specs.Sending.{source_of, IsSender}
use Rattle.krb_peers.specs.Ends.{ends_of}
use Rattle.krb_core.specs.Start.{AreBegun}
use Rattle.krb_core.proofs.stepped.Stepped.new.Given as goal

abbrev pub invariant-loop-sending : goal.invariant-loop-sending
invariant-loop-sending g l = record {
  next : (goal.iterator-loop-sending g).can_next l.sending-iterator;
  finite : (goal.iterator-loop-sending g).is_finite l.sending-iterator;
  senders : All (λ sending. IsSender (source_of g.S.Sealer.state sending)) l.sending-iterator.a.rest.items;
  moments : All (λ receiving. 0 < length receiving.nows.items) l.sending-iterator.b.rest.items;
  same : length l.sending-iterator.a.rest.items ≡ length l.sending-iterator.b.rest.items;
  lanes : zip l.fn.sendings.items l.fn.receivings.items ≡ l.yielded ++ zip l.sending-iterator.a.rest.items l.sending-iterator.b.rest.items;
  begun : AreBegun l.capacity (map (ends_of g.S.Sealer.state) l.yielded) l.tracks.items l.sents.items;
}
