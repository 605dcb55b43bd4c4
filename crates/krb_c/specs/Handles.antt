-- What the handles own.
use Rattle.std.specs.Prelude.{ℕ, Option}
use base.Fml.{Fml}
use base.Stored.{Coded}
use denote.RawPtr.{Ptr}
use Rattle.std.specs.Coded.{coded_option}
use Rattle.krb_seal.specs.Sealer.{SealerState}
use Rattle.krb_seal.specs.Opens.{OpenerState}
use Rattle.krb_peers.specs.ReceiverState.{ReceiverState}
use Rattle.krb_structs.specs.Peer.{PeerState}
use Rattle.krb_c.specs.Held.{owns}
use Rattle.krb_structs.specs.contracts.lane_receiver.LaneReceiver.{the_row as receiver_row}
use Rattle.krb_structs.specs.contracts.peer.Peer.{the_row as peer_row}
use Rattle.krb_structs.specs.contracts.any_sealer.AnySealer.{the_row as sealer_row}
use Rattle.krb_c.specs.declared.held_lane.HeldLane.{HeldLane}
use Rattle.krb_c.specs.contracts.held_lane.HeldLane.{the_row as lane_row}
use Rattle.krb_c.specs.declared.held_queue.HeldQueue.{HeldQueue}
use Rattle.krb_c.specs.contracts.held_queue.HeldQueue.{the_row as queue_row}
use Rattle.krb_c.specs.declared.held_shard.HeldShard.{HeldShard}
use Rattle.krb_c.specs.contracts.held_shard.HeldShard.{the_row as shard_row}
use Rattle.krb_structs.specs.contracts.wipeable_opener.WipeableOpener.{the_row as opener_row}

abbrev pub owns_sealer : Ptr → ℕ → Option SealerState → Fml
owns_sealer = owns sealer_row

abbrev pub sealer_coded : Coded (Option SealerState)
sealer_coded = coded_option sealer_row.coded

abbrev pub owns_opener : Ptr → ℕ → Option (Option OpenerState) → Fml
owns_opener = owns opener_row

abbrev pub opener_coded : Coded (Option (Option OpenerState))
opener_coded = coded_option opener_row.coded

abbrev pub owns_receiver : Ptr → ℕ → Option ReceiverState → Fml
owns_receiver = owns receiver_row

abbrev pub receiver_coded : Coded (Option ReceiverState)
receiver_coded = coded_option receiver_row.coded

abbrev pub owns_peer : Ptr → ℕ → Option PeerState → Fml
owns_peer = owns peer_row

abbrev pub peer_coded : Coded (Option PeerState)
peer_coded = coded_option peer_row.coded

abbrev pub owns_queue : Ptr → ℕ → Option HeldQueue → Fml
owns_queue = owns queue_row

abbrev pub queue_coded : Coded (Option HeldQueue)
queue_coded = coded_option queue_row.coded

abbrev pub owns_lane : Ptr → ℕ → Option HeldLane → Fml
owns_lane = owns lane_row

abbrev pub lane_coded : Coded (Option HeldLane)
lane_coded = coded_option lane_row.coded

abbrev pub owns_shard : Ptr → ℕ → Option HeldShard → Fml
owns_shard = owns shard_row

abbrev pub shard_coded : Coded (Option HeldShard)
shard_coded = coded_option shard_row.coded
