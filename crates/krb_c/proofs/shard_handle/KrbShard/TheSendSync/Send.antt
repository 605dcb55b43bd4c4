-- What a handle owns names no thread.
use denote.Struct.Struct.{exits_of}
use denote.Struct.Owning.{shape, fields, to}
use denote.Param.Send.{IsSend, AllSend, owning_send, struct_send, sendable}
use Rattle.krb_c.proofs.Crossing.{exit_quiet, owned_keyless}
use Rattle.krb_c.specs.contracts.held_shard.HeldShard as Any
use Rattle.krb_c.proofs.held_shard.HeldShard.TheSendSync.{the_send as shard_send}
use Rattle.krb_c.specs.contracts.shard_handle.KrbShard.{the_row, the_type}

pub send : IsSend the_row
send =
    let all : AllSend (fields the_type) = (search sendable, (search sendable, tt)) in
    owning_send the_type all (λ h. owned_keyless Any.the_row shard_send h.at h.count h.shard)
    (λ k. exit_quiet (to the_type) (exits_of k (fields the_type)) ((struct_send (shape the_type) all).leaving k))
