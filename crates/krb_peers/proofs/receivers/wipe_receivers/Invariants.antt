use Rattle.std.specs.List.{AllWithin}
use Rattle.krb_peers.specs.Receiver.{IsWiped}
use Rattle.krb_peers.proofs.receivers.wipe_receivers.Given as goal

-- the receivers before this place are wiped
abbrev pub invariant-loop-receiving : goal.invariant-loop-receiving
invariant-loop-receiving l = AllWithin IsWiped l.receivings 0 l.receiving-index
