-- What contracts see of a receiver.
use Rattle.krb_seal.specs.Opens.{OpenerState}
use Rattle.krb_peers.specs.Demand.{Demand}

-- a receiver: its opener, and what it demands
pub record ReceiverState : Type 0 where
  pub opener : OpenerState
  pub demand : Demand
