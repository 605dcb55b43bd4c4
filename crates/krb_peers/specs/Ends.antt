-- The two ends of a lane.
use Rattle.std.specs.Prelude.{ℕ, List, map}
use Rattle.std.specs.List.{zip}
use Rattle.krb_seal.specs.Sealer.{SealerState}
use Rattle.krb_peers.specs.declared.receiver.Receiving.{Receiving}
use Rattle.krb_peers.specs.declared.sending.Sending.{Sending}
use Rattle.krb_peers.specs.declared.sending.Sent.{Sent}
use Rattle.krb_peers.specs.ReceiverState.{ReceiverState}
use Rattle.krb_peers.specs.Sender.{Source}
use Rattle.krb_peers.specs.Sending.{source_of, sent_of}

-- a lane: its sender, its receiver, and when the receiver takes frames
pub record Ends : Type 0 where
  pub source : Source
  pub receiver : ReceiverState
  pub nows : List ℕ

-- a lane as the code holds its two ends, where `state` says what contracts see of a sealer
abbrev pub ends_of : {S : Type 0} → (S → SealerState) → Sending S × Receiving → Ends
ends_of state pair = record {
  source = source_of state (pair.0);
  receiver = (pair.1).receiver;
  nows = (pair.1).nows.items;
}

-- the lanes of senders and receivers: the first sender with the first receiver, and so on
abbrev pub lanes_of : {S : Type 0} → (S → SealerState) → List (Sending S) → List Receiving
    → List Ends
lanes_of state sendings receivings = map (ends_of state) (zip sendings receivings)

-- how much the sender of each lane seals
abbrev pub sents_of : List Ends → List Sent
sents_of lanes = map (λ ends. sent_of ends.source) lanes
