-- The two ends of a lane, as a job states them.
use Rattle.std.specs.Prelude.{◌≡◌, ◌<◌, ℕ, false, All, List, length, Option, Some, None, option_map}
use Rattle.std.specs.Prelude.{if◌then◌else◌}
use Rattle.rand_chacha.specs.ChaCha.{of_seed}
use Rattle.krb_seal.specs.declared.session.Session.{Session}
use Rattle.krb_seal.specs.declared.session.Expect.{Expect}
use Rattle.krb_seal.specs.Opens.{opener_of}
use Rattle.krb_seal.specs.Sealer.{SealerState, new_state}
use Rattle.krb_peers.specs.Order.{first_demand}
use Rattle.krb_peers.specs.ReceiverState.{ReceiverState}
use Rattle.krb_peers.specs.declared.receiver.Receiving.{Receiving}
use Rattle.krb_peers.specs.declared.sending.Sending.{Sending}
use Rattle.krb_peers.specs.Sending.{source_of, IsSender}
use Rattle.krb_peers.specs.Sender.{Source}
use Rattle.krb_peers.specs.Ends.{Ends}
use Rattle.krb_job.specs.SenderKeys.{Sender}

-- what the sender writes into each message
abbrev pub session_of : Sender → Session
session_of sender = record {
  mode = sender.protection.mode;
  s_addr = sender.parties.from;
  r_addr = if sender.parties.write_to then Some sender.parties.to else None;
  first = sender.protection.first;
}

-- what the receiver demands of each message
abbrev pub expect_of : Sender → Expect
expect_of sender = record {
  mode = sender.protection.mode;
  s_addr = sender.parties.from;
  r_addr = sender.parties.to;
  require_r = sender.parties.require_to;
  expect_time = sender.parties.expect_time;
  skew = sender.parties.skew;
}

-- a sealer that has sealed nothing, and a receiver that has taken nothing, under one key
abbrev pub sealer_of : Sender → SealerState
sealer_of sender = new_state sender.protection.etype sender.protection.key (session_of sender)

abbrev pub receiver_of : Sender → ReceiverState
receiver_of sender = record {
  opener = opener_of sender.protection.etype sender.protection.key (expect_of sender);
  demand = first_demand sender.protection.first;
}

-- the sender, around a sealer: the draws are the words of stream 0 under the seed, from word 0 on
abbrev pub source_with : Sender → SealerState → List ℕ → Source
source_with sender sealer seed = record {
  sealer = sealer;
  texts = sender.traffic.texts;
  batch = sender.traffic.batch;
  ats = sender.traffic.ats;
  draws = of_seed seed;
  plan = sender.traffic.plan;
}

abbrev pub source_in : Sender → SealerState → Option Source
source_in sender sealer = option_map (source_with sender sealer) sender.traffic.seed

-- both ends of the lane, around a sealer
abbrev pub ends_with : Sender → Source → Ends
ends_with sender source =
    record { source = source; receiver = receiver_of sender; nows = sender.traffic.nows }

abbrev pub ends_in : Sender → SealerState → Option Ends
ends_in sender sealer = option_map (ends_with sender) (source_in sender sealer)

-- what the job states of a sender, and of its lane: nothing where it states no seed
abbrev pub source_stated : Sender → Option Source
source_stated sender = source_in sender (sealer_of sender)

abbrev pub lane_stated : Sender → Option Ends
lane_stated sender = ends_in sender (sealer_of sender)

-- The ends of lanes that may begin: each sender keeps its limits and none was wiped, each receiver
-- has a moment, and there are as many of both.
pub record AreReady {S : Type 0} (state : S → SealerState) (sendings : List (Sending S))
    (receivings : List Receiving) : Type 0 where
  pub same : length sendings ≡ length receivings
  pub senders : All (λ sending. IsSender (source_of state sending)) sendings
  pub live : All (λ sending. (state sending.sealer).wiped ≡ false) sendings
  pub moments : All (λ receiving. 0 < length receiving.nows.items) receivings
