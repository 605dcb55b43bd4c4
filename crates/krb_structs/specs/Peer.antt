-- One end of a session of plain user data, in both directions: it seals under its own numbers, and
-- opens what the other end sealed, in order.
use Rattle.std.specs.Prelude.{◌≡◌, ◌⊎◌, ℕ, ℤ, ◌+◌, ◌≤◌, List, replicate, Option, Some}
use Rattle.krb_seal.specs.Lent.{advanced_by}
use Rattle.krb_seal.specs.Opens.{OpenerState, opener_of}
use Rattle.krb_seal.specs.Sealer.{SealerState, advanced, end_of_numbers, new_state}
use Rattle.krb_structs.specs.declared.demand.KrbDemand.{KrbDemand}
use Rattle.krb_structs.specs.declared.session.KrbExpect.{KrbExpect}
use Rattle.krb_structs.specs.declared.session.KrbSession.{KrbSession}
use Rattle.krb_structs.specs.Demand.{IsDemand}
use Rattle.krb_structs.specs.PeerExport.{Exports, IsExport}
use Rattle.krb_structs.specs.Session.{expect_of, session_of}

-- What contracts see of a peer: its sealer, its opener unless that was wiped, and what it demands of
-- the next message.
pub record PeerState : Type 0 where
  pub sealer : SealerState
  pub opener : Option OpenerState
  pub demand : KrbDemand

-- It demands a number, which is one over the last at most. A message without one is refused, or has
-- the number 0.
pub record IsPeerDemand (d : KrbDemand) : Type 0 where
  pub is_demand : IsDemand d
  pub how_number : (d.how_number ≡ 2) ⊎ (d.how_number ≡ 3)
  pub number : d.number ≤ end_of_numbers

-- a peer can go on from an export: the session and the demand leave their numbers to it
pub record CanResume (told : KrbSession) (d : KrbDemand) (state : List ℕ) : Type 0 where
  pub demand : IsPeerDemand d
  pub no_first : told.first ≡ 0
  pub no_number : d.number ≡ 0
  pub is_export : IsExport state

-- ---- what a call leaves

-- The opener is one of the session's mode. The rest is never asked of it, since the demand says it.
abbrev pub peer_expect : KrbSession → KrbDemand → KrbExpect
peer_expect told d = record {
  mode = told.mode;
  sender = d.sender;
  receiver = d.receiver;
  require_receiver = 0;
  require_time = 0;
  skew = 0;
  reserved = replicate 4 0;
}

-- a new peer
abbrev pub new_peer : ℤ → List ℕ → KrbSession → KrbDemand → PeerState
new_peer etype key told d = record {
  sealer = new_state etype key (session_of told);
  opener = Some (opener_of etype key (expect_of (peer_expect told d)));
  demand = d;
}

-- the same demand of another number
abbrev pub of_number : KrbDemand → ℕ → KrbDemand
of_number d n = record d { number = n }

-- a peer that goes on from the numbers of an export
abbrev pub Resumes : ℤ → List ℕ → KrbSession → KrbDemand → List ℕ → PeerState → Type 0
Resumes etype key told d state p =
    (next : ℕ) × ((expected : ℕ) × Exports state next expected
    × (p ≡ new_peer etype key (record told { first = next }) (of_number d expected)))

-- the peer after a frame that it sealed
abbrev pub peer_sealed : PeerState → PeerState
peer_sealed p = record p { sealer = advanced p.sealer }

-- the peer after so many frames that it sealed
abbrev pub peer_sealed_many : PeerState → ℕ → PeerState
peer_sealed_many p n = record p { sealer = advanced_by p.sealer n }

-- the peer after a message that it opened
abbrev pub peer_opened : PeerState → PeerState
peer_opened p = record p { demand = of_number p.demand (p.demand.number + 1) }
