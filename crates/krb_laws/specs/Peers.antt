-- The calls of a peer, one after another: it seals, opens, is exported and resumed, or fails.
use Rattle.std.specs.Prelude.{◌≡◌, ◌⊎◌, ℕ, ℤ, ◌+◌, List, [], ◌∷◌, ◌++◌, length, map, slice_get, Some}
use Rattle.std.specs.List.{flat_map}
use Rattle.krb_seal.specs.Opens.{opener_of}
use Rattle.krb_seal.specs.Seals.{Seals}
use Rattle.krb_seal.specs.Sealer.{SealerState, SealsNext, new_state}
use Rattle.krb_structs.specs.declared.carried.KrbCarried.{KrbCarried}
use Rattle.krb_structs.specs.declared.demand.KrbDemand.{KrbDemand}
use Rattle.krb_structs.specs.declared.session.KrbSession.{KrbSession}
use Rattle.krb_structs.specs.Opening.{GivesTo}
use Rattle.krb_structs.specs.Peer.{PeerState, Resumes, peer_expect, peer_opened, peer_sealed}
use Rattle.krb_structs.specs.PeerExport.{Exports}
use Rattle.krb_structs.specs.Session.{address_of, expect_of, mode_of, session_of}

-- ---- what a peer is made of

-- its key, the session that it writes and what it demands, whatever their numbers are
pub record PeerEnd : Type 0 where
  pub etype : ℤ
  pub key : List ℕ
  pub session : KrbSession
  pub demand : KrbDemand

-- the peer of these that was made with a first number, and has come to these: the one that it seals
-- next, and the one that it demands
abbrev pub peer_at : PeerEnd → ℕ → ℕ → ℕ → PeerState
peer_at e first next expected = record {
  sealer = record (new_state e.etype e.key (session_of (record e.session { first = first }))) { next = next };
  opener = Some (opener_of e.etype e.key (expect_of (peer_expect e.session e.demand)));
  demand = record e.demand { number = expected };
}

pub record IsPeerAt (e : PeerEnd) (next expected : ℕ) (p : PeerState) : Type 0 where
  pub first : ℕ
  pub is : p ≡ peer_at e first next expected

-- ---- its calls

-- user data that were sealed: when, under which confounder, and their frame
pub record Sealing : Type 0 where
  pub user : List ℕ
  pub at : ℕ
  pub confounder : List ℕ
  pub frame : List ℕ

-- a frame that was opened: when, its user data, and what else it carried
pub record Opening : Type 0 where
  pub frame : List ℕ
  pub now : ℕ
  pub user : List ℕ
  pub told : KrbCarried

-- what a call did: sealed, opened, went on from an export, or nothing, whatever it answered
pub data PeerCall : Type 0 where
  Sealed : Sealing → PeerCall
  Opened : Opening → PeerCall
  Resumed : List ℕ → PeerCall
  Failed : PeerCall

-- and what it led to
abbrev pub IsPeerCall : PeerEnd → PeerState → PeerCall → PeerState → Type 0
IsPeerCall e before (Sealed s) after =
    SealsNext before.sealer s.user s.at s.confounder s.frame × (after ≡ peer_sealed before)
IsPeerCall e before (Opened o) after =
    GivesTo (Some before.opener) before.demand o.now o.frame o.user o.told
    × (after ≡ peer_opened before)
IsPeerCall e before (Resumed state) after =
    Exports state before.sealer.next before.demand.number
    × Resumes e.etype e.key e.session e.demand state after
IsPeerCall e before Failed after = after ≡ before

-- one after another
abbrev pub ArePeerCalls : PeerEnd → PeerState → List PeerCall → PeerState → Type 0
ArePeerCalls e before [] after = after ≡ before
ArePeerCalls e before (call ∷ calls) after =
    (between : PeerState) × IsPeerCall e before call between × ArePeerCalls e between calls after

-- ---- what they sealed and opened, in order

abbrev pub sealed_by : PeerCall → List Sealing
sealed_by (Sealed s) = s ∷ []
sealed_by (Opened o) = []
sealed_by (Resumed state) = []
sealed_by Failed = []

abbrev pub sealings_in : List PeerCall → List Sealing
sealings_in calls = flat_map sealed_by calls

abbrev pub sealed_in : List PeerCall → List (List ℕ)
sealed_in calls = map (λ (s : Sealing). s.user) (sealings_in calls)

abbrev pub opened_by : PeerCall → List (List ℕ)
opened_by (Sealed s) = []
opened_by (Opened o) = o.user ∷ []
opened_by (Resumed state) = []
opened_by Failed = []

abbrev pub opened_in : List PeerCall → List (List ℕ)
opened_in calls = flat_map opened_by calls

-- ---- what comes from the other end

-- The frame was sealed of one of the data, of which number k from the sealer's next one on has
-- data k: at any time, under any confounder, and any number of times.
pub record IsSealedOf (sealer : SealerState) (data_of : List (List ℕ)) (frame : List ℕ) : Type 0 where
  pub k : ℕ
  pub user : List ℕ
  pub at : ℕ
  pub confounder : List ℕ
  pub there : slice_get data_of k ≡ Some user
  pub seals : Seals sealer.etype sealer.key sealer.session (sealer.next + k) user at confounder frame

-- the peer demands the messages of a sealer: it has its key and its mode, and demands a number
pub record Hears (e : PeerEnd) (sealer : SealerState) : Type 0 where
  pub etype : e.etype ≡ sealer.etype
  pub key : e.key ≡ sealer.key
  pub mode : sealer.session.mode ≡ mode_of e.session.mode
  pub how_number : (e.demand.how_number ≡ 2) ⊎ (e.demand.how_number ≡ 3)

-- No call opens a forgery: its frame was sealed of one of the data, or carries the data of its
-- number. The first number that is demanded has data `first`.
abbrev pub OpenNoForgery : SealerState → List (List ℕ) → ℕ → List PeerCall → Type 0
OpenNoForgery sealer data_of first calls =
    (front back : List PeerCall) (o : Opening) → calls ≡ front ++ Opened o ∷ back
    → IsSealedOf sealer data_of o.frame
    ⊎ (slice_get data_of (first + length (opened_in front)) ≡ Some o.user)

-- ---- two peers

-- they have one key and one mode, and both demand numbers
pub record ArePeers (a b : PeerEnd) : Type 0 where
  pub etype : a.etype ≡ b.etype
  pub key : a.key ≡ b.key
  pub mode : mode_of a.session.mode ≡ mode_of b.session.mode
  pub a_number : (a.demand.how_number ≡ 2) ⊎ (a.demand.how_number ≡ 3)
  pub b_number : (b.demand.how_number ≡ 2) ⊎ (b.demand.how_number ≡ 3)

-- it demands another sender's address than its own
pub record TellsApart (e : PeerEnd) : Type 0 where
  pub demands : ¬ (e.demand.how_sender ≡ 0)
  pub another : ¬ (address_of e.session.sender ≡ address_of e.demand.sender)

-- the frame is one that these calls sealed
pub record WasSealed (calls : List PeerCall) (frame : List ℕ) : Type 0 where
  pub k : ℕ
  pub sealing : Sealing
  pub there : slice_get (sealings_in calls) k ≡ Some sealing
  pub is : sealing.frame ≡ frame

-- What these calls open was sealed by the other end or by this one, or carries the data of its
-- number.
abbrev pub OpenOfBoth : List PeerCall → List PeerCall → Type 0
OpenOfBoth others calls =
    (front back : List PeerCall) (o : Opening) → calls ≡ front ++ Opened o ∷ back
    → (WasSealed others o.frame ⊎ WasSealed calls o.frame)
    ⊎ (slice_get (sealed_in others) (length (opened_in front)) ≡ Some o.user)
