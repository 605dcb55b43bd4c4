-- Frames that a peer opens one after another, and what it answers of each.
use Rattle.std.specs.Prelude.{◌≡◌, ◌⊎◌, ℕ, ◌+◌, List, [], ◌∷◌, ◌++◌, length, take, slice_get, Vec, Some, Result, Ok, Err}
use Rattle.std.specs.List.{flat_map}
use Rattle.krb_base.specs.Prefix.{IsPrefix}
use Rattle.krb_seal.specs.Sealer.{SealerState}
use Rattle.krb_structs.specs.declared.carried.KrbCarried.{KrbCarried}
use Rattle.krb_structs.specs.declared.fault.Fault.{Fault}
use Rattle.krb_structs.specs.declared.moment.KrbMoment.{KrbMoment}
use Rattle.krb_structs.specs.Fault.{OrMemory, fault_code}
use Rattle.krb_structs.specs.Moment.{micros_of}
use Rattle.krb_structs.specs.Opening.{GivesTo}
use Rattle.krb_structs.specs.Peer.{PeerState, peer_opened}
use Rattle.krb_structs.specs.Reasons.{DemandAnswer}
use Rattle.krb_laws.specs.Peers.{PeerEnd, PeerCall, Hears, IsPeerAt, IsSealedOf, ArePeerCalls}
use Rattle.krb_laws.specs.Peers.PeerCall.{Opened, Failed}

-- ---- answers

-- A frame opens, and the next number is demanded then. Or it doesn't, by the first condition that
-- doesn't hold or since memory ran out, and then the peer is as it was.
abbrev pub OpensFrame : {A : Type 0} → PeerState → KrbMoment → List ℕ → Result (Vec ℕ A) Fault
    → PeerState → Type 0
OpensFrame before at frame (Ok user) after =
    ((told : KrbCarried)
    × GivesTo (Some before.opener) before.demand (micros_of at) frame user.items told)
    × (after ≡ peer_opened before)
OpensFrame before at frame (Err fault) after =
    OrMemory (DemandAnswer (Some before.opener) before.demand at frame (length frame)) (fault_code fault)
    × (after ≡ before)

-- one answer for each frame, in their order, and each from where the one before it leads
abbrev pub OpensEach : {A : Type 0} → PeerState → KrbMoment → List (List ℕ)
    → List (Result (Vec ℕ A) Fault) → PeerState → Type 0
OpensEach before at [] [] after = after ≡ before
OpensEach before at [] (answer ∷ answers) after = ⊥
OpensEach before at (frame ∷ frames) [] after = ⊥
OpensEach before at (frame ∷ frames) (answer ∷ answers) after =
    (between : PeerState) × OpensFrame before at frame answer between
    × OpensEach between at frames answers after

-- ---- what was opened

abbrev pub user_in : {A : Type 0} → Result (Vec ℕ A) Fault → List (List ℕ)
user_in (Ok user) = user.items ∷ []
user_in (Err fault) = []

-- the user data of the frames that opened, in their order
abbrev pub opened_of : {A : Type 0} → List (Result (Vec ℕ A) Fault) → List (List ℕ)
opened_of answers = flat_map user_in answers

-- ---- what comes from the other end

-- No frame that opened is a forgery: it was sealed of one of the data, or carries the data of the
-- number that was demanded then. The first number that is demanded has data k.
abbrev pub NoneForged : {A : Type 0} → SealerState → List (List ℕ) → ℕ → List (List ℕ)
    → List (Result (Vec ℕ A) Fault) → Type 0
NoneForged sealer data_of k [] answers = Unit {0}
NoneForged sealer data_of k (frame ∷ frames) [] = Unit {0}
NoneForged sealer data_of k (frame ∷ frames) (Ok user ∷ answers) =
    (IsSealedOf sealer data_of frame ⊎ (slice_get data_of k ≡ Some user.items))
    × NoneForged sealer data_of (k + 1) frames answers
NoneForged sealer data_of k (frame ∷ frames) (Err fault ∷ answers) =
    NoneForged sealer data_of k frames answers

-- The headline of user data: whatever frames come, what is opened continues the first data that the
-- other end sealed, in order and each once.
abbrev pub OpensInOrder : {A : Type 0} → PeerEnd → PeerState → List (List ℕ)
    → List (Result (Vec ℕ A) Fault) → Type 0
OpensInOrder e start frames answers =
    (sealer : SealerState) (data_of : List (List ℕ)) (next first : ℕ)
    → Hears e sealer → IsPeerAt e next (sealer.next + first) start
    → NoneForged sealer data_of first frames answers
    → IsPrefix (take first data_of ++ opened_of answers) data_of

-- ---- the calls of these answers

-- the call of a frame at a moment, by what was answered of it
abbrev pub IsCallOf : {A : Type 0} → ℕ → List ℕ → Result (Vec ℕ A) Fault → PeerCall → Type 0
IsCallOf now frame (Ok user) call =
    (told : KrbCarried)
    × (call ≡ Opened (record { frame = frame; now = now; user = user.items; told = told }))
IsCallOf now frame (Err fault) call = call ≡ Failed

-- one for each frame, in their order
abbrev pub AreCallsOf : {A : Type 0} → ℕ → List (List ℕ) → List (Result (Vec ℕ A) Fault)
    → List PeerCall → Type 0
AreCallsOf now [] [] calls = calls ≡ []
AreCallsOf now [] (answer ∷ answers) calls = ⊥
AreCallsOf now (frame ∷ frames) [] calls = ⊥
AreCallsOf now (frame ∷ frames) (answer ∷ answers) calls =
    (call : PeerCall) × ((rest : List PeerCall) × (calls ≡ call ∷ rest)
    × IsCallOf now frame answer call × AreCallsOf now frames answers rest)

-- so what is answered of frames are the calls of a peer, whatever it is made of
abbrev pub AnswersAreCalls : {A : Type 0} → PeerState → KrbMoment → List (List ℕ)
    → List (Result (Vec ℕ A) Fault) → PeerState → Type 0
AnswersAreCalls before at frames answers after =
    (calls : List PeerCall) × AreCallsOf (micros_of at) frames answers calls
    × ((e : PeerEnd) → ArePeerCalls e before calls after)
