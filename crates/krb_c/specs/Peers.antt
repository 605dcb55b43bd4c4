-- What the calls of a peer's handle answer.
use Rattle.std.specs.Prelude.{ℕ, ℤ, ◌≡◌, List, Option, Some, None}
use Rattle.krb_structs.specs.declared.carried.KrbCarried.{KrbCarried}
use Rattle.krb_structs.specs.declared.demand.KrbDemand.{KrbDemand}
use Rattle.krb_structs.specs.declared.fault.Fault.TheVariants.{Empty}
use Rattle.krb_structs.specs.declared.moment.KrbMoment.{KrbMoment}
use Rattle.krb_structs.specs.declared.session.KrbSession.{KrbSession}
use Rattle.krb_structs.specs.Fault.{fault_code}
use Rattle.krb_structs.specs.Opening.{GivesTo, MisordersTo}
use Rattle.krb_structs.specs.Peer.{PeerState, Resumes, peer_opened, peer_sealed}
use Rattle.krb_structs.specs.PeerExport.{Exports}
use Rattle.krb_structs.specs.Reasons.{DemandAnswer, SealAnswer}
use Rattle.krb_seal.specs.Sealer.{SealsNext}

-- the handle holds a peer that goes on from an export
abbrev pub ResumesIn : ℤ → List ℕ → KrbSession → KrbDemand → List ℕ → Option PeerState → Type 0
ResumesIn etype key told d state None = ⊥
ResumesIn etype key told d state (Some p) = Resumes etype key told d state p

-- the handle holds a peer, and the bytes are the frame of this data at its next number
abbrev pub SealsAt : Option PeerState → List ℕ → ℕ → List ℕ → List ℕ → Type 0
SealsAt None user at conf frame = ⊥
SealsAt (Some p) user at conf frame = SealsNext p.sealer user at conf frame

-- a handle with a peer that sealed one frame more
abbrev pub sealed_if : Option PeerState → Option PeerState
sealed_if None = None
sealed_if (Some p) = Some (peer_sealed p)

-- the handle holds a peer, whose demand a frame meets: its user data, and what else it carried
abbrev pub OpensAt : Option PeerState → ℕ → List ℕ → List ℕ → KrbCarried → Type 0
OpensAt None now frame user told = ⊥
OpensAt (Some p) now frame user told = GivesTo (Some p.opener) p.demand now frame user told

-- a handle with a peer that opened one message more
abbrev pub opened_if : Option PeerState → Option PeerState
opened_if None = None
opened_if (Some p) = Some (peer_opened p)

-- the handle holds a peer, whose demand an authentic frame meets but for its number
abbrev pub MisordersAt : Option PeerState → ℕ → List ℕ → KrbCarried → Type 0
MisordersAt None now frame told = ⊥
MisordersAt (Some p) now frame told = MisordersTo (Some p.opener) p.demand now frame told

-- the handle holds a peer with these numbers: the next one, and the one that is expected
abbrev pub HasNumbers : Option PeerState → ℕ → ℕ → Type 0
HasNumbers None next expected = ⊥
HasNumbers (Some p) next expected = (p.sealer.next ≡ next) × (p.demand.number ≡ expected)

-- the handle holds a peer, and this is the export of its numbers
abbrev pub ExportsAt : Option PeerState → List ℕ → Type 0
ExportsAt None state = ⊥
ExportsAt (Some p) state = Exports state p.sealer.next p.demand.number

-- ---- which answer comes: the handle holds nothing, or as its peer answers

-- of sealing
abbrev pub SealAnswerAt : Option PeerState → ℕ → KrbMoment → ℕ → ℕ → Type 0
SealAnswerAt None n at room code = code ≡ fault_code Empty
SealAnswerAt (Some p) n at room code = SealAnswer p.sealer n at room code

-- of opening
abbrev pub OpenAnswerAt : Option PeerState → KrbMoment → List ℕ → ℕ → ℕ → Type 0
OpenAnswerAt None at frame room code = code ≡ fault_code Empty
OpenAnswerAt (Some p) at frame room code = DemandAnswer (Some p.opener) p.demand at frame room code
