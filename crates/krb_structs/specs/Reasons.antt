-- Which answer comes: of each call a row of conditions in their order, the first of which that
-- doesn't hold gives the answer. Out of memory comes after all that need none.
use Rattle.std.specs.Prelude.{◌≡◌, ◌⊎◌, ℕ, ℤ, ◌+◌, ◌<◌, ◌≤◌, List, length, Option, Some, None}
use Rattle.std.specs.Prelude.{Ok, Err, false, MatchOption}
use Rattle.krb_base.specs.Limits.{frame_limit, user_data_limit}
use Rattle.krb_der.specs.declared.message.Message.{Message}
use Rattle.krb_der.specs.Message.{Spells}
use Rattle.krb_seal.specs.declared.refusal.Refusal.TheVariants as refusals
use Rattle.krb_etype.specs.Etype.{etype_of, key_size}
use Rattle.krb_seal.specs.Sealer.{HasFrameSize, SealerState, end_of_numbers}
use Rattle.krb_seal.specs.Opens.{Opens}
use Rattle.krb_seal.specs.OpensParts.{Outcome}
use Rattle.krb_seal.specs.Authentic.{Authenticity}
use Rattle.krb_record.specs.declared.record.Record.{Record as RecordValue}
use Rattle.krb_record.specs.Record.{bytes_of}
use Rattle.krb_peers.specs.ReceiverState.{ReceiverState}
use Rattle.krb_peers.specs.Receiver.{TakesMemory}
use Rattle.krb_seal.specs.Memory.{AsksForMemory, AsksWithoutDemands}
use Rattle.krb_peers.specs.Verdicts.{IsVerdict, Verdict, record_of}
use Rattle.krb_structs.specs.declared.fault.Fault.{Fault}
use Rattle.krb_structs.specs.declared.moment.KrbMoment.{KrbMoment}
use Rattle.krb_structs.specs.declared.demand.KrbDemand.{KrbDemand}
use Rattle.krb_structs.specs.declared.session.KrbSession.{KrbSession}
use Rattle.krb_structs.specs.Record.{IsRecordOf}
use Rattle.krb_structs.specs.Moment.{IsMoment, micros_of}
use Rattle.krb_structs.specs.Opening.{HeldOpener}
use Rattle.krb_structs.specs.Session.{HaveRoom, IsMode, IsSession}
use Rattle.krb_structs.specs.Peer.{CanResume, IsPeerDemand}
use Rattle.krb_structs.specs.PeerExport.{Exports}
use Rattle.krb_structs.specs.Demand.{IsDemand, OpensWith}
use Rattle.krb_structs.specs.Fault.{IsDone, Needs, OrMemory, fault_code}
use Rattle.krb_structs.specs.Answers.{IsTextOf}
use Rattle.krb_structs.specs.declared.fault.Fault.TheVariants.{Wiped, TooLong, Exhausted, Refused, Etype}
use Rattle.krb_structs.specs.declared.fault.Fault.TheVariants.{Room, Empty, KeySize, Mode, Moment}
use Rattle.krb_structs.specs.declared.fault.Fault.TheVariants.{Address, Argument, Record}

-- of a moment
abbrev pub NeedsMoment : KrbMoment → (ℕ → Type 0) → ℕ → Type 0
NeedsMoment at Then = Needs (at.reserved ≡ 0) Argument (Needs (IsMoment at) Moment Then)

-- ---- sealing

-- Of sealing n bytes of user data at a moment into this much room: whatever frame of them the sealer
-- makes next has this size.
abbrev pub SealAnswer : SealerState → ℕ → KrbMoment → ℕ → ℕ → Type 0
SealAnswer s n at room =
    NeedsMoment at
    (Needs (s.wiped ≡ false) Wiped
    (Needs (n ≤ user_data_limit) TooLong
    (Needs (¬ (s.next ≡ end_of_numbers)) Exhausted
    (λ code. (size : ℕ) × HasFrameSize s n (micros_of at) size
    × Needs (size ≤ room) Room (OrMemory IsDone) code))))

-- a record of this kind has these bytes after its first
abbrev pub HasRecord : ℕ → List ℕ → Type 0
HasRecord kind body = (r : RecordValue) × ((user : List ℕ) × IsRecordOf kind body r user)

-- of sealing a record
abbrev pub RecordAnswer : SealerState → ℕ → List ℕ → KrbMoment → ℕ → ℕ → Type 0
RecordAnswer s kind body at room =
    Needs (HasRecord kind body) Record (SealAnswer s (1 + length body) at room)

-- of the size of the frame of n bytes of user data
abbrev pub SizeAnswer : ℕ → KrbMoment → ℕ → Type 0
SizeAnswer n at = NeedsMoment at (Needs (n ≤ user_data_limit) TooLong IsDone)

-- of a mode
abbrev pub ModeAnswer : ℕ → ℕ → Type 0
ModeAnswer mode = Needs (IsMode mode) Mode IsDone

-- ---- opening

-- of opening a frame, which had this outcome
abbrev pub OutcomeAnswer : Outcome → ℕ → ℕ → Type 0
OutcomeAnswer (Ok user) room = Needs (length user ≤ room) Room IsDone
OutcomeAnswer (Err r) room = λ code. code ≡ fault_code (Refused r)

-- out of memory, which is answered only where memory is asked for
abbrev pub MemoryWhere : Type 0 → ℕ → Type 0
MemoryWhere Asks code = (code ≡ fault_code (Refused refusals.Memory)) × Asks

-- of opening a frame that carries a number, at a moment, into this much room
abbrev pub OpenAnswer : HeldOpener → ℕ → KrbMoment → List ℕ → ℕ → ℕ → Type 0
OpenAnswer None number at frame room = λ code. code ≡ fault_code Empty
OpenAnswer (Some None) number at frame room = λ code. code ≡ fault_code Wiped
OpenAnswer (Some (Some o)) number at frame room =
    NeedsMoment at (λ code. MemoryWhere (AsksForMemory o number (micros_of at) frame) code
    ⊎ ((outcome : Outcome)
    × Opens o number (micros_of at) frame outcome × OutcomeAnswer outcome room code))

-- of opening a frame with demands, which had this outcome
abbrev pub BodyAnswer : Authenticity → ℕ → ℕ → Type 0
BodyAnswer (Ok b) room = Needs (length b.user_data ≤ room) Room IsDone
BodyAnswer (Err r) room = λ code. code ≡ fault_code (Refused r)

-- of opening a frame with demands
abbrev pub DemandAnswer : HeldOpener → KrbDemand → KrbMoment → List ℕ → ℕ → ℕ → Type 0
DemandAnswer None d at frame room = λ code. code ≡ fault_code Empty
DemandAnswer (Some None) d at frame room = λ code. code ≡ fault_code Wiped
DemandAnswer (Some (Some o)) d at frame room =
    Needs (IsDemand d) Argument (NeedsMoment at (λ code. MemoryWhere (AsksWithoutDemands o frame) code
    ⊎ ((outcome : Authenticity) × OpensWith o d (micros_of at) frame outcome
    × BodyAnswer outcome room code)))

-- ---- receiving

-- of taking a frame on which this is the verdict: the bytes of a record after its first have room
abbrev pub VerdictAnswer : Verdict → ℕ → ℕ → Type 0
VerdictAnswer (Ok delivery) room =
    Needs (length (bytes_of (record_of delivery)) ≤ 1 + room) Room IsDone
VerdictAnswer (Err r) room = λ code. code ≡ fault_code (Refused r)

-- of taking a frame at a moment into this much room
abbrev pub TakeAnswer : Option ReceiverState → KrbMoment → List ℕ → ℕ → ℕ → Type 0
TakeAnswer None at frame room = λ code. code ≡ fault_code Empty
TakeAnswer (Some s) at frame room =
    NeedsMoment at (λ code.
    MemoryWhere (TakesMemory s (micros_of at) frame) code
    ⊎ ((verdict : Verdict) × IsVerdict s.opener s.demand (micros_of at) frame verdict
    × VerdictAnswer verdict room code))

-- ---- making

-- of a key of n bytes
abbrev pub NeedsKey : ℤ → ℕ → (ℕ → Type 0) → ℕ → Type 0
NeedsKey etype n Then code =
    MatchOption (etype_of etype) (code ≡ fault_code Etype)
    (λ e. Needs (n ≡ key_size e) KeySize Then code)

-- of what is demanded or written, whose addresses have so many bytes, and which is as it ought to be
-- where it isn't read
abbrev pub SessionAnswer : Type 0 → ℕ → ℕ → ℕ → ℕ → Type 0
SessionAnswer IsWhole mode sender receiver =
    Needs IsWhole Argument (Needs (IsMode mode) Mode
    (Needs (HaveRoom sender receiver) Address (OrMemory IsDone)))

-- of making a sealer or an opener under a key of n bytes
abbrev pub NewAnswer : ℤ → ℕ → Type 0 → ℕ → ℕ → ℕ → ℕ → Type 0
NewAnswer etype n IsWhole mode sender receiver =
    NeedsKey etype n (SessionAnswer IsWhole mode sender receiver)

-- of making a receiver that demands this number next
abbrev pub ReceiverAnswer : ℕ → ℤ → ℕ → Type 0 → ℕ → ℕ → ℕ → ℕ → Type 0
ReceiverAnswer expected etype n IsWhole mode sender receiver =
    Needs (expected ≤ end_of_numbers) Argument (NewAnswer etype n IsWhole mode sender receiver)

-- of making a peer with a key of n bytes
abbrev pub PeerAnswer : ℤ → ℕ → KrbSession → KrbDemand → ℕ → Type 0
PeerAnswer etype n told d =
    Needs (IsPeerDemand d) Argument
    (NewAnswer etype n (IsSession told) told.mode told.sender.len told.receiver.len)

-- of making one that goes on from an export: it seals under the number that is next there
abbrev pub ResumeAnswer : ℤ → ℕ → KrbSession → KrbDemand → List ℕ → ℕ → Type 0
ResumeAnswer etype n told d state =
    Needs (CanResume told d state) Argument
    (λ code. (next : ℕ) × ((expected : ℕ) × Exports state next expected
    × Needs (¬ (next ≡ end_of_numbers)) Exhausted
    (NewAnswer etype n (IsSession told) told.mode told.sender.len told.receiver.len) code))

-- ---- without a key

-- of reading a header, which asks for no memory
abbrev pub HeaderAnswer : List ℕ → ℕ → Type 0
HeaderAnswer frame =
    Needs (length frame ≤ frame_limit) (Refused refusals.FieldTooLong)
    (Needs ((m : Message) × Spells m frame) (Refused refusals.Malformed) IsDone)

-- of writing the name or the text of an answer and a zero
abbrev pub TextAnswer : (Fault → List ℕ) → List ℕ → ℕ → ℕ → ℕ → Type 0
TextAnswer text ok number room code =
    (((bytes : List ℕ) → IsTextOf text ok number bytes → ⊥) × (code ≡ fault_code Argument))
    ⊎ ((bytes : List ℕ) × IsTextOf text ok number bytes
    × Needs (length bytes < room) Room IsDone code)
