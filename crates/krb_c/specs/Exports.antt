-- What the exports answer.
use Rattle.std.specs.Prelude.{ℕ, ◌≡◌, List, Option, Some, None, Bool, if◌then◌else◌}
use Rattle.krb_seal.specs.Sealer.{SealerState, SealsNext, advanced, in_mode, wiped_state}
use Rattle.krb_seal.specs.declared.session.Mode.{Mode}
use Rattle.krb_seal.specs.Opens.{OpenerState}
use Rattle.krb_peers.specs.ReceiverState.{ReceiverState}
use Rattle.krb_structs.specs.declared.moment.KrbMoment.{KrbMoment}
use Rattle.krb_structs.specs.Number.{TellsItsNumber}
use Rattle.krb_structs.specs.Opening.{HeldOpener}
use Rattle.krb_structs.specs.Record.{Accepts, SealsRecord}
use Rattle.krb_structs.specs.Sealing.{SizesNext}

-- the handle holds a sealer, and the bytes are the frame of this data at its next number
abbrev pub SealsTo : Option SealerState → List ℕ → ℕ → List ℕ → List ℕ → Type 0
SealsTo None user at conf frame = ⊥
SealsTo (Some s) user at conf frame = SealsNext s user at conf frame

-- the handle holds a sealer, and the bytes seal such a record at its next number
abbrev pub SealsRecordTo : Option SealerState → ℕ → List ℕ → ℕ → List ℕ → List ℕ → Type 0
SealsRecordTo None kind body at conf frame = ⊥
SealsRecordTo (Some s) kind body at conf frame = SealsRecord s kind body at conf frame

-- a handle with a sealer that sealed one frame more
abbrev pub advanced_if : Option SealerState → Option SealerState
advanced_if None = None
advanced_if (Some s) = Some (advanced s)

-- a handle with a sealer that goes on in this mode
abbrev pub in_mode_if : Option SealerState → Mode → Option SealerState
in_mode_if None mode = None
in_mode_if (Some s) mode = Some (in_mode s mode)

-- a handle with a sealer whose keys are overwritten
abbrev pub wiped_if : Option SealerState → Option SealerState
wiped_if None = None
wiped_if (Some s) = Some (wiped_state s)

-- the handle holds a sealer with this next number
abbrev pub IsNext : Option SealerState → ℕ → Type 0
IsNext None n = ⊥
IsNext (Some s) n = s.next ≡ n

-- the handle holds a sealer, and this is the size of its next frame
abbrev pub IsNextSize : Option SealerState → ℕ → KrbMoment → ℕ → Type 0
IsNextSize None n at size = ⊥
IsNextSize (Some s) n at size = SizesNext s n at size

-- a handle with a receiver that demands this number, or none after a close
abbrev pub Demands : Option ReceiverState → OpenerState → ℕ → Bool → Type 0
Demands None o expected closed = ⊥
Demands (Some s) o expected closed =
    (s.opener ≡ o) × (s.demand.expected ≡ expected) × (s.demand.closed ≡ closed)

-- the handle holds a receiver in this state
abbrev pub IsDemanding : Option ReceiverState → ℕ → ℕ → Type 0
IsDemanding None expected closed = ⊥
IsDemanding (Some s) expected closed =
    (s.demand.expected ≡ expected) × (closed ≡ (if s.demand.closed then 1 else 0))

-- the handle holds a receiver, which accepts a frame and is this one then
abbrev pub AcceptsTo : Option ReceiverState → ℕ → List ℕ → ℕ → List ℕ → Option ReceiverState
    → Type 0
AcceptsTo None now frame kind body new = ⊥
AcceptsTo (Some old) now frame kind body None = ⊥
AcceptsTo (Some old) now frame kind body (Some new) = Accepts old now frame kind body new

-- the handle holds a receiver, which demands this number
abbrev pub IsDemanded : Option ReceiverState → ℕ → Type 0
IsDemanded None number = ⊥
IsDemanded (Some s) number = number ≡ s.demand.expected

-- the handle holds a receiver, and C gets this for the number at which a frame opens
abbrev pub TellsNumberTo : Option ReceiverState → ℕ → List ℕ → ℕ → Type 0
TellsNumberTo None now frame told = ⊥
TellsNumberTo (Some s) now frame told = TellsItsNumber s.opener now frame told

-- a handle with an opener whose keys are overwritten
abbrev pub opener_wiped_if : HeldOpener → HeldOpener
opener_wiped_if None = None
opener_wiped_if (Some o) = Some None
