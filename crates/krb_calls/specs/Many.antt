-- Which answer sealing several messages gives: that of one call after another.
use Rattle.std.specs.Prelude.{◌≡◌, ◌⊎◌, ℕ, zero, suc, ◌<◌, ◌≤◌, List, [], ◌∷◌, length, map, false, Result, Ok, Err}
use Rattle.std.specs.Global.{Vec}
use Rattle.krb_base.specs.Limits.{user_data_limit}
use Rattle.krb_seal.specs.Sealer.{SealerState, advanced, end_of_numbers}
use Rattle.krb_seal.specs.declared.refusal.Refusal.TheVariants as refusals
use Rattle.krb_bulk.specs.Many.{CanSeal, SealsInTurn}
use Rattle.krb_structs.specs.declared.fault.Fault.TheVariants.{Wiped, TooLong, Exhausted, Refused, Room}
use Rattle.krb_structs.specs.Fault.{Needs, fault_code}
use Rattle.krb_structs.specs.Moment.{IsTimed}
use Rattle.krb_structs.specs.Reasons.{NeedsMoment}
use Rattle.krb_calls.specs.declared.many_fault.ManyFault.{ManyFault}
use Rattle.krb_calls.specs.declared.many_fault.ManyFault.TheVariants.{Message, All}
use Rattle.krb_calls.specs.declared.unsealed.KrbUnsealed.{KrbUnsealed}
use Rattle.krb_calls.specs.Unsealed.{unsealed_of}
use Rattle.krb_calls.specs.Packed.{bytes_of}

-- A message isn't sealed next, and its own call answers so: of its conditions the first that doesn't
-- hold. Room and memory are no conditions of a message.
abbrev pub FailsNext : SealerState → KrbUnsealed → ℕ → Type 0
FailsNext s m =
    NeedsMoment m.at
    (Needs (s.wiped ≡ false) Wiped
    (Needs (length m.user_data.now ≤ user_data_limit) TooLong
    (Needs (¬ (s.next ≡ end_of_numbers)) Exhausted (λ code. ⊥))))

-- It can be sealed next.
abbrev pub IsSealable : SealerState → KrbUnsealed → Type 0
IsSealable s m = IsTimed m.at × CanSeal s (unsealed_of m)

-- All can be sealed, one after another.
abbrev pub AreSealable : SealerState → List KrbUnsealed → Type 0
AreSealable s [] = Unit {0}
AreSealable s (m ∷ ms) = IsSealable s m × AreSealable (advanced s) ms

-- The message with this index is the first that can't be, and this is its answer.
abbrev pub FailsFirst : SealerState → List KrbUnsealed → ℕ → ℕ → Type 0
FailsFirst s [] i code = ⊥
FailsFirst s (m ∷ ms) zero code = FailsNext s m code
FailsFirst s (m ∷ ms) (suc i) code = IsSealable s m × FailsFirst (advanced s) ms i code

-- The frames of all messages, one after another, are longer than the room.
abbrev pub LacksRoom : SealerState → List KrbUnsealed → ℕ → Type 0
LacksRoom s ms room =
    (frames : List (Vec ℕ)) × SealsInTurn s (map unsealed_of ms) frames
    × (room < length (bytes_of frames))

-- What sealing them into this much room answers. All can be sealed where they are, and where there
-- is no room or no memory.
abbrev pub ManyAnswer : SealerState → List KrbUnsealed → ℕ → Result (Unit {0}) ManyFault → Type 0
ManyAnswer s ms room (Ok done) = AreSealable s ms
ManyAnswer s ms room (Err (Message index fault)) = FailsFirst s ms index (fault_code fault)
ManyAnswer s ms room (Err (All fault)) =
    AreSealable s ms × ((fault ≡ Refused refusals.Memory)
    ⊎ ((fault ≡ Room) × LacksRoom s ms room))
