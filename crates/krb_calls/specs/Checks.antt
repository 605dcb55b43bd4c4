-- What looking at messages answers, before any is sealed.
use Rattle.std.specs.Prelude.{◌≡◌, ℕ, List, [], ◌∷◌, Bool, Result, Ok, Err}
use Rattle.krb_seal.specs.declared.seal_error.SealError.{SealError}
use Rattle.krb_seal.specs.Sealer.{SealerState}
use Rattle.krb_bulk.specs.Numbered.{CanSealAt, RefusesAt}
use Rattle.krb_structs.specs.Fault.{fault_code, fault_of}
use Rattle.krb_structs.specs.Moment.{IsTimed}
use Rattle.krb_structs.specs.Reasons.{NeedsMoment}
use Rattle.krb_calls.specs.declared.many_fault.ManyFault.{ManyFault}
use Rattle.krb_calls.specs.declared.many_fault.ManyFault.TheVariants as faults
use Rattle.krb_calls.specs.declared.unsealed.KrbUnsealed.{KrbUnsealed}
use Rattle.krb_calls.specs.Unsealed.{unsealed_of}
use Rattle.krb_calls.specs.Many.{AreSealable, FailsFirst}

-- A message can be sealed at a number, by a sealer that is wiped or not.
abbrev pub IsSealableAt : Bool → ℕ → KrbUnsealed → Type 0
IsSealableAt wiped number m = IsTimed m.at × CanSealAt wiped number (unsealed_of m)

-- It can't be, and this is the answer.
abbrev pub FailsAt : Bool → ℕ → KrbUnsealed → ℕ → Type 0
FailsAt wiped number m =
    NeedsMoment m.at (λ code. (why : SealError) × RefusesAt wiped number (unsealed_of m) why
    × (code ≡ fault_code (fault_of why)))

-- All can be sealed in turn, or one is the first that can't be.
abbrev pub ChecksMany : SealerState → List KrbUnsealed → Result (Unit {0}) ManyFault → Type 0
ChecksMany s ms (Ok done) = AreSealable s ms
ChecksMany s ms (Err (faults.Message index fault)) = FailsFirst s ms index (fault_code fault)
ChecksMany s ms (Err (faults.All fault)) = ⊥

-- Each has a moment.
abbrev pub AllTimed : List KrbUnsealed → Type 0
AllTimed [] = Unit {0}
AllTimed (m ∷ ms) = IsTimed m.at × AllTimed ms
