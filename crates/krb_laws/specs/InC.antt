-- What a call in C answers of a frame that it takes.
use Rattle.std.specs.Prelude.{◌≡◌, ◌⊎◌, ℕ, List, Option, Some, None, Ok, Err}
use Rattle.krb_seal.specs.declared.refusal.Refusal.TheVariants.{Memory}
use Rattle.krb_peers.specs.ReceiverState.{ReceiverState}
use Rattle.krb_peers.specs.Verdicts.{Verdict}
use Rattle.krb_structs.specs.declared.fault.Fault.TheVariants as faults
use Rattle.krb_structs.specs.declared.moment.KrbMoment.{KrbMoment}
use Rattle.krb_structs.specs.Fault.{fault_code}
use Rattle.krb_structs.specs.Moment.{micros_of}
use Rattle.krb_structs.specs.Reasons.{TakeAnswer}
use Rattle.krb_structs.specs.Record.{Accepts}
use Rattle.krb_peers.specs.Calls.{Moves}

-- Of the numbers that C is answered, no verdict are out of memory, too little room for the record, a
-- moment that is none, and an argument that is none.
abbrev pub AnswersCode : ℕ → Option Verdict → Type 0
AnswersCode code None =
    (code ≡ fault_code (faults.Refused Memory)) ⊎ ((code ≡ fault_code faults.Room)
    ⊎ ((code ≡ fault_code faults.Moment) ⊎ (code ≡ fault_code faults.Argument)))
AnswersCode code (Some (Ok delivery)) = code ≡ 0
AnswersCode code (Some (Err refusal)) = code ≡ fault_code (faults.Refused refusal)

-- the frame is accepted, whatever is written of its record
abbrev pub AcceptsSome : ReceiverState → ℕ → List ℕ → ReceiverState → Type 0
AcceptsSome before now frame after =
    (kind : ℕ) × ((body : List ℕ) × Accepts before now frame kind body after)

-- so what a call answers, and what it leaves, is a call of a loop
abbrev pub CallsAreTakesInC : Type 0
CallsAreTakesInC =
    (before after : ReceiverState) (at : KrbMoment) (frame : List ℕ) (room code : ℕ)
    → TakeAnswer (Some before) at frame room code
    → (code ≡ 0 → AcceptsSome before (micros_of at) frame after)
    → (¬ (code ≡ 0) → after ≡ before)
    → (verdict : Option Verdict) × AnswersCode code verdict
    × Moves before (micros_of at) frame verdict after
