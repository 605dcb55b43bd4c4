-- The numbers that the exports answer, and which one comes.
use Rattle.std.specs.Prelude.{◌≡◌, ◌⊎◌, ℕ, Result, Ok, Err}
use Rattle.krb_seal.specs.declared.refusal.Refusal.TheVariants as refusals
use Rattle.krb_seal.specs.declared.seal_error.SealError.{SealError}
use Rattle.krb_seal.specs.declared.seal_error.SealError.TheVariants as errors
use Rattle.krb_seal.specs.Refusal as refusal
use Rattle.krb_structs.specs.declared.fault.Fault.{Fault}
use Rattle.krb_structs.specs.declared.fault.Fault.TheVariants.{Wiped, TooLong, Exhausted, Refused, Etype}
use Rattle.krb_structs.specs.declared.fault.Fault.TheVariants.{Room, Empty, KeySize, Mode, Moment}
use Rattle.krb_structs.specs.declared.fault.Fault.TheVariants.{Address, Argument, Record, Repeated, TooOld}

-- refusals of frames, and out of memory, are 14 to 904
abbrev pub fault_code : Fault → ℕ
fault_code Wiped = 1
fault_code TooLong = 2
fault_code Exhausted = 3
fault_code (Refused r) = refusal.code_of r
fault_code Etype = 905
fault_code Room = 906
fault_code Empty = 907
fault_code KeySize = 908
fault_code Mode = 909
fault_code Moment = 910
fault_code Address = 911
fault_code Argument = 912
fault_code Record = 913
fault_code Repeated = 917
fault_code TooOld = 918

-- a sealer's error
abbrev pub fault_of : SealError → Fault
fault_of errors.Wiped = Wiped
fault_of errors.TooLong = TooLong
fault_of errors.Exhausted = Exhausted
fault_of errors.Memory = Refused refusals.Memory

-- ---- which answer comes

-- what a result is answered by: 0, or the number of its fault
abbrev pub answer_of : {A : Type 0} → Result A Fault → ℕ
answer_of (Ok x) = 0
answer_of (Err f) = fault_code f

-- it was done
abbrev pub IsDone : ℕ → Type 0
IsDone code = code ≡ 0

-- Where the condition holds, as Then says, and else this fault. A call's answer is such a row of
-- conditions: the fault of the first that doesn't hold.
abbrev pub Needs : Type 0 → Fault → (ℕ → Type 0) → ℕ → Type 0
Needs Condition fault Then code =
    ((Condition → ⊥) × (code ≡ fault_code fault)) ⊎ (Condition × Then code)

-- out of memory, or as Then says
abbrev pub OrMemory : (ℕ → Type 0) → ℕ → Type 0
OrMemory Then code = (code ≡ fault_code (Refused refusals.Memory)) ⊎ Then code
