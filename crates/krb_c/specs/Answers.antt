-- Which answer the calls of a sealer's handle give.
use Rattle.std.specs.Prelude.{ℕ, ◌≡◌, List, Option, Some, None}
use Rattle.krb_seal.specs.Sealer.{SealerState}
use Rattle.krb_structs.specs.declared.fault.Fault.TheVariants.{Empty}
use Rattle.krb_structs.specs.declared.moment.KrbMoment.{KrbMoment}
use Rattle.krb_structs.specs.Fault.{fault_code}
use Rattle.krb_structs.specs.Reasons.{ModeAnswer, RecordAnswer, SealAnswer, SizeAnswer}

-- of sealing: the handle holds nothing, or as its sealer answers
abbrev pub SealAnswerBy : Option SealerState → ℕ → KrbMoment → ℕ → ℕ → Type 0
SealAnswerBy None n at room code = code ≡ fault_code Empty
SealAnswerBy (Some s) n at room code = SealAnswer s n at room code

-- of sealing a record
abbrev pub RecordAnswerBy : Option SealerState → ℕ → List ℕ → KrbMoment → ℕ → ℕ → Type 0
RecordAnswerBy None kind body at room code = code ≡ fault_code Empty
RecordAnswerBy (Some s) kind body at room code = RecordAnswer s kind body at room code

-- of the size of a frame
abbrev pub SizeAnswerBy : Option SealerState → ℕ → KrbMoment → ℕ → Type 0
SizeAnswerBy None n at code = code ≡ fault_code Empty
SizeAnswerBy (Some s) n at code = SizeAnswer n at code

-- of a mode
abbrev pub ModeAnswerBy : Option SealerState → ℕ → ℕ → Type 0
ModeAnswerBy None mode code = code ≡ fault_code Empty
ModeAnswerBy (Some s) mode code = ModeAnswer mode code
