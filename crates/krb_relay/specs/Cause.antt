-- Why a relay stops: numbers and words.
use Rattle.std.specs.Prelude.{ℕ, List, codes, ◌++◌}
use Rattle.std.specs.Fmt.{decimal}
use Rattle.krb_peers.specs.declared.start.StartError.{StartError}
use Rattle.krb_peers.specs.declared.start.StartError.TheVariants as start
use Rattle.krb_relay.specs.declared.cause.Cause.{Cause}
use Rattle.krb_relay.specs.declared.cause.Cause.TheVariants.{Memory, Spawn, Lost, BadPlan, Wiped}
use Rattle.krb_relay.specs.declared.cause.OwnCause.{OwnCause}
use Rattle.krb_relay.specs.declared.cause.OwnCause.TheVariants as own

-- The number of a cause.
abbrev pub code_of : Cause → ℕ
code_of Memory = 1
code_of Spawn = 2
code_of Lost = 3
code_of BadPlan = 4
code_of Wiped = 5

-- The words that are printed of it.
abbrev pub words_of : Cause → List ℕ
words_of Memory = codes "out of memory"
words_of Spawn = codes "no thread could be started"
words_of Lost = codes "the other end of the lane is gone"
words_of BadPlan = codes "the plan names what the frames don't have"
words_of Wiped = codes "the sealer was wiped"

-- The words that are printed of a fault.
abbrev pub words_at : ℕ → Cause → List ℕ
words_at lane cause = codes "lane " ++ decimal lane ++ codes ": " ++ words_of cause

-- A cause of the calling thread, as one of all causes.
abbrev pub cause_of : OwnCause → Cause
cause_of own.Memory = Memory
cause_of own.Spawn = Spawn
cause_of own.Lost = Lost

-- Why nothing of a lane could be sent, as one of all causes.
abbrev pub cause_of_start : StartError → Cause
cause_of_start start.Memory = Memory
cause_of_start (start.BadPlan lane) = BadPlan
cause_of_start (start.Wiped lane) = Wiped
