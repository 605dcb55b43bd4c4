-- What ends a run before its output is whole.
use Rattle.std.specs.Prelude.{ℕ}
use Rattle.krb_peers.specs.declared.start.StartError.{StartError}
use Rattle.krb_peers.specs.declared.start.StartError.TheVariants as start
use Rattle.krb_job.specs.declared.bad_input.BadInput.{BadInput}
use Rattle.krb_job.specs.declared.bad_input.BadInput.TheVariants as bad
use Rattle.krb_job.specs.declared.bad_input.JobError.{JobError}
use Rattle.krb_job.specs.declared.bad_input.JobError.TheVariants as job
use Rattle.krb_job.specs.declared.place.Place.TheVariants.{Plan}
use Rattle.krb_commands.specs.declared.fault.Fault.{Fault}
use Rattle.krb_commands.specs.declared.fault.Fault.TheVariants as fault

-- the exit status: 2 where the input is at fault, else 4
abbrev pub fault_status : Fault → ℕ
fault_status fault.TooLong = 2
fault_status (fault.BadInput b) = 2
fault_status (fault.Key k) = 2
fault_status fault.Memory = 4
fault_status (fault.Stopped lines) = 4
fault_status (fault.Thread lines) = 4
fault_status fault.Read = 4
fault_status fault.Write = 4

-- the plan of a sender names what its frames don't have
abbrev pub bad_plan : ℕ → BadInput
bad_plan lane = bad.InSender lane Plan

abbrev pub of_job : JobError → Fault
of_job (job.Bad b) = fault.BadInput b
of_job job.Memory = fault.Memory

-- no sealer was wiped
abbrev pub IsLive : StartError → Type 0
IsLive start.Memory = Unit {0}
IsLive (start.BadPlan lane) = Unit {0}
IsLive (start.Wiped lane) = ⊥

abbrev pub of_start : StartError → Fault
of_start start.Memory = fault.Memory
of_start (start.BadPlan lane) = fault.BadInput (bad_plan lane)
of_start (start.Wiped lane) = fault.Memory

-- a fault of reading an input
abbrev pub IsOfReading : Fault → Type 0
IsOfReading fault.TooLong = Unit {0}
IsOfReading fault.Memory = Unit {0}
IsOfReading fault.Read = Unit {0}
IsOfReading other = ⊥

-- a fault of reading a key
abbrev pub IsOfKey : Fault → Type 0
IsOfKey (fault.Key k) = Unit {0}
IsOfKey fault.Memory = Unit {0}
IsOfKey other = ⊥

-- a fault of printing
abbrev pub IsOfPrinting : Fault → Type 0
IsOfPrinting fault.Memory = Unit {0}
IsOfPrinting fault.Write = Unit {0}
IsOfPrinting other = ⊥

-- no check of a job
abbrev pub IsOfNoJob : Fault → Type 0
IsOfNoJob fault.TooLong = Unit {0}
IsOfNoJob fault.Memory = Unit {0}
IsOfNoJob fault.Read = Unit {0}
IsOfNoJob fault.Write = Unit {0}
IsOfNoJob other = ⊥

-- a bad plan, or a fault of printing
abbrev pub IsOfSealing : Fault → Type 0
IsOfSealing (fault.BadInput b) = Unit {0}
IsOfSealing fault.Memory = Unit {0}
IsOfSealing fault.Write = Unit {0}
IsOfSealing other = ⊥

-- out of memory while frames were taken, or a fault of printing
abbrev pub IsOfOpening : Fault → Type 0
IsOfOpening fault.Memory = Unit {0}
IsOfOpening (fault.Stopped lines) = Unit {0}
IsOfOpening fault.Write = Unit {0}
IsOfOpening other = ⊥

-- a fault of reading an input, or a check of the job that isn't passed
abbrev pub IsOfTelling : Fault → Type 0
IsOfTelling fault.TooLong = Unit {0}
IsOfTelling (fault.BadInput b) = Unit {0}
IsOfTelling fault.Memory = Unit {0}
IsOfTelling fault.Read = Unit {0}
IsOfTelling other = ⊥
