-- Why a relay of a job stops, as a fault.
use Rattle.std.specs.Prelude.{ℕ}
use Rattle.krb_relay.specs.declared.cause.Cause.{Cause}
use Rattle.krb_relay.specs.declared.cause.Cause.TheVariants as cause
use Rattle.krb_commands.specs.declared.fault.Fault.{Fault}
use Rattle.krb_commands.specs.declared.fault.Fault.TheVariants as fault
use Rattle.krb_commands.specs.Fault.{bad_plan}

-- no sealer was wiped
abbrev pub IsLiveCause : Cause → Type 0
IsLiveCause cause.Wiped = ⊥
IsLiveCause other = Unit {0}

-- why a relay stopped at a lane, where so many lines are printed
abbrev pub of_relay : Cause → ℕ → ℕ → Fault
of_relay cause.Memory lane lines = fault.Stopped lines
of_relay cause.Spawn lane lines = fault.Thread lines
of_relay cause.Lost lane lines = fault.Thread lines
of_relay cause.BadPlan lane lines = fault.BadInput (bad_plan lane)
of_relay cause.Wiped lane lines = fault.Memory

-- any but a fault of reading
abbrev pub IsOfRelaying : Fault → Type 0
IsOfRelaying fault.TooLong = ⊥
IsOfRelaying (fault.Key key) = ⊥
IsOfRelaying fault.Read = ⊥
IsOfRelaying other = Unit {0}
