-- What `relay` does, for each input.
use Rattle.std.specs.Prelude.{◌≡◌, ◌⊎◌, List, ℕ, map, Option, Some, Ok, Err}
use Rattle.std.specs.Io.KnownBytes.{Keeps}
use Rattle.krb_peers.specs.Ends.{Ends}
use Rattle.krb_job.specs.declared.bad_input.BadInput.{BadInput}
use Rattle.krb_job.specs.Job.{Job}
use Rattle.krb_commands.specs.Fault.{bad_plan}
use Rattle.krb_commands.specs.Ends.{lane_stated}
use Rattle.krb_commands.specs.Parsed.{Parsed}
use Rattle.krb_program.specs.Relayed.{HasBadPlanFirst, PrintsRelayed, PrintsRelayedPrefix}
use Rattle.krb_program.specs.Relayed.{PrintsStopped}

-- these are the lanes of the job's senders
abbrev pub AreLanes : Job → List Ends → Type 0
AreLanes job lanes = map Some lanes ≡ map lane_stated job.senders

-- what the job's senders send is relayed, what became of it is printed, and this is the status
abbrev pub RelaysJob : Job → Option (List ℕ) → Option (List ℕ) → ℕ → Type 0
RelaysJob job old new status =
    (lanes : List Ends) × AreLanes job lanes × PrintsRelayed lanes old new status

-- a prefix of that, or nothing
abbrev pub RelaysJobPrefix : Job → Option (List ℕ) → Option (List ℕ) → Type 0
RelaysJobPrefix job old new =
    Keeps old new
    ⊎ ((lanes : List Ends) × AreLanes job lanes × PrintsRelayedPrefix lanes old new)

-- so many lines are printed: the outcome of each frame that was taken until the run stopped
abbrev pub StopsJob : Job → ℕ → Option (List ℕ) → Option (List ℕ) → Type 0
StopsJob job lines old new =
    (lanes : List Ends) × AreLanes job lanes × PrintsStopped lanes lines old new

-- the plan of a lane is bad, and of none before it
abbrev pub HasBadPlan : Job → BadInput → Type 0
HasBadPlan job bad =
    (lanes : List Ends) × (lane : ℕ) × AreLanes job lanes × (bad ≡ bad_plan lane)
    × HasBadPlanFirst lanes lane

abbrev pub RelaysParsed : Parsed → Option (List ℕ) → Option (List ℕ) → ℕ → Type 0
RelaysParsed parsed old new status = (job : Job) × (parsed ≡ Ok job) × RelaysJob job old new status

abbrev pub RelaysParsedPrefix : Parsed → Option (List ℕ) → Option (List ℕ) → Type 0
RelaysParsedPrefix parsed old new =
    Keeps old new ⊎ ((job : Job) × (parsed ≡ Ok job) × RelaysJobPrefix job old new)

abbrev pub StopsParsed : Parsed → ℕ → Option (List ℕ) → Option (List ℕ) → Type 0
StopsParsed parsed lines old new = (job : Job) × (parsed ≡ Ok job) × StopsJob job lines old new

-- a check that isn't passed, or a bad plan
abbrev pub IsBadToRelay : Parsed → BadInput → Type 0
IsBadToRelay parsed bad = (parsed ≡ Err bad) ⊎ ((job : Job) × (parsed ≡ Ok job) × HasBadPlan job bad)
