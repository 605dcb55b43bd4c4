-- What a worker sends of its sender's wire.
use Rattle.std.specs.Prelude.{◌≡◌, ℕ, ◌-◌, ◌⊎◌, Bool, true, false, List, [], length, take}
use Rattle.std.specs.Prelude.{Option, Some, None}
use Rattle.krb_lane.specs.Side.{Side}
use Rattle.krb_peers.specs.Plan.{wire}
use Rattle.krb_peers.specs.Sender.{Source, records}
use Rattle.krb_peers.specs.Sending.{HasSealedSome}
use Rattle.krb_peers.specs.Wire.{IsWire, IsBad}
use Rattle.krb_relay.specs.declared.cause.Cause.{Cause}
use Rattle.krb_relay.specs.declared.cause.Cause.TheVariants.{Memory, BadPlan, Wiped}
use Rattle.krb_relay.specs.declared.worker.Handed.{Handed}

-- under a plan nothing is sent before all records are sealed
abbrev pub WaitsForAll : Source → ℕ → List (List ℕ) → Type 0
WaitsForAll source count sent =
    (source.plan ≡ None) ⊎ (count ≡ length (records source)) ⊎ (sent ≡ [])

-- of the wire that the first `count` records make, these are the first n frames
pub record IsFront (source : Source) (count : ℕ) (sent : List (List ℕ)) : Type 0 where
  pub some : HasSealedSome source count
  pub n : ℕ
  pub taken : sent ≡ take n (wire (some.frames) source.plan)
  pub waits : WaitsForAll source count sent

-- all that the wire carries, under a sealer that wasn't wiped
pub record IsAll (source : Source) (sent : List (List ℕ)) : Type 0 where
  pub live : source.sealer.wiped ≡ false
  pub emits : IsWire source sent

-- a cause that names its sender is true of it, and then nothing is sent
abbrev pub IsTrueOf : Source → List (List ℕ) → Cause → Type 0
IsTrueOf source sent Wiped = (source.sealer.wiped ≡ true) × (sent ≡ [])
IsTrueOf source sent BadPlan = (source.sealer.wiped ≡ false) × IsBad source × (sent ≡ [])
IsTrueOf source sent cause = Unit {0}

-- so many records were sealed, a prefix of their wire was sent, and the cause says why no more was
pub record IsCut (source : Source) (count : ℕ) (sent : List (List ℕ)) (cause : Cause) : Type 0 where
  pub front : IsFront source count sent
  pub reason : IsTrueOf source sent cause

-- all was sealed and sent if there is no cause
abbrev pub Sends : Source → ℕ → List (List ℕ) → Option Cause → Type 0
Sends source count sent None = (count ≡ length (records source)) × IsAll source sent
Sends source count sent (Some cause) = IsCut source count sent cause

-- how many records were sealed from one state of a sender to the next
abbrev pub sealed_since : Source → Source → ℕ
sealed_since old new = new.sealer.next - old.sealer.next

-- what a worker returns of its sender and its lane
pub record Served (source : Source) (tx : Side) (handed : Handed) : Type 0 where
  pub lane : handed.all.lane ≡ tx.lane
  pub sends : Sends source handed.sealed handed.all.frames handed.cause

-- a seal call fails if the sealer was wiped or memory ran out
abbrev pub IsOfSealing : Bool → Cause → Type 0
IsOfSealing wiped Wiped = wiped ≡ true
IsOfSealing wiped Memory = Unit {0}
IsOfSealing wiped cause = ⊥
