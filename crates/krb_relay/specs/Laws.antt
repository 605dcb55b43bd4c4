-- Laws of a relay that stops.
use Rattle.std.specs.Prelude.{◌≡◌, ◌<◌, ◌⊎◌, ℕ, true, List, [], slice_get, Some}
use Rattle.krb_peers.specs.Ends.{Ends}
use Rattle.krb_peers.specs.LogState.{LogState}
use Rattle.krb_peers.specs.Run.{Run}
use Rattle.krb_peers.specs.Wire.{IsWire, IsBad}
use Rattle.krb_relay.specs.declared.cause.Cause.{Cause}
use Rattle.krb_relay.specs.declared.cause.Cause.TheVariants.{BadPlan, Wiped}
use Rattle.krb_relay.specs.Relayed.{StopsRelay}

-- a cause that is in what a sender was given
abbrev pub IsOfSender : Cause → Type 0
IsOfSender cause = (cause ≡ BadPlan) ⊎ (cause ≡ Wiped)

-- The plan of the lane that is named for a bad one is bad.
abbrev pub BadPlanIsTrue : Type 0
BadPlanIsTrue =
    (lanes : List Ends) (log : LogState) (lane : ℕ) → StopsRelay lanes log lane BadPlan
    → (ends : Ends) × (slice_get lanes lane ≡ Some ends) × IsBad ends.source

-- The sealer of the lane that is named for it was wiped.
abbrev pub WipedIsTrue : Type 0
WipedIsTrue =
    (lanes : List Ends) (log : LogState) (lane : ℕ) → StopsRelay lanes log lane Wiped
    → (ends : Ends) × (slice_get lanes lane ≡ Some ends) × (ends.source.sealer.wiped ≡ true)

-- Nothing was taken of the lane that is named.
abbrev pub NothingOfTheNamed : Type 0
NothingOfTheNamed =
    (lanes : List Ends) (log : LogState) (lane : ℕ) (cause : Cause) → IsOfSender cause
    → (stops : StopsRelay lanes log lane cause)
    → (run : Run) → slice_get (stops.relayed.runs) lane ≡ Some run → run.took ≡ []

-- Of each lane below it all was taken that its wire carries.
abbrev pub AllBelowTheNamed : Type 0
AllBelowTheNamed =
    (lanes : List Ends) (log : LogState) (lane : ℕ) (cause : Cause) → IsOfSender cause
    → (stops : StopsRelay lanes log lane cause)
    → (other : ℕ) (run : Run) → other < lane → slice_get (stops.relayed.runs) other ≡ Some run
    → IsWire run.ends.source run.took
