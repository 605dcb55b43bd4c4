-- What opening a frame gives.
use Rattle.std.specs.Prelude.{ℕ, ◌≡◌, List, Option, Some, None, Ok}
use Rattle.krb_der.specs.declared.body.Body.{Body}
use Rattle.krb_seal.specs.Opens.{OpenerState, Opens}
use Rattle.krb_seal.specs.OpensParts.{Outcome}
use Rattle.krb_seal.specs.Authentic.{Authenticates, Authenticity}
use Rattle.krb_structs.specs.declared.demand.KrbDemand.{KrbDemand}
use Rattle.krb_structs.specs.declared.carried.KrbCarried.{KrbCarried}
use Rattle.krb_structs.specs.Demand.{MeetsAllButNumber, OpensWith}
use Rattle.krb_structs.specs.Carried.{carried_of}

-- what is left of an opener in its place: nothing where there is none, and of one that was wiped none
abbrev pub HeldOpener : Type 0
HeldOpener = Option (Option OpenerState)

-- there is a live opener, and opening gives this outcome
abbrev pub OpensTo : HeldOpener → ℕ → ℕ → List ℕ → Outcome → Type 0
OpensTo None number now frame outcome = ⊥
OpensTo (Some None) number now frame outcome = ⊥
OpensTo (Some (Some o)) number now frame outcome = Opens o number now frame outcome

-- opening with demands gives a body with this user data, and what else it carried is reported
abbrev pub Gives : OpenerState → KrbDemand → ℕ → List ℕ → List ℕ → KrbCarried → Type 0
Gives o d now frame user told =
    (b : Body) × OpensWith o d now frame (Ok b) × (user ≡ b.user_data) × (told ≡ carried_of b)

-- the same of a place with a live opener
abbrev pub GivesTo : HeldOpener → KrbDemand → ℕ → List ℕ → List ℕ → KrbCarried → Type 0
GivesTo None d now frame user told = ⊥
GivesTo (Some None) d now frame user told = ⊥
GivesTo (Some (Some o)) d now frame user told = Gives o d now frame user told

-- the frame is authentic, its body meets all of a demand but its number, and what it carried is
-- reported
abbrev pub Misorders : OpenerState → KrbDemand → ℕ → List ℕ → KrbCarried → Type 0
Misorders o d now frame told =
    (b : Body) × Authenticates o frame (Ok b) × MeetsAllButNumber d now b × (told ≡ carried_of b)

-- the same of a place with a live opener
abbrev pub MisordersTo : HeldOpener → KrbDemand → ℕ → List ℕ → KrbCarried → Type 0
MisordersTo None d now frame told = ⊥
MisordersTo (Some None) d now frame told = ⊥
MisordersTo (Some (Some o)) d now frame told = Misorders o d now frame told

-- there is a live opener, and opening with demands gives this outcome
abbrev pub OpensWithTo : HeldOpener → KrbDemand → ℕ → List ℕ → Authenticity → Type 0
OpensWithTo None d now frame outcome = ⊥
OpensWithTo (Some None) d now frame outcome = ⊥
OpensWithTo (Some (Some o)) d now frame outcome = OpensWith o d now frame outcome
