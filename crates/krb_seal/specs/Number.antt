-- The number of a frame that is refused by its number (RFC 4120 sections 3.4.2 and 3.5.2).
use Rattle.std.specs.Prelude.{◌≡◌, ℕ, List, Option, Some, None, Ok}
use Rattle.krb_seal.specs.declared.refusal.Refusal.TheVariants.{BadOrder}
use Rattle.krb_seal.specs.declared.unopened.Unopened.{Unopened}
use Rattle.krb_seal.specs.Opens.{OpenerState, Opens}

-- Opened at this number, the frame gives its data.
abbrev pub OpensAt : OpenerState → ℕ → List ℕ → ℕ → Type 0
OpensAt o now frame number = (user : List ℕ) × Opens o number now frame (Ok user)

-- The number at which the frame opens, or none if there is no such number.
abbrev pub IsItsNumber : OpenerState → ℕ → List ℕ → Option ℕ → Type 0
IsItsNumber o now frame None = (number : ℕ) → ¬ OpensAt o now frame number
IsItsNumber o now frame (Some number) = OpensAt o now frame number

-- If the frame is refused by its number, the number at which it opens is reported.
abbrev pub TellsNumber : OpenerState → ℕ → List ℕ → Unopened → Type 0
TellsNumber o now frame unopened =
    unopened.refusal ≡ BadOrder → IsItsNumber o now frame unopened.number

-- After another refusal no number is reported.
abbrev pub TellsNoOther : Unopened → Type 0
TellsNoOther unopened = ¬ (unopened.refusal ≡ BadOrder) → unopened.number ≡ None
