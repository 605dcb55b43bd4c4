-- The number of a message, as C gets it.
use Rattle.std.specs.Prelude.{◌≡◌, ℕ, List, Option, Some, None}
use Rattle.krb_seal.specs.Opens.{OpenerState}
use Rattle.krb_seal.specs.Number.{IsItsNumber}

-- the highest number of 64 bits where there is none
abbrev pub number_told : Option ℕ → ℕ
number_told None = 0xFFFFFFFFFFFFFFFF
number_told (Some number) = number

-- the number at which a frame opens
abbrev pub TellsItsNumber : OpenerState → ℕ → List ℕ → ℕ → Type 0
TellsItsNumber opener now frame told =
    (number : Option ℕ) × IsItsNumber opener now frame number × (told ≡ number_told number)
