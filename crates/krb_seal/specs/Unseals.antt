-- What opening returns: an outcome, or out of memory.
use Rattle.std.specs.Prelude.{◌≡◌, ℕ, [], ◌∷◌, Option, Some, None, Result, Ok, Err, true, false}
use Rattle.std.specs.Prelude.{◌⊎◌}
use Rattle.std.specs.Global.{Vec}
use Rattle.krb_seal.specs.declared.refusal.Refusal.{Refusal}
use Rattle.krb_seal.specs.declared.refusal.Refusal.TheVariants.{Memory}
use Rattle.krb_seal.specs.declared.unopened.Unopened.{Unopened}
use Rattle.krb_seal.specs.OpensParts.{Outcome, Checks}

-- The user data of a `Vec`, or the refusal.
abbrev pub seen : Result (Vec ℕ) Refusal → Outcome
seen (Ok v) = Ok v.items
seen (Err r) = Err r

-- The refusal alone of what tells a number too.
abbrev pub untold : {A : Type 0} → Result A Unopened → Result A Refusal
untold (Ok x) = Ok x
untold (Err unopened) = Err unopened.refusal

-- The call ran out of memory, or its result is as Gives says.
abbrev pub OrMemory : {A : Type 0} → (Result A Refusal → Type 0) → Result A Refusal → Type 0
OrMemory Gives result = (result ≡ Err Memory) ⊎ Gives result

-- The first refusal of a list of checks.
abbrev pub first_unmet : Checks → Option Refusal
first_unmet [] = None
first_unmet ((true, r) ∷ rest) = first_unmet rest
first_unmet ((false, r) ∷ rest) = Some r

-- What a function that makes checks returns.
abbrev pub refusal_of : {A : Type 0} → Result A Refusal → Option Refusal
refusal_of (Ok x) = None
refusal_of (Err r) = Some r

-- A function made these checks: it refuses by the first that isn't met, if there is one.
abbrev pub Checked : {A : Type 0} → Checks → Result A Refusal → Type 0
Checked checks result = first_unmet checks ≡ refusal_of result
