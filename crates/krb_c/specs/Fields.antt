-- Which field C is answered.
use Rattle.std.specs.Prelude.{◌≡◌, ℕ, Option}
use Rattle.krb_calls.specs.declared.field.Field.{Field}
use Rattle.krb_calls.specs.Field.{number_told}

-- the number is that of the field, or 0 where there is none
abbrev pub Tells : (Option Field → Type 0) → ℕ → Type 0
Tells Found number = (found : Option Field) × Found found × (number ≡ number_told found)
