-- The first field of a struct that isn't as it has to be.
use Rattle.std.specs.Prelude.{◌≡◌, ◌⊎◌, ℕ, Option, Some, None}
use Rattle.krb_calls.specs.declared.field.Field.{Field}
use Rattle.krb_calls.specs.declared.field.Field.TheVariants.{Mode, Sender, Receiver, Reserved}
use Rattle.krb_calls.specs.declared.field.Field.TheVariants.{HowSender, HowReceiver, HowTime, HowNumber}
use Rattle.krb_calls.specs.declared.field.Field.TheVariants.{Number, Skew, NeedsTimeOrNumber}

-- as krbrelay.h numbers them
abbrev pub number_of : Field → ℕ
number_of Mode = 1
number_of Sender = 2
number_of Receiver = 3
number_of Reserved = 4
number_of HowSender = 5
number_of HowReceiver = 6
number_of HowTime = 7
number_of HowNumber = 8
number_of Number = 9
number_of Skew = 10
number_of NeedsTimeOrNumber = 11

-- 0 where there is none
abbrev pub number_told : Option Field → ℕ
number_told None = 0
number_told (Some field) = number_of field

-- Where the condition doesn't hold it is this field, and else as Then says.
abbrev pub Needs : Type 0 → Field → (Option Field → Type 0) → Option Field → Type 0
Needs Condition field Then found =
    ((Condition → ⊥) × (found ≡ Some field)) ⊎ (Condition × Then found)

-- Each field is as it has to be.
abbrev pub IsNone : Option Field → Type 0
IsNone found = found ≡ None
