-- What a text reads as by its digits.
use Rattle.std.specs.Prelude.{◌≡◌, ℕ, ◌<◌, ◌≤◌, List, length, Bool, true, false, not, Ok, IsErr, Option}
use Rattle.hex.specs.Hex.{decode_of}
use Rattle.krb_base.specs.Limits.{frame_limit}
use Rattle.krb_der.specs.Message.{Spells}
use Rattle.krb_der.specs.declared.message.Message.{Message}
use Rattle.krb_etype.specs.TypedKey.{TypedKey}
use Rattle.krb_commands.specs.Key.{IsInside}
use Rattle.krb_commands.specs.declared.inside.Inside.{Inside}
use Rattle.krb_commands.specs.declared.inside.Inside.TheVariants.{Unasked, Opened, Refused}
use Rattle.krb_commands.specs.declared.reading.Reading.{Reading}
use Rattle.krb_commands.specs.declared.reading.Reading.TheVariants as read

-- the digits are an even number, in either case, and these are their bytes
abbrev pub HasBytes : List ℕ → List ℕ → Type 0
HasBytes digits bytes = decode_of digits ≡ Ok bytes

-- the bytes are no more than a message may have, and spell none
pub record SpellsNothing (bytes : List ℕ) : Type 0 where
  pub short : length bytes ≤ frame_limit
  pub nothing : (message : Message) → ¬ Spells message bytes

-- by the key, where there is one
abbrev pub Reads : Option TypedKey → List ℕ → Reading → Type 0
Reads key digits (read.Message message inside) =
    (bytes : List ℕ) × HasBytes digits bytes × Spells message bytes
    × IsInside key message bytes inside
Reads key digits read.Malformed = (bytes : List ℕ) × HasBytes digits bytes × SpellsNothing bytes
Reads key digits read.TooLong =
    (bytes : List ℕ) × HasBytes digits bytes × (frame_limit < length bytes)
Reads key digits read.NotHexadecimal = IsErr (decode_of digits)

-- the digits spell a message
abbrev pub SpellsMessage : List ℕ → Type 0
SpellsMessage digits =
    (message : Message) × (bytes : List ℕ) × HasBytes digits bytes × Spells message bytes

abbrev pub is_message : Reading → Bool
is_message (read.Message message inside) = true
is_message read.Malformed = false
is_message read.TooLong = false
is_message read.NotHexadecimal = false

abbrev pub is_refused : Inside → Bool
is_refused Unasked = false
is_refused (Opened body) = false
is_refused (Refused refusal) = true

-- it is a message, which no key refuses
abbrev pub is_accepted : Reading → Bool
is_accepted (read.Message message inside) = not (is_refused inside)
is_accepted read.Malformed = false
is_accepted read.TooLong = false
is_accepted read.NotHexadecimal = false
