-- The key that a file holds, and what it opens.
use Rattle.std.specs.Prelude.{◌≡◌, ℕ, pos, false, List, [], length, Option, Some, None, Ok, Err}
use Rattle.std.specs.Prelude.{if◌then◌else◌, ◌==◌, option_and_then, option_map, ⊤}
use Rattle.std.specs.Borrow.{Bor}
use Rattle.std.specs.Result.{result_ok}
use Rattle.hex.specs.Hex.{decode_of}
use Rattle.krb_etype.specs.declared.etype.Etype.{Etype}
use Rattle.krb_etype.specs.Etype.{key_size, number_of}
use Rattle.krb_etype.specs.declared.etype.Etype.TheVariants.{Aes128, Aes256}
use Rattle.krb_etype.specs.TypedKey.{TypedKey, typed_key}
use Rattle.krb_der.specs.declared.address.HostAddress.{HostAddress}
use Rattle.krb_der.specs.declared.message.Message.{Message}
use Rattle.krb_der.specs.declared.message.Message.TheVariants as messages
use Rattle.krb_seal.specs.declared.session.Mode.{Mode}
use Rattle.krb_seal.specs.declared.session.Mode.TheVariants.{Safe, Priv}
use Rattle.krb_seal.specs.Authentic.{Authenticates}
use Rattle.krb_seal.specs.Opens.{OpenerState, opener_of}
use Rattle.krb_commands.specs.Digits.{digits_of}
use Rattle.krb_commands.specs.declared.inside.Inside.{Inside}
use Rattle.krb_commands.specs.declared.inside.Inside.TheVariants.{Unasked, Opened, Refused}

-- ---- the key of a file

-- the bytes as a key of this type, if they are as many as one has
abbrev pub key_of_type : Etype → List ℕ → Option TypedKey
key_of_type etype bytes =
    if length bytes == key_size etype then Some (typed_key etype bytes) else None

-- the first one if there is one, else the second
abbrev pub or_else : {A : Type 0} → Option A → Option A → Option A
or_else (Some x) other = Some x
or_else None other = other

-- the bytes as a key of the type whose keys are as long
abbrev pub key_of_bytes : List ℕ → Option TypedKey
key_of_bytes bytes = or_else (key_of_type Aes128 bytes) (key_of_type Aes256 bytes)

-- the key of a file: the bytes that its hexadecimal digits spell, or else the bytes of the file
abbrev pub key_in : List ℕ → Option TypedKey
key_in file =
    or_else (option_and_then key_of_bytes (result_ok (decode_of (digits_of file))))
    (key_of_bytes file)

-- no type is stated, or this one is
abbrev pub IsStated : Option Etype → Etype → Type 0
IsStated None etype = ⊤
IsStated (Some wanted) etype = etype ≡ wanted

-- the file holds a key, and another type than the key's is stated
abbrev pub HasOtherType : Option Etype → List ℕ → Type 0
HasOtherType stated file =
    (key : TypedKey) × (key_in file ≡ Some key) × (IsStated stated key.etype → ⊥)

-- ---- what it opens

-- the key that is referred to, if there is one
abbrev pub key_of : Option (Bor TypedKey) → Option TypedKey
key_of key = option_map (λ k. k.now) key

abbrev pub nobody : HostAddress
nobody = record { kind = pos 0; bytes = [] }

-- an opener that demands nothing but the kind of message
abbrev pub opener_under : TypedKey → Mode → OpenerState
opener_under key mode = opener_of (number_of key.etype) key.bytes (record {
  mode = mode;
  s_addr = nobody;
  r_addr = nobody;
  require_r = false;
  expect_time = false;
  skew = 0;
})

abbrev pub mode_of : Message → Mode
mode_of (messages.Safe m) = Safe
mode_of (messages.Priv m) = Priv

-- What is inside the message that the bytes spell. Without a key it isn't asked; under a key it is what
-- an opener that demands nothing gives.
abbrev pub IsInside : Option TypedKey → Message → List ℕ → Inside → Type 0
IsInside None message bytes Unasked = ⊤
IsInside None message bytes (Opened body) = ⊥
IsInside None message bytes (Refused refusal) = ⊥
IsInside (Some key) message bytes Unasked = ⊥
IsInside (Some key) message bytes (Opened body) =
    Authenticates (opener_under key (mode_of message)) bytes (Ok body)
IsInside (Some key) message bytes (Refused refusal) =
    Authenticates (opener_under key (mode_of message)) bytes (Err refusal)
