-- The encryption types: each with its number, the number of its checksum (RFC 3962 section 7) and
-- the size of its keys (RFC 3962 section 6). All are total over the types; a number that no type
-- has is taken for none.
use Rattle.std.specs.Prelude.{ℕ, ℤ, pos, Bool, false, Option, Some, None, if◌then◌else◌}
use Rattle.std.specs.Ordering.{int_eq}
use Rattle.krb_etype.specs.declared.etype.Etype.{Etype}
use Rattle.krb_etype.specs.declared.etype.Etype.TheVariants.{Aes128, Aes256}

abbrev pub number_of : Etype → ℤ
number_of Aes128 = pos 17
number_of Aes256 = pos 18

abbrev pub checksum_number : Etype → ℤ
checksum_number Aes128 = pos 15
checksum_number Aes256 = pos 16

-- How many bytes a session key has.
abbrev pub key_size : Etype → ℕ
key_size Aes128 = 16
key_size Aes256 = 32

-- How many bytes of a confounder come before what is enciphered: a block (RFC 3961 section 5.3).
abbrev pub confounder_size : ℕ
confounder_size = 16

-- How many bytes of the HMAC are the code of a message, under each type (RFC 3962 section 6).
abbrev pub code_size : ℕ
code_size = 12

-- The type that has a number, if one has it.
abbrev pub etype_of : ℤ → Option Etype
etype_of number =
    if int_eq number (number_of Aes128) then Some Aes128 else
    if int_eq number (number_of Aes256) then Some Aes256 else None

-- The number is that of the type's checksum. Without a type there is none.
abbrev pub is_checksum_of : Option Etype → ℤ → Bool
is_checksum_of None number = false
is_checksum_of (Some etype) number = int_eq number (checksum_number etype)
