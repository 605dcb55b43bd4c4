-- What the values of a job stand for.
use Rattle.std.specs.Prelude.{ℕ, pos, nat_le, Bool, ◌&&◌, List, length, codes, Option, Some, None}
use Rattle.std.specs.Prelude.{if◌then◌else◌}
use Rattle.std.specs.Result.{result_ok}
use Rattle.std.specs.List.{list_any}
use Rattle.std.specs.Str.{bytes_eq}
use Rattle.toml.specs.Data.{Data, string, integer, boolean}
use Rattle.hex.specs.Hex.{decode_of, decode_sized}
use Rattle.krb_etype.specs.declared.etype.Etype.{Etype}
use Rattle.krb_seal.specs.declared.session.Mode.{Mode}
use Rattle.krb_seal.specs.declared.session.Mode.TheVariants as modes
use Rattle.krb_etype.specs.Etype as etypes
use Rattle.krb_base.specs.Steps.{◌>>=◌}

-- a whole number from low to high
abbrev pub number_of : ℕ → ℕ → Data → Option ℕ
number_of low high (integer (pos n)) = if nat_le low n && nat_le n high then Some n else None
number_of low high _ = None

-- the encryption type that has this number
abbrev pub etype_of : Data → Option Etype
etype_of (integer number) = etypes.etype_of number
etype_of _ = None

abbrev pub flag_of : Data → Option Bool
flag_of (boolean b) = Some b
flag_of _ = None

abbrev pub mode_named : List ℕ → Option Mode
mode_named text =
    if bytes_eq text (codes "safe") then Some modes.Safe
    else if bytes_eq text (codes "priv") then Some modes.Priv
    else None

abbrev pub mode_of : Data → Option Mode
mode_of (string text) = mode_named text
mode_of _ = None

-- bytes of which there are as many as allowed
abbrev pub sized : ℕ → ℕ → List ℕ → Option (List ℕ)
sized low high bytes =
    if nat_le low (length bytes) && nat_le (length bytes) high then Some bytes
    else None

-- the bytes of hexadecimal digits, low to high bytes
abbrev pub hex_of : ℕ → ℕ → List ℕ → Option (List ℕ)
hex_of low high text = result_ok (decode_of text) >>= sized low high

abbrev pub bytes_of : ℕ → ℕ → Data → Option (List ℕ)
bytes_of low high (string text) = hex_of low high text
bytes_of low high _ = None

-- 32 bytes
abbrev pub seed_of : Data → Option (List ℕ)
seed_of (string text) = result_ok (decode_sized text 32)
seed_of _ = None

-- a key that no earlier sender has
abbrev pub unused : List (List ℕ) → List ℕ → Option (List ℕ)
unused earlier key = if list_any (bytes_eq key) earlier then None else Some key

-- a key of an encryption type
abbrev pub key_of : Etype → List (List ℕ) → Data → Option (List ℕ)
key_of etype earlier d =
    bytes_of (etypes.key_size etype) (etypes.key_size etype) d >>= unused earlier
