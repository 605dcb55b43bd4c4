-- What the code follows, and no definitions of the standard: how many octets an element has.
use Rattle.std.specs.Prelude.{ℕ, ◌+◌, ◌≤◌, List, length}
use Rattle.krb_base.specs.Limits.{frame_limit}
use Rattle.krb_tlv.specs.Length.{length_octets}

-- how many octets an element has whose content has n
abbrev pub element_size : ℕ → ℕ
element_size n = 1 + length (length_octets n) + n

-- no byte string is longer than a message may be
abbrev pub IsShort : List ℕ → Type 0
IsShort bytes = length bytes ≤ frame_limit
