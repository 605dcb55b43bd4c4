-- INTEGER (X.690 section 8.3): two's complement in the fewest octets.
use Rattle.std.specs.Prelude.{ℕ, ◌-◌, ◌^◌, ◌<◌, ℤ, pos, negsuc, List, map, nat_lt, if◌then◌else◌}
use Rattle.krb_tlv.specs.Length.{big_endian}
use Rattle.krb_tlv.specs.Element.{tagged}

-- the fewest octets whose highest bit stays free for the sign, of a number below 2 ^ 39
abbrev pub width : ℕ → ℕ
width n =
    if nat_lt n (2 ^ 7) then 1 else if nat_lt n (2 ^ 15) then 2
    else if nat_lt n (2 ^ 23) then 3 else if nat_lt n (2 ^ 31) then 4 else 5

-- a number in two's complement: the octets of -(n + 1) are the complement of those of n
unfoldable pub int_octets : ℤ → List ℕ
int_octets (pos n) = big_endian (width n) n
int_octets (negsuc n) = map (λ b. 255 - b) (big_endian (width n) n)

-- INTEGER: tag 2 (X.680 section 8.4)
abbrev pub integer : ℤ → List ℕ
integer z = tagged 0x02 (int_octets z)

-- a natural number as an INTEGER
abbrev pub natural : ℕ → List ℕ
natural n = integer (pos n)

-- Int32 (RFC 4120 section 5.2.4)
abbrev pub IsInt32 : ℤ → Type 0
IsInt32 (pos n) = n < 2 ^ 31
IsInt32 (negsuc n) = n < 2 ^ 31

-- UInt32 (RFC 4120 section 5.2.4)
abbrev pub IsUInt32 : ℕ → Type 0
IsUInt32 n = n < 2 ^ 32
