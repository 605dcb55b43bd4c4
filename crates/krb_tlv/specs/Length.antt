-- Whole numbers as octets, and the lengths of elements (X.690 sections 8.1.3 and 10.1).
use Rattle.std.specs.Prelude.{ℕ, zero, suc, ◌/◌, ◌%◌, ◌^◌, List, [], ◌∷◌, nat_lt, if◌then◌else◌}

-- a number below 256 ^ k as k octets, the most significant first
abbrev pub big_endian : ℕ → ℕ → List ℕ
big_endian zero n = []
big_endian (suc k) n = n / 256 ^ k ∷ big_endian k (n % 256 ^ k)

-- the definite length in the fewest octets, up to three after the first
unfoldable pub length_octets : ℕ → List ℕ
length_octets n =
    if nat_lt n 128 then n ∷ [] else if nat_lt n 256 then 0x81 ∷ big_endian 1 n
    else if nat_lt n 65536 then 0x82 ∷ big_endian 2 n else 0x83 ∷ big_endian 3 n
