-- What the code follows, and no part of the standard: a byte as two elements of the field of 16
-- elements.
--
-- An element of that field is a nibble, the sum of powers of g = 0x5c, for which g^4 = g + 1. With
-- t = 0xb2, for which t^2 = g t + g, each byte is k + i t for one pair of elements; its nibbles
-- are i, the higher one, and k. In this form the inverse of a byte needs tables of 16 bytes alone
-- ("Accelerating AES with Vector Permute Instructions", Hamburg, 2009). The tables are computed by
-- tests/vector_tables.py.
use Rattle.std.specs.Prelude.{ℕ, ◌/◌, nat_lt, nat_le, Bool, T, ◌||◌, List, [], ◌∷◌, slice_index}
use Rattle.std.specs.Prelude.{bit_xor, bit_and, if◌then◌else◌}
use Rattle.std.specs.Simd.Lanes.{Each1}
use Rattle.krb_aes.specs.Field.{times}

-- a place in a table of 16 bytes, or one from 128 on, which means none
abbrev pub is_place : ℕ → Bool
is_place j = nat_le 128 j || nat_lt j 16

-- each element is such a place
pub record ArePlaces (js : List ℕ) : Type 0 where
  pub each : Each1 (λ j. T (is_place j)) js

-- the byte of a table at a place, and 0 at none
abbrev pub entry : List ℕ → ℕ → ℕ
entry t j = if nat_le 128 j then 0 else slice_index t j

-- the inverse of each nibble; 0 has none, and means no place
abbrev pub inverses : List ℕ
inverses =
    0x80 ∷ 0x01 ∷ 0x09 ∷ 0x0e ∷ 0x0d ∷ 0x0b ∷ 0x07 ∷ 0x06
    ∷ 0x0f ∷ 0x02 ∷ 0x0c ∷ 0x05 ∷ 0x0a ∷ 0x04 ∷ 0x03 ∷ 0x08 ∷ []

-- the same times g
abbrev pub scaled_inverses : List ℕ
scaled_inverses =
    0x80 ∷ 0x02 ∷ 0x01 ∷ 0x0f ∷ 0x09 ∷ 0x05 ∷ 0x0e ∷ 0x0c
    ∷ 0x0d ∷ 0x04 ∷ 0x0b ∷ 0x0a ∷ 0x07 ∷ 0x08 ∷ 0x06 ∷ 0x03 ∷ []

-- the two places for a byte with nibbles i and k: a function of the inverse of k + i t is the sum
-- of what two tables give, one at each place
unfoldable pub first_place : ℕ → ℕ
first_place b =
    let i = b / 16 in
    let k = bit_and b 15 in
    bit_xor (entry inverses (bit_xor (entry inverses i) (entry scaled_inverses k))) (bit_xor i k)

unfoldable pub second_place : ℕ → ℕ
second_place b =
    let i = b / 16 in
    let k = bit_and b 15 in
    bit_xor (entry inverses (bit_xor (entry inverses (bit_xor i k)) (entry scaled_inverses k))) i

-- the nibbles of a byte: the sum of those of its higher and of its lower half
abbrev pub nibbles_of_high : List ℕ
nibbles_of_high =
    0x00 ∷ 0x86 ∷ 0xfd ∷ 0x7b ∷ 0x8e ∷ 0x08 ∷ 0x73 ∷ 0xf5
    ∷ 0x77 ∷ 0xf1 ∷ 0x8a ∷ 0x0c ∷ 0xf9 ∷ 0x7f ∷ 0x04 ∷ 0x82 ∷ []

abbrev pub nibbles_of_low : List ℕ
nibbles_of_low =
    0x00 ∷ 0x01 ∷ 0x1c ∷ 0x1d ∷ 0x2d ∷ 0x2c ∷ 0x31 ∷ 0x30
    ∷ 0x27 ∷ 0x26 ∷ 0x3b ∷ 0x3a ∷ 0x0a ∷ 0x0b ∷ 0x16 ∷ 0x17 ∷ []

unfoldable pub nibbles_of : ℕ → ℕ
nibbles_of b =
    bit_xor (slice_index nibbles_of_high (b / 16)) (slice_index nibbles_of_low (bit_and b 15))

-- the nibbles of a byte s of the S-box without its constant 0x63, once and times 2
unfoldable pub bare_nibbles : ℕ → ℕ
bare_nibbles s = nibbles_of (bit_xor s 0x63)

unfoldable pub bare_doubled : ℕ → ℕ
bare_doubled s = nibbles_of (times 2 (bit_xor s 0x63))

-- the nibbles of a byte with the S-box's affine map undone, but for its constant
abbrev pub inv_linear_high : List ℕ
inv_linear_high =
    0x00 ∷ 0xa7 ∷ 0xa8 ∷ 0x0f ∷ 0xed ∷ 0x4a ∷ 0x45 ∷ 0xe2
    ∷ 0xd1 ∷ 0x76 ∷ 0x79 ∷ 0xde ∷ 0x3c ∷ 0x9b ∷ 0x94 ∷ 0x33 ∷ []

abbrev pub inv_linear_low : List ℕ
inv_linear_low =
    0x00 ∷ 0xb5 ∷ 0xdc ∷ 0x69 ∷ 0xdb ∷ 0x6e ∷ 0x07 ∷ 0xb2
    ∷ 0x14 ∷ 0xa1 ∷ 0xc8 ∷ 0x7d ∷ 0xcf ∷ 0x7a ∷ 0x13 ∷ 0xa6 ∷ []

unfoldable pub inv_linear_nibbles : ℕ → ℕ
inv_linear_nibbles b =
    bit_xor (slice_index inv_linear_high (b / 16)) (slice_index inv_linear_low (bit_and b 15))

-- the same with the constant
unfoldable pub inv_affine_nibbles : ℕ → ℕ
inv_affine_nibbles b = inv_linear_nibbles (bit_xor b 0x63)
