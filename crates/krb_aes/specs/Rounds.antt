-- What the code follows, and no part of the standard: how the rounds on vectors hold a state and
-- the round keys.
--
-- A round leaves out the ShiftRows that moves the state, so that after n rounds the vector holds
-- the state with ShiftRows undone n times, which is ShiftRows 3 n times: four times ShiftRows
-- change nothing.
use Rattle.std.specs.Prelude.{◌≡◌, ℕ, ◌+◌, ◌*◌, ◌/◌, ◌%◌, ◌<◌, Bool, List, [], length, map}
use Rattle.std.specs.Prelude.{slice_index, slice_index_or, bit_xor, replicate, if◌then◌else◌}
use Rattle.krb_aes.specs.Cipher.{cell, from_cells, word_byte}
use Rattle.krb_aes.specs.InverseCipher.{inv_mix_columns}
use Rattle.krb_aes.specs.Nibbles.{nibbles_of, bare_nibbles, inv_linear_nibbles, inv_affine_nibbles}

-- ShiftRows q times: row r is rotated left by q r places
unfoldable pub rows_shifted : ℕ → List ℕ → List ℕ
rows_shifted q s = from_cells (λ r c. cell s r ((c + q * r) % 4))

-- each column rotated up by one place
unfoldable pub columns_raised : List ℕ → List ℕ
columns_raised s = from_cells (λ r c. cell s ((r + 1) % 4) c)

-- the bytes of round key n of an expanded key (FIPS 197, section 5.1.4)
unfoldable pub round_key : List ℕ → ℕ → List ℕ
round_key w n = from_cells (λ r c. word_byte (slice_index w (4 * n + c)) r)

-- the round keys as the rounds take them. A round that mixes adds its key to bytes that lack the
-- S-box's constant and that it lowers by one place afterwards, with the rows as they are after the
-- round; the last one ends in plain bytes.
pub record AreRoundKeys (keys : List (List ℕ)) (turns : ℕ) (w : List ℕ) : Type 0 where
  pub size : length w / 4 ≡ 4 * turns + 3
  pub first : slice_index_or keys 0 [] ≡ map nibbles_of (round_key w 0)
  pub mixing : (n : ℕ) → 0 < n → n < 4 * turns + 2
      → slice_index_or keys n []
      ≡ map bare_nibbles (rows_shifted (3 * n % 4) (columns_raised (round_key w n)))
  pub last : slice_index_or keys (4 * turns + 2) []
      ≡ map (λ b. bit_xor b 0x63) (round_key w (4 * turns + 2))

-- the same for the inverse cipher, whose rounds take the keys mixed back (5.3.5): after the round
-- with key n the vector holds the state with ShiftRows done once for each round so far, 4 turns +
-- 2 - n of them
pub record AreInverseRoundKeys (keys : List (List ℕ)) (turns : ℕ) (w : List ℕ) : Type 0 where
  pub size : length w / 4 ≡ 4 * turns + 3
  pub first : slice_index_or keys (4 * turns + 2) []
      ≡ map inv_linear_nibbles (round_key w (4 * turns + 2))
  pub mixing : (n : ℕ) → 0 < n → n < 4 * turns + 2
      → slice_index_or keys n []
      ≡ map inv_affine_nibbles
      (rows_shifted (3 * (n + 2) % 4) (columns_raised (inv_mix_columns (round_key w n))))
  pub last : slice_index_or keys 0 [] ≡ round_key w 0

-- how often four rounds are repeated under a key of 32 or 16 bytes; three more rounds come before
-- and after
abbrev pub turns_of : Bool → ℕ
turns_of wide = if wide then 3 else 2

-- round keys that were wiped
abbrev pub zero_keys : List (List ℕ)
zero_keys = replicate 15 (replicate 16 0)
