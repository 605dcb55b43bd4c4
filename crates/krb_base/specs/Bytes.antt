-- Lists of bytes.
use Rattle.std.specs.Prelude.{◌≡◌, ℕ, ◌<◌, List, length, replicate, slice_index}

-- each element is a byte
pub record AreBytes (s : List ℕ) : Type 0 where
  pub small : (i : ℕ) → slice_index s i < 256

-- each number is 0
abbrev pub AreZero : List ℕ → Type 0
AreZero xs = xs ≡ replicate (length xs) 0
