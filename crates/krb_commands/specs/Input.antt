-- What reading all of an input does to the bytes that a reader has left, where these are known.
use Rattle.std.specs.Prelude.{◌≡◌, ℕ, ◌+◌, List, length, Option}
use Rattle.std.specs.Io.KnownBytes.{Consumes, IsAtEnd}

-- the most bytes that an input may have: 16 MiB
abbrev pub input_limit : ℕ
input_limit = 16777216

-- the reader gave these bytes and has no more
abbrev pub ReadsAll : Option (List ℕ) → Option (List ℕ) → List ℕ → Type 0
ReadsAll old new bytes = Consumes old new bytes × IsAtEnd new

-- the reader gave some bytes
abbrev pub ReadsSome : Option (List ℕ) → Option (List ℕ) → Type 0
ReadsSome old new = (bytes : List ℕ) × Consumes old new bytes

-- the reader gave one byte more than the limit
abbrev pub ReadsPast : ℕ → Option (List ℕ) → Option (List ℕ) → Type 0
ReadsPast limit old new = (bytes : List ℕ) × Consumes old new bytes × (length bytes ≡ limit + 1)
