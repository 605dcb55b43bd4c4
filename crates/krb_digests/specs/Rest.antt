-- A message that begins with a block, as FIPS 180-4 hashes it.
use Rattle.std.specs.Prelude.{ℕ, ◌+◌, ◌*◌, ◌/◌, List, ◌++◌, length, take, drop, replicate}
use Rattle.sha1.specs.Sha1.{compress, initial_hash, padding}

-- the hash value after the first block (section 6.1.2)
abbrev pub after_block : List ℕ → List ℕ
after_block block = compress initial_hash block

-- what follows the first block: the rest, and the padding (section 5.1.1)
abbrev pub padded_rest : List ℕ → List ℕ
padded_rest rest = rest ++ padding (64 + length rest)

-- how many blocks these are
abbrev pub rest_blocks : List ℕ → ℕ
rest_blocks rest = length (padded_rest rest) / 64

-- block n of them
abbrev pub rest_block : List ℕ → ℕ → List ℕ
rest_block rest n = take 64 (drop (n * 64) (padded_rest rest))

-- a hash value that was wiped
abbrev pub wiped_hash : List ℕ
wiped_hash = replicate 5 0
