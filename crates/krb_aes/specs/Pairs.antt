-- What the code follows, and no part of the standard: two blocks one after the other.
use Rattle.std.specs.Prelude.{ℕ, List, ◌++◌}

abbrev pub pair : List ℕ → List ℕ → List ℕ
pair a b = a ++ b

-- the same block twice
abbrev pub twice : List ℕ → List ℕ
twice a = pair a a
