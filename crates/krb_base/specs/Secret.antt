-- What is shown of a secret: that it is one.
use Rattle.std.specs.Prelude.{ℕ, List, codes}

abbrev pub words : List ℕ
words = codes "Secret"
