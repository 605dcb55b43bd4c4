-- The lines of an input: it is cut at each line feed, and a last line without one counts where it
-- isn't empty.
use Rattle.std.specs.Prelude.{ℕ, List, [], ◌∷◌, ◌==◌, Bool}
use Rattle.std.specs.List.{slice_split}

abbrev pub is_line_feed : ℕ → Bool
is_line_feed byte = byte == 10

-- the pieces, but for a last one that is empty
abbrev pub counted : List (List ℕ) → List (List ℕ)
counted [] = []
counted ([] ∷ []) = []
counted ((byte ∷ piece) ∷ []) = (byte ∷ piece) ∷ []
counted (piece ∷ next ∷ pieces) = piece ∷ counted (next ∷ pieces)

unfoldable pub lines_of : List ℕ → List (List ℕ)
lines_of input = counted (slice_split is_line_feed input)
