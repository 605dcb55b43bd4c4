-- The timestamps at which frames are sealed or taken, one after another.
use Rattle.std.specs.Prelude.{ℕ, ◌-◌, List, length, slice_index, min}

-- the timestamp of a place in a list of timestamps: the last one serves all later places
abbrev pub moment_at : List ℕ → ℕ → ℕ
moment_at moments place = slice_index moments (min place (length moments - 1))
