-- A lane as two places in what its sender emits.
use Rattle.std.specs.Prelude.{ℕ, ◌+◌, ◌≤◌, List, [], ◌∷◌, ◌++◌, length, map, take, drop}
use Rattle.krb_base.specs.Lane.{Item, Lane, Frame, End}

-- the frames of the wire, then End
abbrev pub items_of : List (List ℕ) → List (Item (List ℕ))
items_of wire = map Frame wire ++ End ∷ []

-- so many items were sent, and so many taken
abbrev pub lane_at : ℕ → List (List ℕ) → ℕ → ℕ → Lane (List ℕ)
lane_at capacity wire sent taken = record {
  capacity = capacity;
  sent = take sent (items_of wire);
  got = take taken (items_of wire);
  queue = drop taken (take sent (items_of wire));
}

-- no more were taken than sent, and no more sent than there are
pub record ArePlaces (wire : List (List ℕ)) (sent taken : ℕ) : Type 0 where
  pub taken_sent : taken ≤ sent
  pub in_range : sent ≤ length wire + 1
