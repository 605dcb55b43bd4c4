-- The order in which lanes are served in rounds: of each lane its first group of events, then of
-- each its second, and so on. A group is what one verdict brings.
use Rattle.std.specs.Prelude.{◌≡◌, ℕ, zero, suc, ◌+◌, ◌<◌, ◌≤◌, ◌⊎◌, max, List, [], ◌∷◌, ◌++◌}
use Rattle.std.specs.Prelude.{length, Option, Some, None, slice_get, slice_index_or, All}
use Rattle.std.specs.List.{Contains, flat_map}
use Rattle.krb_peers.specs.declared.log.Event.{Event}
use Rattle.krb_peers.specs.declared.log.Entry.{Entry}
use Rattle.krb_peers.specs.Log.{entries_for}

-- the entries of a group of a lane, or none if there is no group
abbrev pub named : ℕ → Option (List Event) → List Entry
named lane None = []
named lane (Some group) = entries_for lane group

-- one round: from a lane on, the group of each at this place, if it has one
abbrev pub round : ℕ → ℕ → List (List (List Event)) → List Entry
round place lane [] = []
round place lane (groups ∷ rest) =
    named lane (slice_get groups place) ++ round place (lane + 1) rest

-- the first n rounds
abbrev pub rounds_below : ℕ → List (List (List Event)) → List Entry
rounds_below zero lists = []
rounds_below (suc n) lists = rounds_below n lists ++ round n 0 lists

-- the length of the longest list
abbrev pub longest : List (List (List Event)) → ℕ
longest [] = 0
longest (groups ∷ rest) = max (length groups) (longest rest)

-- all rounds of the groups of the lanes
abbrev pub rounds : List (List (List Event)) → List Entry
rounds lists = rounds_below (longest lists) lists

-- no list is longer than n
abbrev pub NoneLonger : ℕ → List (List (List Event)) → Type 0
NoneLonger n lists = All (λ groups. length groups ≤ n) lists

-- the events of groups, in order
abbrev pub joined : List (List Event) → List Event
joined groups = flat_map (λ group. group) groups

-- ---- the same in other words: place by place, and at each place lane by lane

-- the groups of a lane
abbrev pub list_of : List (List (List Event)) → ℕ → List (List Event)
list_of lists lane = slice_index_or lists lane []

-- a place among the groups of a lane
pub record Spot : Type 0 where
  pub place : ℕ
  pub lane : ℕ

-- there is a group
abbrev pub IsSpot : List (List (List Event)) → Spot → Type 0
IsSpot lists spot = spot.place < length (list_of lists spot.lane)

abbrev pub entries_at : List (List (List Event)) → Spot → List Entry
entries_at lists spot = named spot.lane (slice_get (list_of lists spot.lane) spot.place)

-- by the place, and at one place by the lane
abbrev pub IsBefore : Spot → Spot → Type 0
IsBefore a b = (a.place < b.place) ⊎ ((a.place ≡ b.place) × (a.lane < b.lane))

-- each comes before all that follow, so none occurs twice
abbrev pub Rises : List Spot → Type 0
Rises [] = Unit {0}
Rises (spot ∷ spots) = All (IsBefore spot) spots × Rises spots

-- the entries are those of the groups of all lanes, each once, by their places and then by their
-- lanes
pub record AreRounds (lists : List (List (List Event))) (entries : List Entry) : Type 0 where
  pub spots : List Spot
  pub there : All (IsSpot lists) spots
  pub each : (spot : Spot) → IsSpot lists spot → Contains spots spot
  pub rises : Rises spots
  pub entries_are : entries ≡ flat_map (entries_at lists) spots
