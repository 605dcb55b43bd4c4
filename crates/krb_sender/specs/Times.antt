-- When each place is looked at again.
use Rattle.std.specs.Prelude.{◌≡◌, ◌≢◌, ◌⊎◌, ℕ, ◌+◌, ◌*◌, ◌-◌, ◌^◌, ◌<◌, ◌≤◌, min, List, length, slice_index_or}

abbrev pub never : ℕ
never = 2 ^ 64 - 1

abbrev pub time_of : List ℕ → ℕ → ℕ
time_of times place = slice_index_or times place never

-- no place has a time before this one's
pub record IsFirst (times : List ℕ) (place : ℕ) : Type 0 where
  pub there : place < length times
  pub first : (other : ℕ) → time_of times place ≤ time_of times other

-- it is the first of all times: none is before it, and it is one of them, or the end of time where there is none
pub record IsFirstTime (times : List ℕ) (at : ℕ) : Type 0 where
  pub first : (other : ℕ) → at ≤ time_of times other
  pub there : (at ≡ never) ⊎ ((place : ℕ) × (at ≡ time_of times place))

-- no time has come
abbrev pub NoneIsDue : List ℕ → ℕ → Type 0
NoneIsDue times now = (place : ℕ) → place < length times → now < time_of times place

-- ---- a tree: below a place are those of twice its number and one, and twice its number and two

-- the least of a place's own time and of those below it
abbrev pub least_below : List ℕ → List ℕ → ℕ → ℕ
least_below at least place =
    min (time_of at place) (min (time_of least (2 * place + 1)) (time_of least (2 * place + 2)))

abbrev pub IsNode : List ℕ → List ℕ → ℕ → Type 0
IsNode at least place = time_of least place ≡ least_below at least place

abbrev pub AllNodes : List ℕ → List ℕ → Type 0
AllNodes at least = (place : ℕ) → IsNode at least place

abbrev pub NodesBut : List ℕ → List ℕ → ℕ → Type 0
NodesBut at least place = (other : ℕ) → other ≢ place → IsNode at least other

pub record IsTree (at least : List ℕ) : Type 0 where
  pub few : length at ≤ 2 ^ 32
  pub sized : length least ≡ length at
  pub nodes : AllNodes at least
