-- The sessions that wait, in the order in which they are served.
use Rattle.std.specs.Prelude.{◌≡◌, ℕ, ◌==◌, Bool, true, false, ◌&&◌, not, List, [], ◌∷◌, ◌++◌, if◌then◌else◌, slice_index_or}
use Rattle.std.specs.List.{list_any}

-- whether a session waits
abbrev pub has : List ℕ → ℕ → Bool
has queue session = list_any (λ it. it == session) queue

-- a session that is ready waits last, or where it waits already
abbrev pub with_session : List ℕ → ℕ → List ℕ
with_session queue session = if has queue session then queue else queue ++ session ∷ []

-- each waits once
abbrev pub is_distinct : List ℕ → Bool
is_distinct [] = true
is_distinct (session ∷ queue) = not (has queue session) && is_distinct queue

-- the marks say which sessions wait, and each waits once
pub record IsMarked (queue : List ℕ) (marks : List Bool) : Type 0 where
  pub marked : (session : ℕ) → slice_index_or marks session false ≡ has queue session
  pub distinct : is_distinct queue ≡ true

-- both say the same of each session: one that has no mark doesn't wait
abbrev pub SameMarks : List Bool → List Bool → Type 0
SameMarks old new =
    (session : ℕ) → slice_index_or new session false ≡ slice_index_or old session false
