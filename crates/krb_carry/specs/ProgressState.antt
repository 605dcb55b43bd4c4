-- What contracts see of a sender's progress.
use Rattle.std.specs.Prelude.{ℕ}

-- How far the frames of a session are carried. The frames below `next` are stored, those below
-- `carried` count as carried, the last of them at the offset `at`, and those below `sent` were
-- published.
pub record ProgressState : Type 0 where
  pub next : ℕ
  pub carried : ℕ
  pub at : ℕ
  pub sent : ℕ
