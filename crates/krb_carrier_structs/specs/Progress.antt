-- What C's calls of a progress answer.
use Rattle.std.specs.Prelude.{ℕ, ◌+◌, ◌<◌, ◌≤◌, ◌^◌}
use Rattle.krb_carry.specs.Progress.{progress_of}
use Rattle.krb_carry.specs.ProgressState.{ProgressState}
use Rattle.krb_carrier_structs.specs.declared.progress.KrbProgress.{KrbProgress}

-- the progress with the numbers of the struct
abbrev pub told_progress : KrbProgress → ProgressState
told_progress p = progress_of p.next p.carried p.at p.sent

-- the numbers are those of a progress: only stored frames are published, and all that are carried
-- count as published
pub record IsProgress (p : KrbProgress) : Type 0 where
  pub carried : p.carried ≤ p.sent
  pub sent : p.sent ≤ p.next

-- and so many frames more have numbers
pub record CanStore (p : KrbProgress) (count : ℕ) : Type 0 where
  pub is_progress : IsProgress p
  pub fits : p.next + count < 2 ^ 64

-- and so many frames more are stored and weren't published
pub record CanPublish (p : KrbProgress) (count : ℕ) : Type 0 where
  pub is_progress : IsProgress p
  pub fits : p.sent + count ≤ p.next
