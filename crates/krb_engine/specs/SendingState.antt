-- What contracts see of a session's end at a sender.
use Rattle.std.specs.Prelude.{ℕ, ◌<◌, ◌≤◌, Bool, Option}
use Rattle.krb_engine.specs.declared.pause.Pause.{Pause}
use Rattle.krb_carry.specs.ProgressState.{ProgressState}
use Rattle.krb_engine.specs.declared.sending.Ended.{Ended}

-- How far the frames are carried, for which list of the shard, and below which number they took effect.
-- `window` frames may be under way, and while `done` is below `recovers`, so many from `done` on may leave. Since when a receiver was
-- heeded that asked again, and whether nothing leaves until that pause is over; since when something
-- was published or confirmed, and a receipt was due; whether a receipt came, and why it is stopped.
pub record SendingState : Type 0 where
  pub progress : ProgressState
  pub done : ℕ
  pub list : ℕ
  pub recovers : ℕ
  pub window : ℕ
  pub ask : Option Pause
  pub is_held : Bool
  pub again : Pause
  pub probe : Pause
  pub is_answered : Bool
  pub ended : Option Ended

-- what holds of each
pub record IsEnd (state : SendingState) : Type 0 where
  pub done : state.done ≤ state.progress.carried
  pub carried : state.progress.carried ≤ state.progress.sent
  pub sent : state.progress.sent ≤ state.progress.next
  pub window : 0 < state.window
