-- What contracts see of a session of a sender.
use Rattle.std.specs.Prelude.{Bool}
use Rattle.krb_engine.specs.SendingState.{SendingState}

-- Its end; whether it begins by an opening, and whether that may leave; and whether it is stopped for a reason that is no
-- receipt's.
pub record SessionState : Type 0 where
  pub end : SendingState
  pub opens : Bool
  pub may_open : Bool
  pub is_stopped : Bool
