-- What an order demands.
use Rattle.std.specs.Prelude.{ℕ, Bool}

-- the number that is demanded next, and whether a close was accepted
pub record Demand : Type 0 where
  pub expected : ℕ
  pub closed : Bool
