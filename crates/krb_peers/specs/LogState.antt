-- What a log shows.
use Rattle.std.specs.Prelude.{ℕ, Bool, List}
use Rattle.krb_peers.specs.declared.log.Entry.{Entry}

-- a log: the number of its lanes, its entries, oldest first, and for each of eight lanes whether it
-- has ended
pub record LogState : Type 0 where
  pub lanes : ℕ
  pub entries : List Entry
  pub ended : List Bool
