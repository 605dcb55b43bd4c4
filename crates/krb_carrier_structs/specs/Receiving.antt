-- A session's end at a receiver, of C's.
use Rattle.std.specs.Prelude.{◌≡◌, ◌≤◌, ◌+◌, ◌<◌, ◌^◌, Some, None, if◌then◌else◌}
use Rattle.krb_engine.specs.declared.receiving.Row.{Row}
use Rattle.krb_engine.specs.declared.receiving.Seen.{Seen}
use Rattle.krb_engine.specs.declared.receiving.Receiving.{Receiving}
use Rattle.krb_carrier_structs.specs.declared.receiving.KrbRow.{KrbRow}
use Rattle.krb_carrier_structs.specs.declared.receiving.KrbSeen.{KrbSeen}
use Rattle.krb_carrier_structs.specs.declared.receiving.KrbReceiving.{KrbReceiving}
use Rattle.krb_carrier_structs.specs.Numbers.{says, told_asks}
use Rattle.krb_carrier_structs.specs.Pause.{told_pause}

-- the row that the struct tells, and the struct of a row
abbrev pub told_row : KrbRow → Row
told_row r = record {
  demanded = record { number = r.number; history = r.history };
  closed = says r.closed;
}

abbrev pub row_told : Row → KrbRow
row_told r = record {
  number = r.demanded.number;
  history = r.demanded.history;
  closed = if r.closed then 1 else 0;
}

abbrev pub told_seen : KrbSeen → Seen
told_seen s = record {
  accepted = says s.accepted;
  is_close = says s.is_close;
  opened = if says s.has_opened then Some s.opened else None;
}

abbrev pub told_receiving : KrbReceiving → Receiving
told_receiving r = record {
  stored = told_row r.stored;
  drafted = told_row r.drafted;
  is_open = says r.is_open;
  owed = told_asks r.owed;
  paid = told_pause r.paid;
}

-- the numbers are those of an end
abbrev pub IsReceiving : KrbReceiving → Type 0
IsReceiving r = r.owed ≤ 3

-- they are those of this end
pub record TellsReceiving (r : KrbReceiving) (state : Receiving) : Type 0 where
  pub is_receiving : IsReceiving r
  pub value : told_receiving r ≡ state

-- and the next number has one after it, and nothing is in reserve
pub record CanTakeFrame (r : KrbReceiving) (s : KrbSeen) : Type 0 where
  pub is_receiving : IsReceiving r
  pub fits : r.drafted.number + 1 < 2 ^ 64
  pub reserved : s.reserved ≡ 0
