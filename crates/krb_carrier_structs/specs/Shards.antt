-- What sessions of one shard share, of C's.
use Rattle.std.specs.Prelude.{◌≡◌, ℕ, ◌+◌, ◌<◌, ◌≤◌, ◌^◌, Some, None, is_some, unwrap_or, if◌then◌else◌}
use Rattle.krb_engine.specs.declared.shards.Flow.{Flow}
use Rattle.krb_engine.specs.declared.shards.Spot.{Spot}
use Rattle.krb_engine.specs.declared.shards.Reading.{Reading}
use Rattle.krb_carrier_structs.specs.declared.shards.KrbFlow.{KrbFlow}
use Rattle.krb_carrier_structs.specs.declared.shards.KrbSpot.{KrbSpot}
use Rattle.krb_carrier_structs.specs.declared.shards.KrbReading.{KrbReading}
use Rattle.krb_carrier_structs.specs.Numbers.{says}

abbrev pub told_flow : KrbFlow → Flow
told_flow f = record {
  list = if says f.has_list then Some f.list else None;
  under_way = f.under_way;
}

abbrev pub flow_told : Flow → KrbFlow
flow_told f = record {
  list = unwrap_or f.list 0;
  under_way = f.under_way;
  has_list = if is_some f.list then 1 else 0;
  reserved = 0;
}

abbrev pub told_spot : KrbSpot → Spot
told_spot s = record { list = s.list; offset = s.offset }

abbrev pub spot_told : Spot → KrbSpot
spot_told s = record { list = s.list; offset = s.offset }

abbrev pub told_reading : KrbReading → Reading
told_reading r = record {
  stored = told_spot r.stored;
  read = told_spot r.read;
  is_open = says r.is_open;
}

abbrev pub reading_told : Reading → KrbReading
reading_told r = record {
  stored = spot_told r.stored;
  read = spot_told r.read;
  is_open = if r.is_open then 1 else 0;
  reserved = 0;
}

-- so many frames were under way, and so many fit
pub record CanMove (f : KrbFlow) (before after : ℕ) : Type 0 where
  pub reserved : f.reserved ≡ 0
  pub there : before ≤ f.under_way
  pub fits : f.under_way + after < 2 ^ 64

-- and the offset after so many has a number
pub record CanRead (r : KrbReading) (count : ℕ) : Type 0 where
  pub reserved : r.reserved ≡ 0
  pub fits : r.read.offset + count < 2 ^ 64
