-- What sessions of one shard share.
use Rattle.std.specs.Prelude.{◌≡◌, ◌≢◌, ◌⊎◌, ℕ, ◌+◌, ◌-◌, ◌<◌, ◌≤◌, Bool, true, false, Option, Some, None}
use Rattle.krb_engine.specs.Limits.{under_way_most}
use Rattle.krb_engine.specs.declared.shards.Flow.{Flow}
use Rattle.krb_engine.specs.declared.shards.Spot.{Spot}
use Rattle.krb_engine.specs.declared.shards.Reading.{Reading}
use Rattle.krb_engine.specs.declared.shards.Read.{Read}
use Rattle.krb_engine.specs.declared.shards.Read.TheVariants.{Nothing, Elsewhere, Take}

-- ---- at a sender

abbrev pub room_with : Option ℕ → ℕ → ℕ
room_with None under_way = 0
room_with (Some list) under_way = under_way_most - under_way

abbrev pub room_of : Flow → ℕ
room_of flow = room_with flow.list flow.under_way

abbrev pub moved : Flow → ℕ → ℕ → Flow
moved flow before after = record flow { under_way = flow.under_way - before + after }

-- ---- at a receiver

abbrev pub read_to : Spot → Spot → Bool → Reading
read_to stored read is_open = record { stored = stored; read = read; is_open = is_open }

-- the list that it reads, of which it has read no more than there is
abbrev pub IsWhole : Reading → ℕ → ℕ → Type 0
IsWhole state list last = (list ≡ state.read.list) × (state.read.offset ≤ last)

-- Frames are taken from the list that is read, if it wasn't cut off, and no transaction is under way. From
-- another list it is read from its beginning, and from one that was cut off from its end.
abbrev pub ReadsOn : Reading → ℕ → ℕ → ℕ → Read → Reading → Type 0
ReadsOn old list last count Take new =
    (old.is_open ≡ false) × IsWhole old list last × (0 < count)
    × (new ≡ read_to old.stored (record old.read { offset = old.read.offset + count }) true)
ReadsOn old list last count Nothing new =
    ((old.is_open ≡ true) ⊎ (IsWhole old list last × (count ≡ 0))) × (new ≡ old)
ReadsOn old list last count Elsewhere new =
    (old.is_open ≡ false)
    × (((list ≢ old.read.list)
    × (new ≡ read_to old.stored (record { list = list; offset = 0 }) false))
    ⊎ ((list ≡ old.read.list) × (last < old.read.offset)
    × (new ≡ read_to old.stored (record old.read { offset = last }) false)))

-- the transaction took effect
abbrev pub taken : Reading → Reading
taken state = read_to state.read state.read false
