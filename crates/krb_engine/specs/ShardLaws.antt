-- What the laws of shards state.
use Rattle.std.specs.Prelude.{◌≡◌, ◌≢◌, ℕ, ◌+◌, ◌<◌, ◌≤◌, true, false, List, [], ◌∷◌, sum, slice_get, slice_set, Some}
use Rattle.krb_engine.specs.Limits.{under_way_most}
use Rattle.krb_engine.specs.declared.shards.Flow.{Flow}
use Rattle.krb_engine.specs.declared.shards.Spot.{Spot}
use Rattle.krb_engine.specs.declared.shards.Reading.{Reading}
use Rattle.krb_engine.specs.declared.shards.Read.{Read}
use Rattle.krb_engine.specs.declared.shards.Read.TheVariants.{Nothing, Elsewhere, Take}
use Rattle.krb_engine.specs.Shards.{room_of, moved, ReadsOn, taken}

-- what is under way in a shard is the sum over its sessions, whichever of them moves
abbrev pub UnderWayIsTheSum : Type 0
UnderWayIsTheSum =
    (flow : Flow) (counts : List ℕ) (place before after : ℕ)
    → flow.under_way ≡ sum counts → slice_get counts place ≡ Some before
    → (before ≤ flow.under_way)
    × ((moved flow before after).under_way ≡ sum (slice_set counts place after))

-- and within the bound, if each session publishes no more than it has room for
abbrev pub FewAreUnderWay : Type 0
FewAreUnderWay =
    (flow : Flow) (before count : ℕ) → flow.under_way ≤ under_way_most → before ≤ flow.under_way
    → count ≤ room_of flow → (moved flow before (before + count)).under_way ≤ under_way_most

-- A read goes on by as many items as were taken, or back, or to another list's beginning.
abbrev pub NothingIsSkipped : Type 0
NothingIsSkipped =
    (old : Reading) (list last count : ℕ) (new : Reading)
    → (ReadsOn old list last count Take new
    → (new.read.list ≡ old.read.list) × (new.read.offset ≡ old.read.offset + count))
    × (ReadsOn old list last count Nothing new → new.read ≡ old.read)
    × (ReadsOn old list last count Elsewhere new → new.read.list ≡ old.read.list
    → new.read.offset < old.read.offset)

-- reads of one list that isn't cut off, of the transactions that took effect
abbrev pub LeadsOn : Reading → List ℕ → Reading → Type 0
LeadsOn old [] new = new ≡ old
LeadsOn old (count ∷ counts) new =
    (last : ℕ) × ((between : Reading) × ReadsOn old old.read.list last count Take between
    × LeadsOn (taken between) counts new)

-- Each of them begins where the one before it ended: what is stored is what was read, and so many more.
abbrev pub OneTransactionAfterAnother : Type 0
OneTransactionAfterAnother =
    (old : Reading) (counts : List ℕ) (new : Reading)
    → old.read ≡ old.stored → LeadsOn old counts new
    → (new.read ≡ new.stored) × (new.stored.list ≡ old.stored.list)
    × (new.stored.offset ≡ old.stored.offset + sum counts)

-- A shard that has a list has room for all up to the bound.
abbrev pub RoomIsLeft : Type 0
RoomIsLeft =
    (flow : Flow) (list : ℕ) → flow.list ≡ Some list → flow.under_way ≤ under_way_most
    → flow.under_way + room_of flow ≡ under_way_most

-- Another list is read from its beginning, if no transaction is under way.
abbrev pub OtherListsBegin : Type 0
OtherListsBegin =
    (old : Reading) (list last count : ℕ) (it : Read) (new : Reading)
    → list ≢ old.read.list → old.is_open ≡ false → ReadsOn old list last count it new
    → (new.read.list ≡ list) × (new.read.offset ≡ 0)
