-- The rule of carried frames: which copies count.
use Rattle.std.specs.Prelude.{◌≡◌, ◌⊎◌, ℕ, suc, ◌+◌, ◌<◌, ◌≤◌, ◌==◌, nat_lt, ◌&&◌, max, Bool, List, [], ◌∷◌}
use Rattle.std.specs.Prelude.{if◌then◌else◌}
use Rattle.krb_record.specs.declared.record.Record.{Record}
use Rattle.krb_seal.specs.Sealer.{SealerState}
use Rattle.krb_carry.specs.ProgressState.{ProgressState}
use Rattle.krb_carry.specs.Shard.{Item, StandsAt, Stands}

-- these four numbers
abbrev pub progress_of : ℕ → ℕ → ℕ → ℕ → ProgressState
progress_of next carried at sent =
    record { next = next; carried = carried; at = at; sent = sent }

-- of a session that is new, or that continues where so much was stored: all that isn't carried
-- counts as not published
abbrev pub resumed : ℕ → ℕ → ℕ → ProgressState
resumed next carried at = progress_of next carried at carried

abbrev pub new_progress : ℕ → ProgressState
new_progress first = resumed first first 0

-- A copy of the frame of this number stands at this offset. It counts if this is the first frame
-- that doesn't count as carried, and its copy stands after the counted copy of the one before.
pub record Counts (progress : ProgressState) (number offset : ℕ) : Type 0 where
  pub first_one : number ≡ progress.carried
  pub stored : progress.carried < progress.next
  pub later : progress.at < offset

-- the same as a test
abbrev pub counts : ProgressState → ℕ → ℕ → Bool
counts progress number offset =
    (number == progress.carried) && nat_lt progress.carried progress.next
    && nat_lt progress.at offset

-- one frame more is carried, at this offset
abbrev pub counted : ProgressState → ℕ → ProgressState
counted progress offset =
    record progress {
      carried = progress.carried + 1;
      at = offset;
      sent = max progress.sent (progress.carried + 1);
    }

-- ---- what happens to a sender

-- so many frames more are stored, or published; all that isn't carried is to be published again; a
-- confirmation comes: a copy of the frame of this number stands at this offset
pub data Happening : Type 0 where
  Store : ℕ → Happening
  Publish : ℕ → Happening
  Rewind : Happening
  Confirm : ℕ → ℕ → Happening

abbrev pub after : ProgressState → Happening → ProgressState
after progress (Store count) = record progress { next = progress.next + count }
after progress (Publish count) = record progress { sent = progress.sent + count }
after progress Rewind = record progress { sent = progress.carried }
after progress (Confirm number offset) =
    if counts progress number offset then counted progress offset else progress

-- one after another
abbrev pub after_all : ProgressState → List Happening → ProgressState
after_all progress [] = progress
after_all progress (it ∷ happenings) = after_all (after progress it) happenings

-- the frame of this number is published
abbrev pub Publishes : ProgressState → Happening → ℕ → Type 0
Publishes progress (Store count) number = ⊥
Publishes progress (Publish count) number =
    (progress.sent ≤ number) × (number < progress.sent + count)
Publishes progress Rewind number = ⊥
Publishes progress (Confirm carried offset) number = ⊥

-- by one of these
abbrev pub IsPublished : ProgressState → List Happening → ℕ → Type 0
IsPublished progress [] number = ⊥
IsPublished progress (it ∷ happenings) number =
    Publishes progress it number ⊎ IsPublished (after progress it) happenings number

-- what a sender hears of a shard is true
abbrev pub IsTruthful : SealerState → List Record → ℕ → List Item → Happening → Type 0
IsTruthful sealer records session shard (Store count) = Unit {0}
IsTruthful sealer records session shard (Publish count) = Unit {0}
IsTruthful sealer records session shard Rewind = Unit {0}
IsTruthful sealer records session shard (Confirm number offset) =
    Stands sealer records session shard number offset

-- ---- what is claimed of it

-- record k has a number from `done` on, and its frame counts as carried
abbrev pub IsCounted : SealerState → ℕ → ProgressState → ℕ → Type 0
IsCounted sealer done progress k = (done ≤ sealer.next + k) × (sealer.next + k < progress.carried)

-- of the frames from `done` on that count as carried, each stands in the shard after the one before,
-- up to `at`
pub record StandInTurn (sealer : SealerState) (records : List Record) (session : ℕ)
    (shard : List Item) (done : ℕ) (progress : ProgressState) : Type 0 where
  pub place : ℕ → ℕ
  pub stands : (k : ℕ) → IsCounted sealer done progress k
      → StandsAt sealer records session shard k (place k)
  pub rises : (k : ℕ) → IsCounted sealer done progress k → IsCounted sealer done progress (suc k)
      → place k < place (suc k)
  pub within : (k : ℕ) → IsCounted sealer done progress k → place k < progress.at
