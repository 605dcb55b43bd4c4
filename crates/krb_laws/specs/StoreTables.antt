-- The tables of a store, and the transactions of receivers, as the carrier's programs write them.
use Rattle.std.specs.Prelude.{◌≡◌, ◌≢◌, ◌⊎◌, ◌<◌, ℕ, ◌+◌, ◌==◌, ◌&&◌, not, Bool, true, List, [], ◌∷◌, ◌++◌, map, Option, Some, None, option_map, if◌then◌else◌}
use Rattle.krb_record.specs.declared.record.Record.{Record}
use Rattle.krb_seal.specs.Sealer.{SealerState}
use Rattle.krb_peers.specs.Attempt.{Attempt, IsAttempt, ends_at}
use Rattle.krb_peers.specs.Demand.{Demand}
use Rattle.krb_peers.specs.Order.{first_demand}
use Rattle.krb_peers.specs.Verdicts.{delivered, records_of}
use Rattle.krb_carry.specs.Reading.{StoredShard, Reading, WasRead}
use Rattle.krb_carry.specs.Store.{Stored}
use Rattle.krb_laws.specs.Database.{Table, Change, changed, insert, update, upsert, Statement, CommitAnswer, Ends}

-- ---- tables

-- a row of `shard`: how far it was read, of the carrier's list with this number
pub record Reached : Type 0 where
  pub incarnation : ℕ
  pub offset : ℕ

-- a row of `session`; since when it misses something isn't claimed of
pub record SessionRow : Type 0 where
  pub next : ℕ
  pub closed : ℕ
  pub missed : ℕ
  pub at : ℕ
  pub shard : ℕ

-- a row of `effect`
pub record Effect : Type 0 where
  pub session : ℕ
  pub text : List ℕ

pub record Tables : Type 0 where
  pub shards : Table Reached
  pub sessions : Table SessionRow
  pub effects : List Effect

abbrev pub no_rows : Tables
no_rows = record { shards = λ (shard : ℕ). None; sessions = λ (session : ℕ). None; effects = [] }

-- ---- statements

abbrev pub nothing_reached : Reached
nothing_reached = record { incarnation = 0; offset = 0 }

-- WHERE incarnation = .. AND offset = ..
abbrev pub is_reached : Reached → Reached → Bool
is_reached from row = (row.incarnation == from.incarnation) && (row.offset == from.offset)

abbrev pub move_shard : ℕ → Reached → Reached → Change Reached
move_shard shard from to =
    record { key = shard; writes = upsert (is_reached nothing_reached from) (is_reached from) to }

-- WHERE next = .. AND closed = .. AND missed = .. AND at = .. AND shard = ..
abbrev pub is_row : SessionRow → SessionRow → Bool
is_row from row =
    (row.next == from.next) && ((row.closed == from.closed) && ((row.missed == from.missed)
    && ((row.at == from.at) && (row.shard == from.shard))))

-- a session is moved from what was read of it, a row or none
pub record Move : Type 0 where
  pub session : ℕ
  pub from : Option SessionRow
  pub to : SessionRow

abbrev pub written : Option SessionRow → SessionRow → Option SessionRow → Option SessionRow
written None to = insert to
written (Some from) to = update (is_row from) to

abbrev pub advance : Move → Change SessionRow
advance move = record { key = move.session; writes = written move.from move.to }

-- UPDATE session SET at = 0, missed = 0 WHERE shard = ..
abbrev pub reset_row : ℕ → SessionRow → SessionRow
reset_row shard row = if row.shard == shard then record row { at = 0; missed = 0 } else row

abbrev pub reset : ℕ → Table SessionRow → Table SessionRow
reset shard sessions = λ (session : ℕ). option_map (reset_row shard) (sessions session)

-- each on its table
abbrev pub on_shards : Change Reached → Statement Tables
on_shards change tables =
    option_map (λ shards. let new : Tables = record tables { shards = shards } in new)
    (changed change tables.shards)

abbrev pub on_sessions : Change SessionRow → Statement Tables
on_sessions change tables =
    option_map (λ sessions. let new : Tables = record tables { sessions = sessions } in new)
    (changed change tables.sessions)

abbrev pub reset_sessions : ℕ → Statement Tables
reset_sessions shard tables =
    Some (record tables { sessions = reset shard tables.sessions })

abbrev pub insert_effect : Effect → Statement Tables
insert_effect effect tables = Some (record tables { effects = tables.effects ++ effect ∷ [] })

-- ---- the transaction of a receiver

-- what it asks for after it took some frames of a shard
pub record Batch : Type 0 where
  pub shard : ℕ
  pub from : Reached
  pub to : Reached
  pub effects : List Effect
  pub moves : List Move

-- the shard is another list than before
abbrev pub is_other : Reached → Reached → Bool
is_other from to = not (from.incarnation == 0) && not (from.incarnation == to.incarnation)

abbrev pub resets : Batch → List (Statement Tables)
resets batch = if is_other batch.from batch.to then reset_sessions batch.shard ∷ [] else []

abbrev pub inserts : List Effect → List (Statement Tables)
inserts effects = map insert_effect effects

abbrev pub advances : List Move → List (Statement Tables)
advances moves = map (λ (move : Move). on_sessions (advance move)) moves

abbrev pub transaction : Batch → List (Statement Tables)
transaction batch =
    on_shards (move_shard batch.shard batch.from batch.to)
    ∷ (resets batch ++ (inserts batch.effects ++ advances batch.moves))

-- the same where UPDATE has lost its WHERE next = .. but for the name
abbrev pub blind_advance : Move → Change SessionRow
blind_advance move = record { key = move.session; writes = update (λ (row : SessionRow). true) move.to }

abbrev pub blind_advances : List Move → List (Statement Tables)
blind_advances moves = map (λ (move : Move). on_sessions (blind_advance move)) moves

abbrev pub blind_transaction : Batch → List (Statement Tables)
blind_transaction batch =
    on_shards (move_shard batch.shard batch.from batch.to)
    ∷ (resets batch ++ (inserts batch.effects ++ blind_advances batch.moves))

-- ---- what the tables have of a session

-- what it demands, by its row: the first number, if it has none
abbrev pub demand_in : ℕ → Option SessionRow → Demand
demand_in first None = first_demand first
demand_in first (Some row) = record { expected = row.next; closed = row.closed == 1 }

abbrev pub effects_of : ℕ → List Effect → List (List ℕ)
effects_of session [] = []
effects_of session (effect ∷ effects) =
    if effect.session == session then effect.text ∷ effects_of session effects
    else effects_of session effects

abbrev pub moves_of : ℕ → List Move → List Move
moves_of session [] = []
moves_of session (move ∷ moves) =
    if move.session == session then move ∷ moves_of session moves else moves_of session moves

abbrev pub stored_in : ℕ → ℕ → Tables → Stored
stored_in first session tables =
    record {
      demand = demand_in first (tables.sessions session);
      effects = effects_of session tables.effects;
    }

-- how far a shard was read of the list with this number
abbrev pub offset_in : ℕ → Option Reached → ℕ
offset_in list None = 0
offset_in list (Some row) = if row.incarnation == list then row.offset else 0

abbrev pub shard_in : ℕ → ℕ → ℕ → ℕ → Tables → StoredShard
shard_in list shard first session tables =
    record {
      offset = offset_in list (tables.shards shard);
      session = stored_in first session tables;
    }

-- ---- what a batch has of a session

-- the batch is of an attempt: it moves the session once, from the demand with which the attempt begins
-- to that with which it ends, and inserts the texts that it delivers
pub record Moves (first session : ℕ) (batch : Batch) (attempt : Attempt) : Type 0 where
  pub move : Move
  pub once : moves_of session batch.moves ≡ move ∷ []
  pub begins : demand_in first move.from ≡ attempt.receiver.demand
  pub ends : demand_in first (Some move.to) ≡ ends_at attempt
  pub effects : effects_of session batch.effects ≡ delivered attempt.verdicts

-- or nothing
pub record LeavesAlone (session : ℕ) (batch : Batch) : Type 0 where
  pub no_move : moves_of session batch.moves ≡ []
  pub no_effect : effects_of session batch.effects ≡ []

-- it moves the shard past what a reading takes
pub record Reads (list : ℕ) (batch : Batch) (reading : Reading) : Type 0 where
  pub list_is : batch.to.incarnation ≡ list
  pub from : offset_in list (Some batch.from) ≡ reading.from
  pub to : batch.to.offset ≡ reading.from + reading.count

-- ---- histories, of any receivers of any shards

-- a transaction, and how it ends
pub record Turn : Type 0 where
  pub batch : Batch
  pub answer : CommitAnswer

-- whole transactions, in the order in which the database serialized them
abbrev pub LeadsTables : Tables → List Turn → Tables → Type 0
LeadsTables old [] new = new ≡ old
LeadsTables old (turn ∷ turns) new =
    (between : Tables) × Ends (transaction turn.batch) turn.answer old between
    × LeadsTables between turns new

-- what a turn has of a session came of an attempt at its records, or is nothing
abbrev pub Serves : SealerState → List Record → ℕ → Turn → Type 0
Serves sealer records session turn =
    ((attempt : Attempt) × IsAttempt sealer records attempt
    × Moves sealer.next session turn.batch attempt)
    ⊎ LeavesAlone session turn.batch

-- It moves the shard past some items. Of a session of which nothing was accepted there it may have
-- nothing.
pub record ReadsOn (list shard first session : ℕ) (turn : Turn) (reading : Reading) : Type 0 where
  pub of_shard : turn.batch.shard ≡ shard
  pub reads : Reads list turn.batch reading
  pub some : 0 < reading.count
  pub has : Moves first session turn.batch reading.attempt
      ⊎ (LeavesAlone session turn.batch × (records_of reading.attempt.verdicts ≡ []))

-- it is of another shard, and has nothing of the session
pub record IsElsewhere (shard session : ℕ) (turn : Turn) : Type 0 where
  pub other : turn.batch.shard ≢ shard
  pub alone : LeavesAlone session turn.batch

-- The same of a session of one shard, whose receivers begin with what they read of what is stored,
-- the offset first.
abbrev pub LeadsShard : (Reading → Type 0) → ℕ → ℕ → ℕ → ℕ → List StoredShard → Tables
    → List Turn → Tables → Type 0
LeadsShard Is list shard first session seen old [] new = new ≡ old
LeadsShard Is list shard first session seen old (turn ∷ turns) new =
    let here = shard_in list shard first session old in
    (between : Tables) × Ends (transaction turn.batch) turn.answer old between
    × (((reading : Reading) × Is reading × WasRead (here ∷ seen) reading
    × ReadsOn list shard first session turn reading
    × LeadsShard Is list shard first session (here ∷ seen) between turns new)
    ⊎ (IsElsewhere shard session turn × LeadsShard Is list shard first session seen between turns new))
