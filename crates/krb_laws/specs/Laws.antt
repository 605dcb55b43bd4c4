-- What the laws state.
use Rattle.std.specs.Prelude.{◌≡◌, ◌≢◌, ◌≤◌, ℕ, ◌+◌, true, List, [], ◌∷◌, Some, None, All}
use Rattle.krb_base.specs.Prefix.{IsPrefix}
use Rattle.krb_record.specs.declared.record.Record.{Record}
use Rattle.krb_record.specs.declared.record.Record.TheVariants.{Text}
use Rattle.krb_seal.specs.Sealer.{SealerState}
use Rattle.krb_peers.specs.Attempt.{Attempt, IsAttempt}
use Rattle.krb_peers.specs.Session.{Sealed}
use Rattle.krb_peers.specs.Verdicts.{delivered}
use Rattle.krb_carry.specs.Laws.{OfOutboxes}
use Rattle.krb_carry.specs.Outbox.{texts_put, has_close_put, stored_records, Outbox, new_outbox, Kept}
use Rattle.krb_carry.specs.Outbox.{Sealing, Act, Insert, Seal, IsAct, Acts, LeadsOutbox}
use Rattle.krb_carry.specs.Progress.{Happening, new_progress, after_all, IsTruthful}
use Rattle.krb_carry.specs.Reading.{Reading, IsReading, CommitsReading, LeadsReading, new_shard}
use Rattle.krb_carry.specs.Shard.{Item}
use Rattle.krb_carry.specs.Store.{new_session, Commits, Leads, applied}
use Rattle.krb_laws.specs.Database.{Table, executed, CommitAnswer, Ends, Others, Meanwhile, among}
use Rattle.krb_laws.specs.Database.{HoldsLocks, all_others, changed_all, changes_of}
use Rattle.krb_laws.specs.OutboxTables.{OutboxTables, empty_tables, TextRow, Next, Sent, Holds, nexts_of, Seals}
use Rattle.krb_laws.specs.OutboxTables.{Deed, Puts, Sends, sending, statements_of, LeadsDeeds}
use Rattle.krb_laws.specs.Restored.{Has, World, new_world, WorldStep, SealsMore, Leaves, LeadsWorld}
use Rattle.krb_laws.specs.StoreTables.{SessionRow, Tables, no_rows, Batch, transaction, blind_transaction}
use Rattle.krb_laws.specs.StoreTables.{effects_of, demand_in, stored_in, shard_in, Moves, LeavesAlone, Reads}
use Rattle.krb_laws.specs.StoreTables.{Turn, LeadsTables, Serves, LeadsShard}

-- it holds whatever stood in the tables, and however the transaction of a batch ends
abbrev pub OfBatches : (Batch → Tables → Tables → Type 0) → Type 0
OfBatches Claim =
    (batch : Batch) (answer : CommitAnswer) (old new : Tables) → Ends (transaction batch) answer old new
    → Claim batch old new

-- where it moves a session, it commits the attempt or does nothing
abbrev pub BatchesCommit : Type 0
BatchesCommit = OfBatches (λ batch old new.
    (first session : ℕ) (attempt : Attempt) → Moves first session batch attempt
    → Commits (stored_in first session old) attempt (stored_in first session new))

-- the others stay
abbrev pub BatchesLeaveAlone : Type 0
BatchesLeaveAlone = OfBatches (λ batch old new.
    (first session : ℕ) → LeavesAlone session batch
    → stored_in first session new ≡ stored_in first session old)

-- and with the offset of the shard
abbrev pub BatchesCommitReadings : Type 0
BatchesCommitReadings = OfBatches (λ batch old new.
    (list first session : ℕ) (reading : Reading) → Moves first session batch reading.attempt
    → Reads list batch reading
    → CommitsReading (shard_in list batch.shard first session old) reading
    (shard_in list batch.shard first session new))

-- it can take effect: of any attempt that begins with what is stored, and then what is stored is what the attempt makes
-- of it
abbrev pub BatchesHappen : Type 0
BatchesHappen =
    (first : ℕ) (attempt : Attempt) → (batch : Batch) × Moves first 0 batch attempt
    × ((old : Tables) × (new : Tables) × (executed (transaction batch) old ≡ Some new)
    × ((stored_in first 0 old).demand ≡ attempt.receiver.demand)
    × (stored_in first 0 new ≡ applied (stored_in first 0 old) attempt))

-- where UPDATE has lost its WHERE, an attempt that delivers something doesn't commit or do nothing
abbrev pub BlindBatchesDoNot : Type 0
BlindBatchesDoNot =
    (first : ℕ) (attempt : Attempt) → delivered attempt.verdicts ≢ []
    → (batch : Batch) × Moves first 0 batch attempt
    × ((old : Tables) × (new : Tables) × (executed (blind_transaction batch) old ≡ Some new)
    × ¬ Commits (stored_in first 0 old) attempt (stored_in first 0 new))

-- ---- histories

-- whatever turns of any receivers of any shards come, what the tables have of a session is what a
-- history of attempts leaves
abbrev pub TablesAreHistories : Type 0
TablesAreHistories =
    (sealer : SealerState) (records : List Record) (session : ℕ) (turns : List Turn) (tables : Tables)
    → All (Serves sealer records session) turns → LeadsTables no_rows turns tables
    → (attempts : List Attempt) × All (IsAttempt sealer records) attempts
    × Leads (new_session sealer) attempts (stored_in sealer.next session tables)

-- and of a session of one shard, what a history of readings leaves
abbrev pub TablesAreReadings : Type 0
TablesAreReadings =
    (sealer : SealerState) (records : List Record) (items : List Item) (list shard session : ℕ)
    (turns : List Turn) (tables : Tables)
    → let Is = IsReading sealer records session items in
    LeadsShard Is list shard sealer.next session [] no_rows turns tables
    → (readings : List Reading) × All Is readings
    × LeadsReading (new_shard sealer) readings (shard_in list shard sealer.next session tables)

-- so each text that was put in has one row of an effect at most, in the order in which they were put
-- in
abbrev pub RowsAtMostOnce : Type 0
RowsAtMostOnce = OfOutboxes (λ sealer outbox.
    (session : ℕ) (turns : List Turn) (tables : Tables)
    → All (Serves sealer (stored_records outbox) session) turns → LeadsTables no_rows turns tables
    → IsPrefix (effects_of session tables.effects) (texts_put outbox.inserted))

-- and exactly one, if none waits, all frames count as carried, and the offset in the shard's row is
-- past the last one
abbrev pub RowsOnce : Type 0
RowsOnce = OfOutboxes (λ sealer outbox.
    (list shard session : ℕ) (items : List Item) (happenings : List Happening) (turns : List Turn)
    (tables : Tables)
    → All (IsTruthful sealer (stored_records outbox) session items) happenings
    → LeadsShard (IsReading sealer (stored_records outbox) session items) list shard sealer.next session
    [] no_rows turns tables
    → let progress = after_all (new_progress sealer.next) happenings in
    outbox.waiting ≡ [] → progress.carried ≡ outbox.next
    → progress.at ≤ (shard_in list shard sealer.next session tables).offset
    → (effects_of session tables.effects ≡ texts_put outbox.inserted)
    × ((demand_in sealer.next (tables.sessions session)).closed ≡ has_close_put outbox.inserted))

-- ---- read committed

-- A transaction that runs among others leaves what it would leave at once, after all of them: where
-- each statement has its row's WHERE decided on the latest committed row, and keeps its lock.
abbrev pub RowLocksAreEnough : Type 0
RowLocksAreEnough =
    (its : List (Meanwhile SessionRow)) (last : Others SessionRow) (old : Table SessionRow)
    → HoldsLocks its last
    → among its last old ≡ changed_all (changes_of its) (all_others its last old)

-- ---- an outbox

-- what an application's transaction leaves is what its act leaves, or nothing changed
abbrev pub TextsAreActs : Type 0
TextsAreActs =
    (row : TextRow) (answer : CommitAnswer) (old new : OutboxTables)
    → Ends (statements_of (Puts row)) answer old new
    → (first : ℕ) (outbox : Outbox) → Holds first row.session old outbox
    → (after : Outbox) × Acts outbox (Insert row.body) after × Holds first row.session new after

-- and a sender's
abbrev pub SendingsAreActs : Type 0
SendingsAreActs =
    (it : Sent) (answer : CommitAnswer) (old new : OutboxTables)
    → Ends (statements_of (Sends it)) answer old new
    → (first session : ℕ) (sealing : Sealing) (outbox : Outbox)
    → Seals first session old it sealing → Holds first session old outbox
    → (after : Outbox) × Acts outbox (Seal sealing) after × Holds first session new after

-- whatever an application and any senders do, the tables hold what some acts leave
abbrev pub TablesAreOutboxes : Type 0
TablesAreOutboxes =
    (sealer : SealerState) (session : ℕ) (deeds : List Deed) (tables : OutboxTables)
    → LeadsDeeds sealer session empty_tables deeds tables
    → (acts : List Act) × (outbox : Outbox) × All (IsAct sealer) acts
    × LeadsOutbox (new_outbox sealer) acts outbox × Holds sealer.next session tables outbox

-- So at most one frame ever has a row under a number, however many have been deleted since.
abbrev pub OneRowForEachNumber : Type 0
OneRowForEachNumber =
    (sealer : SealerState) (session : ℕ) (before after : List Deed) (old new : OutboxTables)
    (number : ℕ) (frame other : List ℕ)
    → LeadsDeeds sealer session empty_tables before old → LeadsDeeds sealer session old after new
    → old.frames session number ≡ Some frame → new.frames session number ≡ Some other
    → frame ≡ other

-- where the session has no row, a transaction that goes on from another number than its first one does
-- nothing
abbrev pub NoRowIsCompared : Type 0
NoRowIsCompared =
    (it : Sent) (answer : CommitAnswer) (old new : OutboxTables) → Ends (sending it) answer old new
    → (session : ℕ) (next : Next) → nexts_of session it.nexts ≡ next ∷ []
    → old.next session ≡ None → next.from ≢ next.first → new ≡ old

-- A sender's transaction can take effect: of one text that waits, where its session has no row.
abbrev pub SendingsHappen : Type 0
SendingsHappen =
    (first at : ℕ) (text frame : List ℕ)
    → let sealed : Sealed = record { carried = Text text; at = at; frame = frame } in
    let sealing : Sealing = record { from = first; sealed = sealed ∷ [] } in
    (it : Sent) × (old : OutboxTables) × (new : OutboxTables) × Seals first 0 old it sealing
    × (executed (sending it) old ≡ Some new)
    × (new.next 0 ≡ Some (first + 1)) × (new.frames 0 first ≡ Some frame) × (new.texts ≡ [])

-- ---- an outbox that is restored

-- no number leaves for two records, however often it is restored
abbrev pub OneForEachNumber : Type 0
OneForEachNumber =
    (first : ℕ) (events : List WorldStep) (world : World) → LeadsWorld (new_world first) events world
    → (one other : Kept) → Has world.left one → Has world.left other → one.number ≡ other.number
    → one ≡ other

-- Where a sender begins above the last frame that the carrier has, and not above the highest, two
-- leave under one number: two were sealed, the first came again, and the outbox was restored.
abbrev pub LastIsNotEnough : Type 0
LastIsNotEnough =
    (first : ℕ) (one two other : Sealed)
    → let last : Kept = record { number = first; it = one } in
    let before : Kept = record { number = first + 1; it = two } in
    let again : Kept = record { number = first + 1; it = other } in
    let begun : World = record {
      now = record { next = last.number + 1; keeps = [] };
      past = [];
      left = before ∷ last ∷ [];
      has_begun = true;
    } in
    (world : World) × LeadsWorld begun (SealsMore (other ∷ []) ∷ Leaves again ∷ []) world
    × Has world.left before × Has world.left again
