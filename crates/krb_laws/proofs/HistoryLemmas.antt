-- What any turns leave of the tables of a store.
use Rattle.std.proofs.Common.{◌≡◌, ◌⊎◌, ℕ, ◌+◌, List, [], ◌∷◌, Some, sym, ap, subst, inl, inr}
use Rattle.std.specs.Prelude.{All}
use Rattle.std.proofs.lemmas.List.Elements.{All-nil, All-cons, All-head, All-tail}
use Rattle.krb_record.specs.declared.record.Record.{Record}
use Rattle.krb_seal.specs.Sealer.{SealerState}
use Rattle.krb_peers.specs.Attempt.{Attempt, IsAttempt}
use Rattle.krb_peers.specs.Demand.{Demand}
use Rattle.krb_peers.specs.Verdicts.{records_of}
use Rattle.krb_carry.specs.Reading.{StoredShard, Reading, new_shard, CommitsLess, LeadsLess, LeadsReading}
use Rattle.krb_carry.specs.Store.{Stored, new_session, applied, Leads}
use Rattle.krb_carry.proofs.ReadingLemmas.{less_is_enough}
use Rattle.krb_laws.specs.Database.{executed}
use Rattle.krb_laws.specs.StoreTables.{Tables, no_rows, transaction, offset_in, stored_in, shard_in, Moves, LeavesAlone, Turn, LeadsTables, Serves, ReadsOn, IsElsewhere, LeadsShard}
use Rattle.krb_laws.proofs.DatabaseLemmas.{ended}
use Rattle.krb_laws.proofs.StoreTablesLemmas.{done, commits, stays, began, took, same_shard, offset_was, offset_now}

-- ---- attempts

record HasHistory (sealer : SealerState) (records : List Record) (old new : Stored) : Type 0 where
  pub attempts : List Attempt
  pub each : All (IsAttempt sealer records) attempts
  pub lead : Leads old attempts new

history : (sealer : SealerState) (records : List Record) (session : ℕ) (turns : List Turn) (old new : Tables) → All (Serves sealer records session) turns → LeadsTables old turns new
    → HasHistory sealer records (stored_in sealer.next session old) (stored_in sealer.next session new)
history sealer records session [] old new each same = record { attempts = []; each = All-nil (IsAttempt sealer records); lead = ap (λ t. stored_in sealer.next session t) same }
history sealer records session (turn ∷ turns) old new each leads =
    let rest = history sealer records session turns (leads.0) new (All-tail (Serves sealer records session) turn turns each) leads.2 in
    more (leads.0) (ended (transaction turn.batch) turn.answer old (leads.0) leads.1) (All-head (Serves sealer records session) turn turns each) rest
  where
    more : (between : Tables) → (executed (transaction turn.batch) old ≡ Some between) ⊎ (between ≡ old) → Serves sealer records session turn → HasHistory sealer records (stored_in sealer.next session between) (stored_in sealer.next session new)
        → HasHistory sealer records (stored_in sealer.next session old) (stored_in sealer.next session new)
    more between ends (inl served) rest = record {
      attempts = served.0 ∷ rest.attempts;
      each = All-cons (IsAttempt sealer records) (served.0) rest.attempts served.1 rest.each;
      lead = (stored_in sealer.next session between, commits turn.batch sealer.next session (served.0) served.2 old between ends, rest.lead);
    }
    more between ends (inr alone) rest =
        let same = stays turn.batch sealer.next session alone old between ends in
        record { attempts = rest.attempts; each = rest.each; lead = subst (λ s. Leads s rest.attempts (stored_in sealer.next session new)) same rest.lead }

pub are_histories : (sealer : SealerState) (records : List Record) (session : ℕ) (turns : List Turn) (tables : Tables) → All (Serves sealer records session) turns → LeadsTables no_rows turns tables
    → (attempts : List Attempt) × All (IsAttempt sealer records) attempts × Leads (new_session sealer) attempts (stored_in sealer.next session tables)
are_histories sealer records session turns tables each leads =
    let it = history sealer records session turns no_rows tables each leads in
    (it.attempts, it.each, it.lead)

-- ---- readings

module _ (list shard first session : ℕ) where
  abbrev shown : Tables → StoredShard
  shown tables = shard_in list shard first session tables

  commits_less : (turn : Turn) (reading : Reading) → ReadsOn list shard first session turn reading → (old new : Tables) → (executed (transaction turn.batch) old ≡ Some new) ⊎ (new ≡ old) → CommitsLess (shown old) reading (shown new)
  commits_less turn reading on old new (inr same) = inr (ap (λ t. shown t) same)
  commits_less turn reading on old new (inl is) = by on.has
    where
      was : offset_in list (old.shards shard) ≡ reading.from
      was = subst (λ s. offset_in list (old.shards s) ≡ reading.from) on.of_shard (offset_was turn.batch list reading on.reads old new is)

      now : offset_in list (new.shards shard) ≡ reading.from + reading.count
      now = subst (λ s. offset_in list (new.shards s) ≡ reading.from + reading.count) on.of_shard (offset_now turn.batch list reading on.reads old new is)

      by : Moves first session turn.batch reading.attempt ⊎ (LeavesAlone session turn.batch × (records_of reading.attempt.verdicts ≡ [])) → CommitsLess (shown old) reading (shown new)
      by (inl moves) = inl (
        was,
        on.some,
        inr (
          ap (λ (d : Demand). d.expected) (began turn.batch first session reading.attempt moves old new is),
          same_shard (shown new) (record { offset = reading.from + reading.count; session = applied (stored_in first session old) reading.attempt }) now (took turn.batch first session reading.attempt moves old new is),
        ),
      )
      by (inr none) = inl (
        was,
        on.some,
        inl (
          none.1,
          same_shard (shown new) (record { offset = reading.from + reading.count; session = stored_in first session old }) now (stays turn.batch first session none.0 old new (inl is)),
        ),
      )

  elsewhere : (turn : Turn) → IsElsewhere shard session turn → (old new : Tables) → (executed (transaction turn.batch) old ≡ Some new) ⊎ (new ≡ old) → shown new ≡ shown old
  elsewhere turn other old new (inr same) = ap (λ t. shown t) same
  elsewhere turn other old new (inl is) =
      same_shard (shown new) (shown old) (ap (λ o. offset_in list o) ((done turn.batch session old new is).others shard (λ e. other.other (sym e)))) (stays turn.batch first session other.alone old new (inl is))

  record HasReadings (Is : Reading → Type 0) (seen : List StoredShard) (old new : StoredShard) : Type 0 where
    pub readings : List Reading
    pub each : All Is readings
    pub lead : LeadsLess seen old readings new

  readings_of : (Is : Reading → Type 0) (seen : List StoredShard) (turns : List Turn) (old new : Tables) → LeadsShard Is list shard first session seen old turns new → HasReadings Is seen (shown old) (shown new)
  readings_of Is seen [] old new same = record { readings = []; each = All-nil Is; lead = ap (λ t. shown t) same }
  readings_of Is seen (turn ∷ turns) old new leads =
      let between = leads.0 in
      let ends = ended (transaction turn.batch) turn.answer old between leads.1 in
      elim leads.2 [
        | inl on ↦
            let rest = readings_of Is (shown old ∷ seen) turns between new on.4 in
            record {
              readings = on.0 ∷ rest.readings;
              each = All-cons Is (on.0) rest.readings on.1 rest.each;
              lead = (shown between, on.2, commits_less turn (on.0) on.3 old between ends, rest.lead);
            }
        | inr other ↦
            let rest = readings_of Is seen turns between new other.1 in
            record {
              readings = rest.readings;
              each = rest.each;
              lead = subst (λ s. LeadsLess seen s rest.readings (shown new)) (elsewhere turn other.0 old between ends) rest.lead;
            }
      ]

pub are_readings : (sealer : SealerState) (Is : Reading → Type 0) (list shard session : ℕ) (turns : List Turn) (tables : Tables) → LeadsShard Is list shard sealer.next session [] no_rows turns tables
    → (readings : List Reading) × All Is readings × LeadsReading (new_shard sealer) readings (shard_in list shard sealer.next session tables)
are_readings sealer Is list shard session turns tables leads =
    let it = readings_of list shard sealer.next session Is [] turns no_rows tables leads in
    (it.readings, it.each, less_is_enough sealer it.readings (shard_in list shard sealer.next session tables) it.lead)
