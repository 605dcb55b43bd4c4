-- What a receiver's transaction leaves of the tables of a store.
use Rattle.std.proofs.Common.{◌≡◌, ◌⊎◌, ℕ, ◌+◌, ◌==◌, cond, Bool, true, false, List, [], ◌∷◌, ◌++◌, Option, Some, None, refl, sym, ap, ap₂, subst, ◌∙◌, inl, inr, append_assoc, append-nil}
use Rattle.std.specs.Prelude.{option_map, option_and_then}
use Rattle.std.proofs.lemmas.Bool.{eq-eqb, ne_eqb, eqb-true, and_parts, cases_eq}
use Rattle.krb_peers.specs.Attempt.{Attempt}
use Rattle.krb_peers.specs.Demand.{Demand}
use Rattle.krb_carry.specs.Reading.{StoredShard, Reading, CommitsReading}
use Rattle.krb_carry.specs.Store.{Stored, applied, Commits}
use Rattle.krb_carry.proofs.StoreLemmas.{same_stored}
use Rattle.krb_laws.specs.Database.{Table, with_row, executed, upsert}
use Rattle.krb_laws.specs.StoreTables.{Reached, SessionRow, Effect, Tables, nothing_reached, is_reached, move_shard, is_row, Move, written, advance, reset_row, reset, reset_sessions, on_shards, on_sessions, Batch, is_other, resets, inserts, advances, transaction, demand_in, effects_of, moves_of, stored_in, offset_in, shard_in, Moves, LeavesAlone, Reads}
use Rattle.krb_laws.proofs.DatabaseLemmas.{mapped, chained, guarded, at_key, at_other, changed_row, executed_parts}

-- ---- the row of the shard

reached_offset : (list : ℕ) (from row : Reached) → is_reached from row ≡ true → offset_in list (Some row) ≡ offset_in list (Some from)
reached_offset list from row is =
    let parts = and_parts (row.incarnation == from.incarnation) (row.offset == from.offset) is in
    ap₂ (λ i o. cond (i == list) o 0) (eqb-true row.incarnation from.incarnation parts.0) (eqb-true row.offset from.offset parts.1)

none_reached : (list : ℕ) (from : Reached) → is_reached nothing_reached from ≡ true → 0 ≡ offset_in list (Some from)
none_reached list from is =
    let parts = and_parts (from.incarnation == 0) (from.offset == 0) is in
    let offset = eqb-true from.offset 0 parts.1 in
    elim (from.incarnation == list) as (λ b. 0 ≡ cond b from.offset 0) [
      | true ↦ sym offset
      | false ↦ refl
    ]

upserted : (from to : Reached) (o : Option Reached) (row : Reached) → upsert (is_reached nothing_reached from) (is_reached from) to o ≡ Some row
    → (to ≡ row) × ((list : ℕ) → offset_in list o ≡ offset_in list (Some from))
upserted from to None row is =
    let it = guarded (is_reached nothing_reached from) to row is in
    (it.1, λ list. none_reached list from it.0)
upserted from to (Some old) row is =
    let it = guarded (is_reached from old) to row is in
    (it.1, λ list. reached_offset list from old it.0)

record ShardMoved (shard : ℕ) (from to : Reached) (old new : Tables) : Type 0 where
  pub was : (list : ℕ) → offset_in list (old.shards shard) ≡ offset_in list (Some from)
  pub now : new.shards shard ≡ Some to
  pub others : (other : ℕ) → (other ≡ shard → ⊥) → new.shards other ≡ old.shards other
  pub sessions : new.sessions ≡ old.sessions
  pub effects : new.effects ≡ old.effects

shard_moved : (shard : ℕ) (from to : Reached) (old new : Tables) → on_shards (move_shard shard from to) old ≡ Some new → ShardMoved shard from to old new
shard_moved shard from to old new is =
    let put = mapped (λ (shards : Table Reached). let t : Tables = record old { shards = shards } in t) _ new is in
    let row = changed_row (move_shard shard from to) old.shards (put.0) put.1 in
    let it = upserted from to (old.shards shard) (row.0) row.1 in
    let shards : with_row old.shards shard (row.0) ≡ new.shards = row.2 ∙ ap (λ (t : Tables). t.shards) put.2 in
    record {
      was = it.1;
      now = ap (λ (t : Table Reached). t shard) (sym shards) ∙ (at_key old.shards shard (row.0) ∙ ap (λ r. Some r) (sym it.0));
      others = λ other apart. ap (λ (t : Table Reached). t other) (sym shards) ∙ at_other old.shards shard other (row.0) apart;
      sessions = ap (λ (t : Tables). t.sessions) (sym put.2);
      effects = ap (λ (t : Tables). t.effects) (sym put.2);
    }

-- ---- another list

reset_demand : (first shard : ℕ) (o : Option SessionRow) → demand_in first (option_map (reset_row shard) o) ≡ demand_in first o
reset_demand first shard None = refl
reset_demand first shard (Some row) =
    elim (row.shard == shard) as (λ b. demand_in first (Some (cond b (record row { at = 0; missed = 0 }) row)) ≡ demand_in first (Some row)) [
      | true ↦ refl
      | false ↦ refl
    ]

record WasReset (old new : Tables) : Type 0 where
  pub shards : new.shards ≡ old.shards
  pub effects : new.effects ≡ old.effects
  pub demands : (first session : ℕ) → demand_in first (new.sessions session) ≡ demand_in first (old.sessions session)

was_reset : (batch : Batch) (old new : Tables) → executed (resets batch) old ≡ Some new → WasReset old new
was_reset batch old new is = by (is_other batch.from batch.to) is
  where
    by : (b : Bool) → executed (cond b (reset_sessions batch.shard ∷ []) []) old ≡ Some new → WasReset old new
    by true it =
        let then : Tables = record old { sessions = reset batch.shard old.sessions } in
        let same : then ≡ new = (let e : Some then ≡ Some new = it in cc) in
        record {
          shards = ap (λ (t : Tables). t.shards) (sym same);
          effects = ap (λ (t : Tables). t.effects) (sym same);
          demands = λ first session. ap (λ (t : Tables). demand_in first (t.sessions session)) (sym same) ∙ reset_demand first batch.shard (old.sessions session);
        }
    by false it =
        let same : old ≡ new = (let e : Some old ≡ Some new = it in cc) in
        record {
          shards = ap (λ (t : Tables). t.shards) (sym same);
          effects = ap (λ (t : Tables). t.effects) (sym same);
          demands = λ first session. ap (λ (t : Tables). demand_in first (t.sessions session)) (sym same);
        }

-- ---- effects

pub inserted : (effects : List Effect) (old : Tables) → executed (inserts effects) old ≡ Some (record old { effects = old.effects ++ effects })
inserted [] old = ap (λ es. let t : Tables = record old { effects = es } in Some t) (sym (append-nil old.effects))
inserted (effect ∷ effects) old =
    let then : Tables = record old { effects = old.effects ++ effect ∷ [] } in
    inserted effects then ∙ ap (λ es. let t : Tables = record old { effects = es } in Some t) (append_assoc old.effects (effect ∷ []) effects)

effects_of-append : (session : ℕ) (xs ys : List Effect) → effects_of session (xs ++ ys) ≡ effects_of session xs ++ effects_of session ys
effects_of-append session [] ys = refl
effects_of-append session (x ∷ xs) ys =
    let rest = effects_of-append session xs ys in
    elim (x.session == session) as (λ b. cond b (x.text ∷ effects_of session (xs ++ ys)) (effects_of session (xs ++ ys)) ≡ cond b (x.text ∷ effects_of session xs) (effects_of session xs) ++ effects_of session ys) [
      | true ↦ ap (λ l. x.text ∷ l) rest
      | false ↦ rest
    ]

-- ---- the row of a session

-- what the moves of one session write
abbrev steps : List Move → Option SessionRow → Option (Option SessionRow)
steps [] row = Some row
steps (move ∷ moves) row = option_and_then (λ (new : SessionRow). steps moves (Some new)) (written move.from move.to row)

record Advanced (session : ℕ) (moves : List Move) (old new : Tables) : Type 0 where
  pub shards : new.shards ≡ old.shards
  pub effects : new.effects ≡ old.effects
  pub row : steps (moves_of session moves) (old.sessions session) ≡ Some (new.sessions session)

advanced : (session : ℕ) (moves : List Move) (old new : Tables) → executed (advances moves) old ≡ Some new → Advanced session moves old new
advanced session [] old new is =
    let same : old ≡ new = (let e : Some old ≡ Some new = is in cc) in
    record {
      shards = ap (λ (t : Tables). t.shards) (sym same);
      effects = ap (λ (t : Tables). t.effects) (sym same);
      row = ap (λ (t : Tables). Some (t.sessions session)) same;
    }
advanced session (move ∷ moves) old new is =
    let one = chained (executed (advances moves)) (on_sessions (advance move) old) new is in
    let between = one.0 in
    let put = mapped (λ (sessions : Table SessionRow). let t : Tables = record old { sessions = sessions } in t) _ between one.1 in
    let row = changed_row (advance move) old.sessions (put.0) put.1 in
    let sessions : with_row old.sessions move.session (row.0) ≡ between.sessions = row.2 ∙ ap (λ (t : Tables). t.sessions) put.2 in
    let rest = advanced session moves between new one.2 in
    record {
      shards = rest.shards ∙ ap (λ (t : Tables). t.shards) (sym put.2);
      effects = rest.effects ∙ ap (λ (t : Tables). t.effects) (sym put.2);
      row = by (cases_eq move.session session) (row.0) between row.1 sessions rest.row;
    }
  where
    by : (move.session ≡ session) ⊎ (move.session ≡ session → ⊥) → (row : SessionRow) (between : Tables) → written move.from move.to (old.sessions move.session) ≡ Some row → with_row old.sessions move.session row ≡ between.sessions
        → steps (moves_of session moves) (between.sessions session) ≡ Some (new.sessions session) → steps (moves_of session (move ∷ moves)) (old.sessions session) ≡ Some (new.sessions session)
    by (inl same) row between writes is rest =
        let there : between.sessions session ≡ Some row = ap (λ (t : Table SessionRow). t session) (sym is) ∙ subst (λ s. with_row old.sessions move.session row s ≡ Some row) same (at_key old.sessions move.session row) in
        let here : written move.from move.to (old.sessions session) ≡ Some row = subst (λ s. written move.from move.to (old.sessions s) ≡ Some row) same writes in
        rw (eq-eqb move.session session same) (rw here (ap (λ o. steps (moves_of session moves) o) (sym there) ∙ rest))
    by (inr apart) row between writes is rest =
        let there : between.sessions session ≡ old.sessions session = ap (λ (t : Table SessionRow). t session) (sym is) ∙ at_other old.sessions move.session session row (λ e. apart (sym e)) in
        rw (ne_eqb move.session session apart) (ap (λ o. steps (moves_of session moves) o) (sym there) ∙ rest)

row_demand : (first : ℕ) (from row : SessionRow) → is_row from row ≡ true → demand_in first (Some row) ≡ demand_in first (Some from)
row_demand first from row is =
    let next = and_parts (row.next == from.next) _ is in
    let closed = and_parts (row.closed == from.closed) _ next.1 in
    ap₂ (λ n c. let d : Demand = record { expected = n; closed = c == 1 } in d) (eqb-true row.next from.next next.0) (eqb-true row.closed from.closed closed.0)

was_written : (first : ℕ) (from : Option SessionRow) (to : SessionRow) (o : Option SessionRow) (row : SessionRow) → written from to o ≡ Some row → (to ≡ row) × (demand_in first o ≡ demand_in first from)
was_written first None to None row is = ((let e : Some to ≡ Some row = is in cc), refl)
was_written first None to (Some old) row is = absurd (let e = is in cc)
was_written first (Some from) to None row is = absurd (let e = is in cc)
was_written first (Some from) to (Some old) row is =
    let it = guarded (is_row from old) to row is in
    (it.1, row_demand first from old it.0)

-- ---- the transaction

pub record Done (batch : Batch) (session : ℕ) (old new : Tables) : Type 0 where
  pub was : (list : ℕ) → offset_in list (old.shards batch.shard) ≡ offset_in list (Some batch.from)
  pub now : new.shards batch.shard ≡ Some batch.to
  pub others : (other : ℕ) → (other ≡ batch.shard → ⊥) → new.shards other ≡ old.shards other
  pub effects : new.effects ≡ old.effects ++ batch.effects
  pub between : Option SessionRow
  pub same : (first : ℕ) → demand_in first between ≡ demand_in first (old.sessions session)
  pub row : steps (moves_of session batch.moves) between ≡ Some (new.sessions session)

pub done : (batch : Batch) (session : ℕ) (old new : Tables) → executed (transaction batch) old ≡ Some new → Done batch session old new
done batch session old new is =
    let begun = chained (executed (resets batch ++ (inserts batch.effects ++ advances batch.moves))) (on_shards (move_shard batch.shard batch.from batch.to) old) new is in
    let shard = shard_moved batch.shard batch.from batch.to old (begun.0) begun.1 in
    let reset = executed_parts (resets batch) (inserts batch.effects ++ advances batch.moves) (begun.0) new begun.2 in
    let was = was_reset batch (begun.0) (reset.0) reset.1 in
    let rest = executed_parts (inserts batch.effects) (advances batch.moves) (reset.0) new reset.2 in
    let then : Tables = record (reset.0) { effects = (reset.0).effects ++ batch.effects } in
    let put : then ≡ rest.0 = (let e : Some then ≡ Some (rest.0) = sym (inserted batch.effects (reset.0)) ∙ rest.1 in cc) in
    let end = advanced session batch.moves then new (subst (λ t. executed (advances batch.moves) t ≡ Some new) (sym put) rest.2) in
    let shards : new.shards ≡ (begun.0).shards = end.shards ∙ was.shards in
    record {
      was = shard.was;
      now = ap (λ (t : Table Reached). t batch.shard) shards ∙ shard.now;
      others = λ other apart. ap (λ (t : Table Reached). t other) shards ∙ shard.others other apart;
      effects = end.effects ∙ ap (λ es. es ++ batch.effects) (was.effects ∙ shard.effects);
      between = (reset.0).sessions session;
      same = λ first. was.demands first session ∙ ap (λ (t : Table SessionRow). demand_in first (t session)) shard.sessions;
      row = end.row;
    }

-- ---- commits, or does nothing

module _ (batch : Batch) (first session : ℕ) (attempt : Attempt) (moves : Moves first session batch attempt) (old new : Tables) (is : executed (transaction batch) old ≡ Some new) where
  abbrev d : Done batch session old new
  d = done batch session old new is

  row_moved : (row : SessionRow) × (written moves.move.from moves.move.to d.between ≡ Some row) × (Some row ≡ new.sessions session)
  row_moved =
      let whole : steps (moves.move ∷ []) d.between ≡ Some (new.sessions session) = subst (λ ms. steps ms d.between ≡ Some (new.sessions session)) moves.once d.row in
      let one = chained (λ (row : SessionRow). steps [] (Some row)) (written moves.move.from moves.move.to d.between) (new.sessions session) whole in
      (one.0, one.1, (let e : Some (Some (one.0)) ≡ Some (new.sessions session) = one.2 in cc))

  pub began : (stored_in first session old).demand ≡ attempt.receiver.demand
  began =
      let was = was_written first moves.move.from moves.move.to d.between (row_moved.0) row_moved.1 in
      sym (d.same first) ∙ (was.1 ∙ moves.begins)

  pub took : stored_in first session new ≡ applied (stored_in first session old) attempt
  took =
      let was = was_written first moves.move.from moves.move.to d.between (row_moved.0) row_moved.1 in
      same_stored (stored_in first session new) (applied (stored_in first session old) attempt)
      (ap (λ o. demand_in first o) (sym row_moved.2) ∙ (ap (λ r. demand_in first (Some r)) (sym was.0) ∙ moves.ends))
      (ap (λ es. effects_of session es) d.effects ∙ (effects_of-append session old.effects batch.effects ∙ ap (λ l. effects_of session old.effects ++ l) moves.effects))

pub commits : (batch : Batch) (first session : ℕ) (attempt : Attempt) → Moves first session batch attempt → (old new : Tables) → (executed (transaction batch) old ≡ Some new) ⊎ (new ≡ old) → Commits (stored_in first session old) attempt (stored_in first session new)
commits batch first session attempt moves old new (inl is) = inl (began batch first session attempt moves old new is, took batch first session attempt moves old new is)
commits batch first session attempt moves old new (inr same) = inr (ap (λ t. stored_in first session t) same)

pub stays : (batch : Batch) (first session : ℕ) → LeavesAlone session batch → (old new : Tables) → (executed (transaction batch) old ≡ Some new) ⊎ (new ≡ old) → stored_in first session new ≡ stored_in first session old
stays batch first session alone old new (inl is) =
    let d = done batch session old new is in
    let row : Some d.between ≡ Some (new.sessions session) = subst (λ ms. steps ms d.between ≡ Some (new.sessions session)) alone.no_move d.row in
    let same : d.between ≡ new.sessions session = cc in
    same_stored (stored_in first session new) (stored_in first session old)
    (ap (λ o. demand_in first o) (sym same) ∙ d.same first)
    (ap (λ es. effects_of session es) d.effects ∙ (effects_of-append session old.effects batch.effects ∙ (ap (λ l. effects_of session old.effects ++ l) alone.no_effect ∙ append-nil (effects_of session old.effects))))
stays batch first session alone old new (inr same) = ap (λ t. stored_in first session t) same

-- ---- with the offset

pub same_shard : (a b : StoredShard) → a.offset ≡ b.offset → a.session ≡ b.session → a ≡ b
same_shard a b offset session = ap₂ (λ (o : ℕ) (s : Stored). let r : StoredShard = record { offset = o; session = s } in r) offset session

pub offset_was : (batch : Batch) (list : ℕ) (reading : Reading) → Reads list batch reading → (old new : Tables) → executed (transaction batch) old ≡ Some new → offset_in list (old.shards batch.shard) ≡ reading.from
offset_was batch list reading reads old new is = (done batch 0 old new is).was list ∙ reads.from

pub offset_now : (batch : Batch) (list : ℕ) (reading : Reading) → Reads list batch reading → (old new : Tables) → executed (transaction batch) old ≡ Some new → offset_in list (new.shards batch.shard) ≡ reading.from + reading.count
offset_now batch list reading reads old new is =
    let same : (batch.to.incarnation == list) ≡ true = eq-eqb batch.to.incarnation list reads.list_is in
    ap (λ o. offset_in list o) (done batch 0 old new is).now ∙ (rw same reads.to)

pub commits_reading : (batch : Batch) (list first session : ℕ) (reading : Reading) → Moves first session batch reading.attempt → Reads list batch reading → (old new : Tables) → (executed (transaction batch) old ≡ Some new) ⊎ (new ≡ old)
    → CommitsReading (shard_in list batch.shard first session old) reading (shard_in list batch.shard first session new)
commits_reading batch list first session reading moves reads old new (inl is) = inl (
  offset_was batch list reading reads old new is,
  began batch first session reading.attempt moves old new is,
  same_shard (shard_in list batch.shard first session new) (record { offset = reading.from + reading.count; session = applied (stored_in first session old) reading.attempt }) (offset_now batch list reading reads old new is) (took batch first session reading.attempt moves old new is),
)
commits_reading batch list first session reading moves reads old new (inr same) = inr (ap (λ t. shard_in list batch.shard first session t) same)
