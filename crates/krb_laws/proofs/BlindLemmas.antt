-- A transaction without its WHERE.
use Rattle.std.proofs.Common.{◌≡◌, ◌≢◌, ℕ, ◌+◌, cond, Bool, true, false, List, [], ◌∷◌, map, Some, None, refl, sym, ap, ◌∙◌, inl, inr, arith}
use Rattle.std.specs.Prelude.{◌==◌, option_and_then}
use Rattle.std.proofs.lemmas.Bool.{eq-eqb, and_from}
use Rattle.krb_peers.specs.Attempt.{Attempt, ends_at}
use Rattle.krb_peers.specs.Demand.{Demand}
use Rattle.krb_peers.specs.Verdicts.{delivered}
use Rattle.krb_carry.specs.Store.{Stored, Commits, applied}
use Rattle.krb_laws.specs.Database.{with_row, executed}
use Rattle.krb_laws.specs.StoreTables.{SessionRow, Effect, Tables, no_rows, nothing_reached, Batch, inserts, blind_advances, blind_transaction, demand_in, effects_of, stored_in, Moves, is_row, advances, transaction}
use Rattle.krb_laws.proofs.DatabaseLemmas.{executed-append}
use Rattle.krb_laws.proofs.StoreTablesLemmas.{inserted}

abbrev row_of : Demand → SessionRow
row_of demand = record { next = demand.expected; closed = cond demand.closed 1 0; missed = 0; at = 0; shard = 0 }

row_demand : (first : ℕ) (demand : Demand) → demand_in first (Some (row_of demand)) ≡ demand
row_demand first demand = ap (λ c. let d : Demand = record { expected = demand.expected; closed = c } in d) (by demand.closed)
  where
    by : (b : Bool) → (cond b 1 0 == 1) ≡ b
    by true = refl
    by false = refl

is_row_itself : (row : SessionRow) → is_row row row ≡ true
is_row_itself row =
    and_from _ _ (eq-eqb row.next row.next refl)
    (and_from _ _ (eq-eqb row.closed row.closed refl)
    (and_from _ _ (eq-eqb row.missed row.missed refl)
    (and_from _ _ (eq-eqb row.at row.at refl) (eq-eqb row.shard row.shard refl))))

abbrev effects_in : List (List ℕ) → List Effect
effects_in texts = map (λ (text : List ℕ). let e : Effect = record { session = 0; text = text } in e) texts

its_effects : (texts : List (List ℕ)) → effects_of 0 (effects_in texts) ≡ texts
its_effects [] = refl
its_effects (text ∷ texts) = ap (λ l. text ∷ l) (its_effects texts)

module _ (first : ℕ) (attempt : Attempt) where
  abbrev batch : Batch
  batch = record {
    shard = 0;
    from = nothing_reached;
    to = record { incarnation = 1; offset = 1 };
    effects = effects_in (delivered attempt.verdicts);
    moves = record { session = 0; from = Some (row_of attempt.receiver.demand); to = row_of (ends_at attempt) } ∷ [];
  }

  is_moved : Moves first 0 batch attempt
  is_moved = record {
    move = record { session = 0; from = Some (row_of attempt.receiver.demand); to = row_of (ends_at attempt) };
    once = refl;
    begins = row_demand first attempt.receiver.demand;
    ends = row_demand first (ends_at attempt);
    effects = its_effects (delivered attempt.verdicts);
  }

  -- what is stored is what the attempt begins with
  abbrev same_old : Tables
  same_old = record no_rows { sessions = with_row (λ (session : ℕ). None) 0 (row_of attempt.receiver.demand) }

  abbrev same_begun : Tables
  same_begun = record same_old { shards = with_row (λ (shard : ℕ). None) 0 batch.to }

  abbrev same_new : Tables
  same_new = record {
    shards = with_row (λ (shard : ℕ). None) 0 batch.to;
    sessions = with_row same_old.sessions 0 (row_of (ends_at attempt));
    effects = batch.effects;
  }

  moved : executed (advances batch.moves) (record same_begun { effects = batch.effects }) ≡ Some same_new
  moved = rw (is_row_itself (row_of attempt.receiver.demand)) refl

  taken : stored_in first 0 same_new ≡ applied (stored_in first 0 same_old) attempt
  taken =
      ap (λ (l : List (List ℕ)). let s : Stored = record { demand = demand_in first (Some (row_of (ends_at attempt))); effects = l } in s) (its_effects (delivered attempt.verdicts))
      ∙ ap (λ (d : Demand). let s : Stored = record { demand = d; effects = delivered attempt.verdicts } in s) (row_demand first (ends_at attempt))

  pub happens : (batch : Batch) × Moves first 0 batch attempt
      × ((old : Tables) × (new : Tables) × (executed (transaction batch) old ≡ Some new) × ((stored_in first 0 old).demand ≡ attempt.receiver.demand)
      × (stored_in first 0 new ≡ applied (stored_in first 0 old) attempt))
  happens = (
    batch,
    is_moved,
    (
      same_old,
      same_new,
      executed-append (inserts batch.effects) (advances batch.moves) same_begun
          ∙ (ap (λ o. option_and_then (executed (advances batch.moves)) o) (inserted batch.effects same_begun) ∙ moved),
      row_demand first attempt.receiver.demand,
      taken,
    ),
  )

module _ (first : ℕ) (attempt : Attempt) (some : delivered attempt.verdicts ≢ []) where
  -- another receiver was faster
  abbrev later : SessionRow
  later = row_of (record { expected = attempt.receiver.demand.expected + 1; closed = false })

  abbrev old : Tables
  old = record no_rows { sessions = with_row (λ (session : ℕ). None) 0 later }

  abbrev new : Tables
  new = record {
    shards = with_row (λ (shard : ℕ). None) 0 (batch first attempt).to;
    sessions = with_row old.sessions 0 (row_of (ends_at attempt));
    effects = (batch first attempt).effects;
  }

  abbrev begun : Tables
  begun = record old { shards = with_row (λ (shard : ℕ). None) 0 (batch first attempt).to }

  does : executed (blind_transaction (batch first attempt)) old ≡ Some new
  does =
      executed-append (inserts (batch first attempt).effects) (blind_advances (batch first attempt).moves) begun
      ∙ ap (λ o. option_and_then (executed (blind_advances (batch first attempt).moves)) o) (inserted (batch first attempt).effects begun)

  not_commits : Commits (stored_in first 0 old) attempt (stored_in first 0 new) → ⊥
  not_commits (inl took) =
      let number : attempt.receiver.demand.expected + 1 ≡ attempt.receiver.demand.expected = ap (λ (d : Demand). d.expected) took.0 in
      omega (arith, number)
  not_commits (inr same) =
      some (sym (its_effects (delivered attempt.verdicts)) ∙ ap (λ (s : Stored). s.effects) same)

  pub blind_does_not : (batch : Batch) × Moves first 0 batch attempt
      × ((old : Tables) × (new : Tables) × (executed (blind_transaction batch) old ≡ Some new) × (Commits (stored_in first 0 old) attempt (stored_in first 0 new) → ⊥))
  blind_does_not = (batch first attempt, is_moved first attempt, (old, new, does, not_commits))
