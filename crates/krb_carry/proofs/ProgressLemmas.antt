-- Confirmed frames that count stand in their turn.
use Rattle.std.proofs.Common.{◌≡◌, ℕ, suc, ◌+◌, ◌<◌, ◌≤◌, ◌==◌, nat_lt, ◌&&◌, if◌then◌else◌, Bool, true, false, List, [], ◌∷◌, length, refl, sym, subst, ◌∙◌, arith, inl, inr, eqb-true}
use Rattle.std.specs.Prelude.{All}
use Rattle.std.proofs.lemmas.Bool.{cases_lt, and_parts, ltb-true, lt-ltb, le-ltb}
use Rattle.std.proofs.lemmas.List.Elements.{All-head, All-tail}
use Rattle.std.proofs.lemmas.Option.{slice_get_within}
use Rattle.krb_carry.specs.ProgressState.{ProgressState}
use Rattle.krb_record.specs.declared.record.Record.{Record}
use Rattle.krb_seal.specs.Sealer.{SealerState}
use Rattle.krb_carry.specs.Shard.{Item, StandsAt, Stands}
use Rattle.krb_carry.specs.Progress.{Counts, counts, counted, resumed, IsCounted, Happening, Store, Publish, Rewind, Confirm, after, after_all, IsTruthful, StandInTurn}
use Rattle.krb_carry.proofs.ShardLemmas.{item_of}

-- ---- the test

pub counts_is : (p : ProgressState) (number offset : ℕ) → counts p number offset ≡ true → Counts p number offset
counts_is p number offset test =
    let both = and_parts ((number == p.carried) && nat_lt p.carried p.next) (nat_lt p.at offset) test in
    let front = and_parts (number == p.carried) (nat_lt p.carried p.next) both.0 in
    record {
      first_one = eqb-true number p.carried front.0;
      stored = ltb-true p.carried p.next front.1;
      later = ltb-true p.at offset both.1;
    }

-- ---- one more place

abbrev with_place : (ℕ → ℕ) → ℕ → ℕ → ℕ → ℕ
with_place place n more k = if nat_lt k n then place k else more

old_place : (place : ℕ → ℕ) (n more k : ℕ) → k < n → with_place place n more k ≡ place k
old_place place n more k lt = rw (lt-ltb k n lt) refl

new_place : (place : ℕ → ℕ) (n more k : ℕ) → n ≤ k → with_place place n more k ≡ more
new_place place n more k le = rw (le-ltb k n le) refl

module _ (sealer : SealerState) (records : List Record) (session : ℕ) (shard : List Item) (done : ℕ) where
  pub none_stand : (next : ℕ) → StandInTurn sealer records session shard done (resumed next done 0)
  none_stand next = record {
    place = λ k. k;
    stands = λ k counted. absurd (omega (arith, counted.0, counted.1));
    rises = λ k counted more. absurd (omega (arith, counted.0, counted.1));
    within = λ k counted. absurd (omega (arith, counted.0, counted.1));
  }

  one_more : (p : ProgressState) (number offset : ℕ) → StandInTurn sealer records session shard done p → Stands sealer records session shard number offset → Counts p number offset → StandInTurn sealer records session shard done (counted p offset)
  one_more p number offset turn there it =
      let n = there.k in
      let carried : p.carried ≡ sealer.next + n = sym it.first_one ∙ there.number_is in
      let P : ℕ → ℕ → Type 0 = λ k q. StandsAt sealer records session shard k q in
      record {
        place = with_place turn.place n there.place;
        stands = λ k counted. elim (cases_lt k n) [
          | inl below ↦ subst (P k) (sym (old_place turn.place n there.place k below)) (turn.stands k (counted.0, omega (arith, below, carried)))
          | inr from ↦
              let same : n ≡ k = omega (arith, from, counted.1, carried) in
              subst (P k) (sym (new_place turn.place n there.place k from)) (subst (λ j. P j there.place) same there.stands)
        ];
        rises = λ k counted more.
            let before : k < n = omega (arith, more.1, carried) in
            let its : IsCounted sealer done p k = (counted.0, omega (arith, before, carried)) in
            let here = old_place turn.place n there.place k before in
            elim (cases_lt (suc k) n) [
              | inl below ↦
                  let next = old_place turn.place n there.place (suc k) below in
                  omega (arith, here, next, turn.rises k its (more.0, omega (arith, below, carried)))
              | inr from ↦
                  let next = new_place turn.place n there.place (suc k) from in
                  omega (arith, here, next, turn.within k its, it.later, there.offset_is)
            ];
        within = λ k counted. elim (cases_lt k n) [
          | inl below ↦ omega (arith, old_place turn.place n there.place k below, turn.within k (counted.0, omega (arith, below, carried)), it.later)
          | inr from ↦ omega (arith, new_place turn.place n there.place k from, there.offset_is)
        ];
      }

  same_turn : (p q : ProgressState) → q.carried ≡ p.carried → q.at ≡ p.at → StandInTurn sealer records session shard done p → StandInTurn sealer records session shard done q
  same_turn p q carried at turn =
      let its : (k : ℕ) → IsCounted sealer done q k → IsCounted sealer done p k = λ k counted. (counted.0, omega (arith, counted.1, carried)) in
      record {
        place = turn.place;
        stands = λ k counted. turn.stands k (its k counted);
        rises = λ k counted more. turn.rises k (its k counted) (its (suc k) more);
        within = λ k counted. omega (arith, at, turn.within k (its k counted));
      }

  after_test : (p : ProgressState) (number offset : ℕ) (b : Bool) → counts p number offset ≡ b → StandInTurn sealer records session shard done p → Stands sealer records session shard number offset
      → StandInTurn sealer records session shard done (if b then counted p offset else p)
  after_test p number offset true is turn there = one_more p number offset turn there (counts_is p number offset is)
  after_test p number offset false is turn there = turn

  turn_after : (p : ProgressState) (it : Happening) → StandInTurn sealer records session shard done p → IsTruthful sealer records session shard it → StandInTurn sealer records session shard done (after p it)
  turn_after p (Store count) turn true_ = same_turn p (after p (Store count)) refl refl turn
  turn_after p (Publish count) turn true_ = same_turn p (after p (Publish count)) refl refl turn
  turn_after p Rewind turn true_ = same_turn p (after p Rewind) refl refl turn
  turn_after p (Confirm number offset) turn there = after_test p number offset (counts p number offset) refl turn there

  pub turn_after_all : (p : ProgressState) (happenings : List Happening) → StandInTurn sealer records session shard done p → All (IsTruthful sealer records session shard) happenings → StandInTurn sealer records session shard done (after_all p happenings)
  turn_after_all p [] turn are = turn
  turn_after_all p (it ∷ happenings) turn are =
      turn_after_all (after p it) happenings (turn_after p it turn (All-head (IsTruthful sealer records session shard) it happenings are)) (All-tail (IsTruthful sealer records session shard) it happenings are)

  -- none stands beyond the shard
  inside_test : (p : ProgressState) (number offset : ℕ) (b : Bool) → p.at ≤ length shard → Stands sealer records session shard number offset → (if b then counted p offset else p).at ≤ length shard
  inside_test p number offset true le there =
      let within = slice_get_within shard there.place (item_of session (there.stands).it.frame) (there.stands).there in
      omega (arith, within, there.offset_is)
  inside_test p number offset false le there = le

  inside_after : (p : ProgressState) (it : Happening) → p.at ≤ length shard → IsTruthful sealer records session shard it → (after p it).at ≤ length shard
  inside_after p (Store count) le true_ = le
  inside_after p (Publish count) le true_ = le
  inside_after p Rewind le true_ = le
  inside_after p (Confirm number offset) le there = inside_test p number offset (counts p number offset) le there

  pub inside_after_all : (p : ProgressState) (happenings : List Happening) → p.at ≤ length shard → All (IsTruthful sealer records session shard) happenings → (after_all p happenings).at ≤ length shard
  inside_after_all p [] le are = le
  inside_after_all p (it ∷ happenings) le are =
      inside_after_all (after p it) happenings (inside_after p it le (All-head (IsTruthful sealer records session shard) it happenings are)) (All-tail (IsTruthful sealer records session shard) it happenings are)
