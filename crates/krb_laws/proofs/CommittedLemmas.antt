-- A transaction among others, with row locks.
use Rattle.std.proofs.Common.{◌≡◌, ◌⊎◌, ℕ, false, List, [], ◌∷◌, Option, Some, None, refl, sym, ap, ◌∙◌, inl, inr}
use Rattle.std.specs.Prelude.{All, option_map, option_and_then}
use Rattle.std.proofs.lemmas.Bool.{eq-eqb, ne_eqb, cases_eq}
use Rattle.std.proofs.lemmas.List.Elements.{All-head, All-tail}
use Rattle.std.proofs.Math.Path.{fun_ext}
use Rattle.krb_laws.specs.Database.{Table, with_row, Change, changed, Others, after_others, Meanwhile, among, HoldsLocks, all_others, changed_all, changes_of}

then_same : {A B C : Type 0} (f : A → Option C) (g : B → Option C) (h : A → B) → ((x : A) → f x ≡ g (h x)) → (o : Option A) → option_and_then f o ≡ option_and_then g (option_map h o)
then_same f g h same None = refl
then_same f g h same (Some x) = same x

module _ {Row : Type 0} where
  -- what happens to a table leaves a row alone, and doesn't depend on it
  record Spares (key : ℕ) (f : Table Row → Table Row) : Type 0 where
    pub there : (table : Table Row) → f table key ≡ table key
    pub beside : (table : Table Row) (row : Row) → with_row (f table) key row ≡ f (with_row table key row)

  others_spare : (key : ℕ) (others : Others Row) → others.are_theirs key ≡ false → Spares key (λ table. after_others others table)
  others_spare key others apart = record {
    there = λ table. rw apart refl;
    beside = λ table row. fun_ext (λ other. by table row other (cases_eq other key));
  }
    where
      by : (table : Table Row) (row : Row) (other : ℕ) → (other ≡ key) ⊎ (other ≡ key → ⊥) → with_row (after_others others table) key row other ≡ after_others others (with_row table key row) other
      by table row other (inl same) =
          let mine : others.are_theirs other ≡ false = ap others.are_theirs same ∙ apart in
          rw (eq-eqb other key same) (rw mine refl)
      by table row other (inr not) = rw (ne_eqb other key not) refl

  both_spare : (key : ℕ) (f g : Table Row → Table Row) → Spares key f → Spares key g → Spares key (λ table. g (f table))
  both_spare key f g first second = record {
    there = λ table. second.there (f table) ∙ first.there table;
    beside = λ table row. second.beside (f table) row ∙ ap g (first.beside table row);
  }

  spared : (change : Change Row) (f : Table Row → Table Row) → Spares change.key f → (table : Table Row) → changed change (f table) ≡ option_map f (changed change table)
  spared change f spares table =
      ap (λ o. option_map (λ row. with_row (f table) change.key row) (change.writes o)) (spares.there table)
      ∙ by (change.writes (table change.key))
    where
      by : (o : Option Row) → option_map (λ row. with_row (f table) change.key row) o ≡ option_map f (option_map (λ row. with_row table change.key row) o)
      by None = refl
      by (Some row) = ap (λ t. Some t) (spares.beside table row)

  all_spare : (key : ℕ) (its : List (Meanwhile Row)) (last : Others Row) → All (λ (later : Meanwhile Row). later.others.are_theirs key ≡ false) its → last.are_theirs key ≡ false → Spares key (λ table. all_others its last table)
  all_spare key [] last each end = others_spare key last end
  all_spare key (it ∷ its) last each end =
      let P : Meanwhile Row → Type 0 = λ (later : Meanwhile Row). later.others.are_theirs key ≡ false in
      both_spare key (λ table. after_others it.others table) (λ table. all_others its last table)
      (others_spare key it.others (All-head P it its each)) (all_spare key its last (All-tail P it its each) end)

  pub locks_are_enough : (its : List (Meanwhile Row)) (last : Others Row) (old : Table Row) → HoldsLocks its last → among its last old ≡ changed_all (changes_of its) (all_others its last old)
  locks_are_enough [] last old locks = refl
  locks_are_enough (it ∷ its) last old locks =
      let begun = after_others it.others old in
      then_same (among its last) (changed_all (changes_of its)) (λ table. all_others its last table) (λ table. locks_are_enough its last table locks.1) (changed it.change begun)
      ∙ ap (λ o. option_and_then (changed_all (changes_of its)) o) (sym (spared it.change (λ table. all_others its last table) (all_spare it.change.key its last (locks.0).0 (locks.0).1) begun))
