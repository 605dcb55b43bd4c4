-- What statements and transactions leave of tables.
use Rattle.std.proofs.Common.{◌≡◌, ◌⊎◌, ℕ, cond, Bool, true, false, List, [], ◌∷◌, ◌++◌, Option, Some, None, refl, sym, ◌∙◌, inl, inr}
use Rattle.std.specs.Prelude.{option_map, option_and_then}
use Rattle.std.proofs.lemmas.Bool.{eq-eqb, ne_eqb}
use Rattle.krb_laws.specs.Database.{Table, with_row, Change, changed, Statement, executed, CommitAnswer, Committed, RolledBack, NotKnown, Ends}

pub mapped : {A B : Type 0} (f : A → B) (o : Option A) (y : B) → option_map f o ≡ Some y → (x : A) × (o ≡ Some x) × (f x ≡ y)
mapped f None y is = absurd (let e = is in cc)
mapped f (Some x) y is = (x, refl, (let e : Some (f x) ≡ Some y = is in cc))

pub chained : {A B : Type 0} (f : A → Option B) (o : Option A) (y : B) → option_and_then f o ≡ Some y → (x : A) × (o ≡ Some x) × (f x ≡ Some y)
chained f None y is = absurd (let e = is in cc)
chained f (Some x) y is = (x, refl, is)

-- what is written only under a test
pub guarded : {A : Type 0} (b : Bool) (x y : A) → cond b (Some x) None ≡ Some y → (b ≡ true) × (x ≡ y)
guarded true x y is = (refl, (let e : Some x ≡ Some y = is in cc))
guarded false x y is = absurd (let e : ◌≡◌ {A = Option _} None (Some y) = is in cc)

-- ---- rows

pub at_key : {Row : Type 0} (table : Table Row) (key : ℕ) (row : Row) → with_row table key row key ≡ Some row
at_key table key row = rw (eq-eqb key key refl) refl

pub at_other : {Row : Type 0} (table : Table Row) (key other : ℕ) (row : Row) → (other ≡ key → ⊥) → with_row table key row other ≡ table other
at_other table key other row apart = rw (ne_eqb other key apart) refl

pub changed_row : {Row : Type 0} (change : Change Row) (old new : Table Row) → changed change old ≡ Some new
    → (row : Row) × (change.writes (old change.key) ≡ Some row) × (with_row old change.key row ≡ new)
changed_row change old new is = mapped (λ row. with_row old change.key row) (change.writes (old change.key)) new is

-- ---- transactions

pass : {A : Type 0} (whole first second : A → Option A) → ((x : A) → whole x ≡ option_and_then second (first x)) → (o : Option A) → option_and_then whole o ≡ option_and_then second (option_and_then first o)
pass whole first second same None = refl
pass whole first second same (Some x) = same x

pub executed-append : {Database : Type 0} (xs ys : List (Statement Database)) (old : Database) → executed (xs ++ ys) old ≡ option_and_then (executed ys) (executed xs old)
executed-append [] ys old = refl
executed-append (x ∷ xs) ys old = pass (executed (xs ++ ys)) (executed xs) (executed ys) (λ between. executed-append xs ys between) (x old)

pub executed_parts : {Database : Type 0} (xs ys : List (Statement Database)) (old new : Database) → executed (xs ++ ys) old ≡ Some new
    → (between : Database) × (executed xs old ≡ Some between) × (executed ys between ≡ Some new)
executed_parts xs ys old new is = chained (executed ys) (executed xs old) new (sym (executed-append xs ys old) ∙ is)

-- it took effect, or nothing did
pub ended : {Database : Type 0} (statements : List (Statement Database)) (answer : CommitAnswer) (old new : Database) → Ends statements answer old new → (executed statements old ≡ Some new) ⊎ (new ≡ old)
ended statements Committed old new is = inl is
ended statements RolledBack old new is = inr is
ended statements NotKnown old new is = is
