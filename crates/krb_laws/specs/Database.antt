-- A database: statements that change rows, and transactions of them.
use Rattle.std.specs.Prelude.{◌≡◌, ◌⊎◌, ℕ, ◌==◌, Bool, false, List, [], ◌∷◌, map, All, Option, Some, None, option_map, option_and_then, if◌then◌else◌}

-- ---- tables

-- the row that stands under each key, if one does
abbrev pub Table : Type 0 → Type 0
Table Row = ℕ → Option Row

-- with this row in the place of what stands under its key
abbrev pub with_row : {Row : Type 0} → Table Row → ℕ → Row → Table Row
with_row table key row = λ (other : ℕ). if other == key then Some row else table other

-- A statement on the row of one key: what it writes, by what stands there. Where its WHERE doesn't
-- hold it writes nothing, and its count is 0, else 1.
pub record Change (Row : Type 0) : Type 0 where
  pub key : ℕ
  pub writes : Option Row → Option Row

-- the table after it, unless its count is 0
abbrev pub changed : {Row : Type 0} → Change Row → Table Row → Option (Table Row)
changed change table =
    option_map (λ row. with_row table change.key row) (change.writes (table change.key))

-- INSERT .. ON CONFLICT DO NOTHING
abbrev pub insert : {Row : Type 0} → Row → Option Row → Option Row
insert row None = Some row
insert row (Some old) = None

-- UPDATE .. SET .. WHERE this holds of the row
abbrev pub update : {Row : Type 0} → (Row → Bool) → Row → Option Row → Option Row
update holds row None = None
update holds row (Some old) = if holds old then Some row else None

-- INSERT .. SELECT .. WHERE it may be new OR there is a row, ON CONFLICT DO UPDATE SET .. WHERE this
-- holds of the row
abbrev pub upsert : {Row : Type 0} → Bool → (Row → Bool) → Row → Option Row → Option Row
upsert may holds row None = if may then Some row else None
upsert may holds row (Some old) = if holds old then Some row else None

-- ---- transactions

-- what a statement leaves of a database, unless its count isn't what it has to be
abbrev pub Statement : Type 0 → Type 0
Statement Database = Database → Option Database

-- one after the other, on a copy, unless one of them ends it
abbrev pub executed : {Database : Type 0} → List (Statement Database) → Database → Option Database
executed [] database = Some database
executed (statement ∷ statements) database =
    option_and_then (executed statements) (statement database)

-- what a client learns of its transaction: that it took effect, that it didn't, or nothing
pub data CommitAnswer : Type 0 where
  Committed : CommitAnswer
  RolledBack : CommitAnswer
  NotKnown : CommitAnswer

abbrev pub Ends : {Database : Type 0} → List (Statement Database) → CommitAnswer → Database → Database
    → Type 0
Ends statements Committed old new = executed statements old ≡ Some new
Ends statements RolledBack old new = new ≡ old
Ends statements NotKnown old new = (executed statements old ≡ Some new) ⊎ (new ≡ old)

-- ---- read committed

-- what others commit: what then stands under the keys that are theirs
pub record Others (Row : Type 0) : Type 0 where
  pub are_theirs : ℕ → Bool
  pub rows : Table Row

abbrev pub after_others : {Row : Type 0} → Others Row → Table Row → Table Row
after_others others table =
    λ (key : ℕ). if others.are_theirs key then others.rows key else table key

-- a statement of a transaction, and what others commit before it, since the one before
pub record Meanwhile (Row : Type 0) : Type 0 where
  pub others : Others Row
  pub change : Change Row

-- Each statement works on what is committed when it has its row's lock, and on what the transaction
-- wrote itself; and others commit before it commits.
abbrev pub among : {Row : Type 0} → List (Meanwhile Row) → Others Row → Table Row
    → Option (Table Row)
among [] last table = Some (after_others last table)
among (it ∷ its) last table =
    option_and_then (among its last) (changed it.change (after_others it.others table))

-- nobody else writes a row between a transaction's statement on it and its end
abbrev pub HoldsLocks : {Row : Type 0} → List (Meanwhile Row) → Others Row → Type 0
HoldsLocks [] last = Unit {0}
HoldsLocks (it ∷ its) last =
    (All (λ (later : Meanwhile _). later.others.are_theirs it.change.key ≡ false) its
    × (last.are_theirs it.change.key ≡ false))
    × HoldsLocks its last

-- what all others commit
abbrev pub all_others : {Row : Type 0} → List (Meanwhile Row) → Others Row → Table Row → Table Row
all_others [] last table = after_others last table
all_others (it ∷ its) last table = all_others its last (after_others it.others table)

-- a transaction's statements at once
abbrev pub changed_all : {Row : Type 0} → List (Change Row) → Table Row → Option (Table Row)
changed_all [] table = Some table
changed_all (change ∷ changes) table = option_and_then (changed_all changes) (changed change table)

abbrev pub changes_of : {Row : Type 0} → List (Meanwhile Row) → List (Change Row)
changes_of its = map (λ (it : Meanwhile _). it.change) its
