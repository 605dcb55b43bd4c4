-- Names for parts of what the specifications say, which lemmas cite.
use Rattle.std.specs.Prelude.{◌≡◌, ℕ, List, [], ◌∷◌, ◌++◌}
use Rattle.krb_record.specs.declared.record.Record.{Record}
use Rattle.krb_record.specs.declared.record.Record.TheVariants.{Close}
use Rattle.krb_record.specs.Record.{SpellsRecord}

-- none of the records follows a close
abbrev pub CloseIsLastOf : List Record → Type 0
CloseIsLastOf records = (front back : List Record) → records ≡ front ++ Close ∷ back → back ≡ []

-- the user data are those of no record
abbrev pub IsNoRecord : List ℕ → Type 0
IsNoRecord user = (r : Record) → ¬ SpellsRecord r user
