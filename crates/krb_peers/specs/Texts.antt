-- The texts of records.
use Rattle.std.specs.Prelude.{ℕ, List}
use Rattle.std.specs.List.{flat_map}
use Rattle.krb_record.specs.declared.record.Record.{Record}
use Rattle.krb_record.specs.Record.{texts_of}

-- the texts of records, in order
abbrev pub texts_of_all : List Record → List (List ℕ)
texts_of_all records = flat_map texts_of records
