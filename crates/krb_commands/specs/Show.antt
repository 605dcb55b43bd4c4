-- What `show` writes for an input, and the status that it answers.
use Rattle.std.specs.Prelude.{◌≡◌, ◌⊎◌, ℕ, List, [], ◌∷◌, Option, Bool, map, if◌then◌else◌}
use Rattle.std.specs.List.{AllZip, concat, list_all}
use Rattle.std.specs.Io.KnownBytes.{Appends}
use Rattle.krb_etype.specs.TypedKey.{TypedKey}
use Rattle.krb_commands.specs.declared.form.Form.{Form}
use Rattle.krb_commands.specs.declared.form.Form.TheVariants.{Lines, Any}
use Rattle.krb_commands.specs.declared.reading.Reading.{Reading}
use Rattle.krb_commands.specs.Digits.{digits_in, digits_of}
use Rattle.krb_commands.specs.Lines.{lines_of}
use Rattle.krb_commands.specs.Reading.{Reads, SpellsMessage, is_accepted}
use Rattle.krb_commands.specs.Printed.{printed_line}
use Rattle.krb_commands.specs.Output.{AppendsPrefix}

-- what a line reads as, by its digits in this form
abbrev pub ReadsLine : Form → Option TypedKey → List ℕ → Reading → Type 0
ReadsLine form key line reading = Reads key (digits_in form line) reading

-- one reading for each line, in order
abbrev pub AreOfLines : Form → Option TypedKey → List ℕ → List Reading → Type 0
AreOfLines form key text readings = AllZip (ReadsLine form key) (lines_of text) readings

-- one reading for all lines together
abbrev pub IsOfAll : Option TypedKey → List ℕ → List Reading → Type 0
IsOfAll key text readings =
    (reading : Reading) × Reads key (digits_of text) reading × (readings ≡ reading ∷ [])

-- The readings of an input: one for each line. In the form `Any`, if all lines together spell a
-- message, only that one.
abbrev pub AreReadings : Form → Option TypedKey → List ℕ → List Reading → Type 0
AreReadings Lines key input readings = AreOfLines Lines key input readings
AreReadings Any key input readings =
    (SpellsMessage (digits_of input) × IsOfAll key input readings)
    ⊎ ((¬ SpellsMessage (digits_of input)) × AreOfLines Any key input readings)

abbrev pub output_of : List Reading → List ℕ
output_of readings = concat (map printed_line readings)

-- 0 where each reading is a message that no key refuses, else 2
abbrev pub status_of : List Reading → ℕ
status_of readings = if list_all is_accepted readings then 0 else 2

-- the lines of such readings are written, and this is the status
abbrev pub Prints : (List Reading → Type 0) → Option (List ℕ) → Option (List ℕ) → ℕ → Type 0
Prints Are old new status =
    (readings : List Reading) × Are readings × Appends old new (output_of readings)
    × (status ≡ status_of readings)

-- a prefix of them is written
abbrev pub PrintsPrefix : (List Reading → Type 0) → Option (List ℕ) → Option (List ℕ) → Type 0
PrintsPrefix Are old new =
    (readings : List Reading) × Are readings × AppendsPrefix old new (output_of readings)

-- the whole output is written, and this is the status
abbrev pub Shows : Form → Option TypedKey → List ℕ → Option (List ℕ) → Option (List ℕ) → ℕ → Type 0
Shows form key input old new status = Prints (AreReadings form key input) old new status

-- a prefix of the output is written
abbrev pub ShowsPrefix : Form → Option TypedKey → List ℕ → Option (List ℕ) → Option (List ℕ)
    → Type 0
ShowsPrefix form key input old new = PrintsPrefix (AreReadings form key input) old new

-- in a form, and under a key or none, an input has one list of readings, so it has one output and
-- one status
abbrev pub HasOneReading : Form → Option TypedKey → List ℕ → Type 0
HasOneReading form key input =
    (readings : List Reading) × AreReadings form key input readings
    × ((others : List Reading) → AreReadings form key input others → others ≡ readings)

-- the same of one line: its reading is printed, and whether it is accepted
abbrev pub ShowsLine : Form → Option TypedKey → List ℕ → Option (List ℕ) → Option (List ℕ) → Bool
    → Type 0
ShowsLine form key line old new accepted =
    (reading : Reading) × ReadsLine form key line reading × Appends old new (printed_line reading)
    × (accepted ≡ is_accepted reading)

abbrev pub ShowsLinePrefix : Form → Option TypedKey → List ℕ → Option (List ℕ) → Option (List ℕ)
    → Type 0
ShowsLinePrefix form key line old new =
    (reading : Reading) × ReadsLine form key line reading
    × AppendsPrefix old new (printed_line reading)
