-- The records of the relay: what the user data of a message is. Their format is this project's own.
use Rattle.std.specs.Prelude.{◌≡◌, ℕ, ◌==◌, Bool, true, false, ◌≤◌, List, [], ◌∷◌, length, codes}
use Rattle.std.specs.Prelude.{Option, Some, None, if◌then◌else◌}
use Rattle.krb_record.specs.Batch.{IsBatch, spelling}
use Rattle.krb_record.specs.declared.record.Record.{Record}
use Rattle.krb_record.specs.declared.record.Record.TheVariants.{Text, Batch, Close}
use Rattle.krb_record.specs.declared.record.RecordKind.{RecordKind}
use Rattle.krb_record.specs.declared.record.RecordKind.TheVariants as kinds
use Rattle.krb_record.specs.declared.record.RecordError.{RecordError}
use Rattle.krb_record.specs.declared.record.RecordError.TheVariants.{BadRecord, Memory}
use Rattle.krb_base.specs.Limits.{text_limit}

-- the kind of a record
abbrev pub kind_of : Record → RecordKind
kind_of (Text text) = kinds.Text
kind_of (Batch texts) = kinds.Batch
kind_of Close = kinds.Close

-- the number of a kind
abbrev pub number_of : RecordKind → ℕ
number_of kinds.Text = 1
number_of kinds.Batch = 2
number_of kinds.Close = 3

-- the kind that has a number, if one has it
abbrev pub kind_of_number : ℕ → Option RecordKind
kind_of_number number =
    if number == number_of kinds.Text then Some kinds.Text else
    if number == number_of kinds.Batch then Some kinds.Batch else
    if number == number_of kinds.Close then Some kinds.Close else None

-- the first byte of the records of a kind
abbrev pub first_byte_of : RecordKind → ℕ
first_byte_of kinds.Text = 0x44
first_byte_of kinds.Batch = 0x42
first_byte_of kinds.Close = 0x43

-- the bytes of a record: 44 and the text, those of the batch, or the single byte 43 (hexadecimal)
abbrev pub bytes_of : Record → List ℕ
bytes_of (Text text) = first_byte_of kinds.Text ∷ text
bytes_of (Batch texts) = spelling texts
bytes_of Close = first_byte_of kinds.Close ∷ []

-- the record of a group: a group of one text is a text, and a larger one a batch
abbrev pub record_for : List (List ℕ) → Record
record_for [] = Batch []
record_for (text ∷ []) = Text text
record_for (text ∷ other ∷ texts) = Batch (text ∷ other ∷ texts)

-- the texts that a record carries, in order
abbrev pub texts_of : Record → List (List ℕ)
texts_of (Text text) = text ∷ []
texts_of (Batch texts) = texts
texts_of Close = []

-- whether a record is the close
abbrev pub is_close : Record → Bool
is_close (Text text) = false
is_close (Batch texts) = false
is_close Close = true

-- a record is within its limits: a text is not too long, and a batch not too large
abbrev pub FitsLimits : Record → Type 0
FitsLimits (Text text) = length text ≤ text_limit
FitsLimits (Batch texts) = IsBatch texts
FitsLimits Close = Unit {0}

-- the bytes are those of this record
abbrev pub SpellsRecord : Record → List ℕ → Type 0
SpellsRecord r bytes = FitsLimits r × (bytes ≡ bytes_of r)

-- the number of an error
abbrev pub code_of : RecordError → ℕ
code_of BadRecord = 1
code_of Memory = 2

-- what is printed of it
abbrev pub words_of : RecordError → List ℕ
words_of BadRecord = codes "the bytes are no record"
words_of Memory = codes "out of memory"
