-- What a writing that failed does to the bytes that a writer holds, where these are known.
use Rattle.std.specs.Prelude.{ℕ, ◌<◌, List, length, Option}
use Rattle.std.specs.Io.KnownBytes.{Appends}
use Rattle.krb_base.specs.Prefix.{IsPrefix}

-- the writer took a prefix of the text, and no more
abbrev pub AppendsPrefix : Option (List ℕ) → Option (List ℕ) → List ℕ → Type 0
AppendsPrefix old new text = (front : List ℕ) × Appends old new front × IsPrefix front text

-- the writer took a prefix of the text that is not all of it
abbrev pub AppendsPart : Option (List ℕ) → Option (List ℕ) → List ℕ → Type 0
AppendsPart old new text =
    (front : List ℕ) × Appends old new front × IsPrefix front text × (length front < length text)
