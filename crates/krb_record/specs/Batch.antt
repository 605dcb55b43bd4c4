-- The batch: several texts as the user data of one message. Its format is this project's own.
use Rattle.std.specs.Prelude.{◌≡◌, ℕ, ◌+◌, ◌≤◌, List, ◌∷◌, ◌++◌, length, codes}
use Rattle.std.specs.List.{sum_by, flat_map}
use Rattle.std.specs.Int.{w32, to_be_bytes}
use Rattle.krb_base.specs.Limits.{batch_limit, batch_size_limit}
use Rattle.krb_record.specs.declared.batch.BatchError.{BatchError}
use Rattle.krb_record.specs.declared.batch.BatchError.TheVariants.{NoBatch, Memory}

-- the bytes that these texts take in a batch: each takes four for its length, and its own
abbrev pub texts_size : List (List ℕ) → ℕ
texts_size texts = sum_by (λ text. 4 + length text) texts

-- these texts can be one batch: they are 2 to 1,000, and take at most 1,000,000 bytes
pub record IsBatch (texts : List (List ℕ)) : Type 0 where
  pub several : 2 ≤ length texts
  pub few : length texts ≤ batch_limit
  pub small : texts_size texts ≤ batch_size_limit

-- a text in a batch: its length in four bytes, most significant first, and its bytes
abbrev pub text_bytes : List ℕ → List ℕ
text_bytes text = to_be_bytes w32 (length text) ++ text

-- a batch: byte 42 (hexadecimal), followed by its texts
abbrev pub spelling : List (List ℕ) → List ℕ
spelling texts = 0x42 ∷ flat_map text_bytes texts

-- the bytes are those of the batch of these texts
abbrev pub SpellsBatch : List (List ℕ) → List ℕ → Type 0
SpellsBatch texts bytes = IsBatch texts × (bytes ≡ spelling texts)

-- what is printed of an error
abbrev pub words_of : BatchError → List ℕ
words_of NoBatch = codes "the bytes are no batch"
words_of Memory = codes "out of memory"
