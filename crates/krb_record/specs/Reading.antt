-- Reading a batch, as a function: the law `batch_laws` says that it gives the one batch whose
-- spelling the bytes are.
use Rattle.std.specs.Prelude.{ℕ, zero, suc, Bool, nat_le, ◌&&◌, List, [], ◌∷◌, length, take, drop}
use Rattle.std.specs.Prelude.{Option, Some, None, if◌then◌else◌}
use Rattle.std.specs.Int.{w32, from_be_bytes}
use Rattle.std.specs.Str.{bytes_eq}
use Rattle.krb_base.specs.Limits.{batch_limit, batch_size_limit}
use Rattle.krb_record.specs.Batch.{texts_size, spelling}

-- the texts that follow each other, n at most: four bytes are the length of each
abbrev pub texts_in : ℕ → List ℕ → List (List ℕ)
texts_in zero bytes = []
texts_in (suc n) [] = []
texts_in (suc n) (b ∷ rest) =
    let following = drop 4 (b ∷ rest) in
    let len = from_be_bytes w32 (take 4 (b ∷ rest)) in
    take len following ∷ texts_in n (drop len following)

-- these texts can be one batch
abbrev pub can_be_batch : List (List ℕ) → Bool
can_be_batch texts =
    nat_le 2 (length texts)
    && (nat_le (length texts) batch_limit && nat_le (texts_size texts) batch_size_limit)

-- the texts, if they are a batch and the bytes are its spelling
abbrev pub if_spelt : List ℕ → List (List ℕ) → Option (List (List ℕ))
if_spelt bytes texts =
    if can_be_batch texts && bytes_eq bytes (spelling texts) then Some texts
    else None

-- the texts of the batch whose spelling the bytes are
abbrev pub batch_in : List ℕ → Option (List (List ℕ))
batch_in bytes = if_spelt bytes (texts_in (length bytes) (drop 1 bytes))
