-- Lists of a job.
use Rattle.std.specs.Prelude.{ℕ, ◌+◌, nat_le, ◌&&◌, List, [], ◌∷◌, Option, Some, None}
use Rattle.std.specs.Prelude.{if◌then◌else◌}
use Rattle.toml.specs.Data.{Data, array, Items, no_items, item}
use Rattle.krb_base.specs.Limits.{text_limit, raw_limit, texts_limit, entries_limit}
use Rattle.krb_der.specs.Moment.{last_moment}
use Rattle.krb_record.specs.declared.plan.Emit.{Emit}
use Rattle.krb_base.specs.Steps.{◌>>=◌}
use Rattle.krb_job.specs.Emission.{emission_of}
use Rattle.krb_job.specs.Values.{number_of, bytes_of}

abbrev pub count : Items → ℕ
count no_items = 0
count (item d ds) = 1 + count ds

-- the values that the items stand for, if each stands for one
abbrev pub each : {A : Type 0} → (Data → Option A) → Items → Option (List A)
each of no_items = Some []
each of (item d ds) = do
  x ← of d
  xs ← each of ds
  Some (x ∷ xs)

-- the items of a list of low to high items
abbrev pub items_of : ℕ → ℕ → Data → Option Items
items_of low high (array ds) =
    if nat_le low (count ds) && nat_le (count ds) high then Some ds
    else None
items_of low high _ = None

abbrev pub list_of : {A : Type 0} → ℕ → ℕ → (Data → Option A) → Data → Option (List A)
list_of low high of d = items_of low high d >>= each of

-- a number of microseconds since 1970-01-01T00:00:00Z
abbrev pub moment_of : Data → Option ℕ
moment_of = number_of 0 last_moment

abbrev pub moments_of : Data → Option (List ℕ)
moments_of = list_of 1 entries_limit moment_of

abbrev pub texts_of : Data → Option (List (List ℕ))
texts_of = list_of 0 texts_limit (bytes_of 0 text_limit)

abbrev pub plan_of : Data → Option (List Emit)
plan_of = list_of 0 entries_limit emission_of

abbrev pub frames_of : Data → Option (List (List ℕ))
frames_of = list_of 0 entries_limit (bytes_of 0 raw_limit)
