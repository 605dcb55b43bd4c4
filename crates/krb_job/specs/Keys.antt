-- The keys of a table, each with what it stands for.
use Rattle.std.specs.Prelude.{ℕ, Bool, true, false, ◌&&◌, List, Option, Some, None, ok_or}
use Rattle.std.specs.Prelude.{option_map, Result, Ok, Err}
use Rattle.std.specs.List.{list_any}
use Rattle.std.specs.Str.{bytes_eq}
use Rattle.toml.specs.Data.{Data, Members, no_members, member, get_member}
use Rattle.krb_job.specs.declared.place.Place.{Place}
use Rattle.krb_base.specs.Steps.{◌>>=◌}
use Rattle.krb_job.specs.Place.{name_of}

abbrev pub at_key : Place → Members → Option Data
at_key place ms = get_member (name_of place) ms

-- a key that has to be present
abbrev pub needed : {A : Type 0} → Place → (Data → Option A) → Members → Result A Place
needed place of ms = ok_or (at_key place ms >>= of) place

-- a key with a default for when it is absent
abbrev pub if_there : {A : Type 0} → A → Place → (Data → Option A) → Option Data → Result A Place
if_there absent place of None = Ok absent
if_there absent place of (Some d) = ok_or (of d) place

abbrev pub optional : {A : Type 0} → A → Place → (Data → Option A) → Members → Result A Place
optional absent place of ms = if_there absent place of (at_key place ms)

-- a key that has to be absent
abbrev pub barred : {A : Type 0} → A → Place → Option Data → Result A Place
barred absent place None = Ok absent
barred absent place (Some d) = Err place

-- a key of some commands alone
abbrev pub only_if : {A : Type 0} → Bool → A → Place → Result A Place → Members → Result A Place
only_if true absent place allowed ms = allowed
only_if false absent place allowed ms = barred absent place (at_key place ms)

abbrev pub some : {A : Type 0} → (Data → Option A) → Data → Option (Option A)
some of d = option_map Some (of d)

-- each key of the table is among these
abbrev pub has_only : List (List ℕ) → Members → Bool
has_only known no_members = true
has_only known (member k d ms) = list_any (bytes_eq k) known && has_only known ms
