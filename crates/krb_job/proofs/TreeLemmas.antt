-- A list of tables.
use Rattle.std.proofs.Common.{◌≡◌, ◌&&◌, cond, List, [], ◌∷◌, Some, None, is_some, refl, ap₂}
use Rattle.std.specs.List.{list_all}
use Rattle.toml.specs.Data.{Data, string, integer, float, boolean, datetime, array, table, as_table, as_array, Items}
use Rattle.toml.specs.View.{view, items_view}
use Rattle.toml.specs.declared.value.Value.{Value}
use Rattle.krb_job.specs.Job.{is_table, are_tables, are_senders, senders_if_there}
use Rattle.krb_job.specs.declared.job.Command.{Command}

is_table-as : (d : Data) → is_some (as_table d) ≡ is_table d
is_table-as (string s) = refl
is_table-as (integer z) = refl
is_table-as (float x) = refl
is_table-as (boolean b) = refl
is_table-as (datetime dt) = refl
is_table-as (array ds) = refl
is_table-as (table ms) = refl

pub tables_view : (vs : List Value) → list_all (λ v. is_some (as_table (view v))) vs ≡ are_tables (items_view vs)
tables_view [] = refl
tables_view (v ∷ vs) = ap₂ (λ a b. a && b) (is_table-as (view v)) (tables_view vs)

pub senders-array : (command : Command) (d : Data) (ds : Items) → as_array d ≡ Some ds
    → senders_if_there command (Some d) ≡ cond (are_senders command ds) (Some ds) None
senders-array command (array es) ds e = let same : es ≡ ds = cc in rw same refl
senders-array command (string s) ds e = absurd cc
senders-array command (integer z) ds e = absurd cc
senders-array command (float x) ds e = absurd cc
senders-array command (boolean b) ds e = absurd cc
senders-array command (datetime dt) ds e = absurd cc
senders-array command (table ms) ds e = absurd cc
