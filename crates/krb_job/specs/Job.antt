-- A whole job: the checks of its top keys, and then sender by sender.
use Rattle.std.specs.Prelude.{◌≡◌, ℕ, ◌+◌, nat_le, Bool, true, false, ◌&&◌, List, [], ◌∷◌, ◌++◌}
use Rattle.std.specs.Prelude.{map, codes, String, Option, Some, None, ok_or, Result, Ok, Err}
use Rattle.std.specs.Prelude.{if◌then◌else◌}
use Rattle.std.specs.Str.{IsUtf8}
use Rattle.toml.specs.Data.{Data, table, array, Items, no_items, item, Members, get_member}
use Rattle.toml.specs.Parse.{parse_document}
use Rattle.toml.specs.View.{table_view}
use Rattle.toml.specs.declared.value.Value.{Value}
use Rattle.std.specs.BTreeMap.{BTreeMap}
use Rattle.std.specs.declared.alloc.Global.{Global}
use Rattle.krb_base.specs.Limits.{capacity_limit, lane_limit}
use Rattle.krb_job.specs.declared.place.Place.{Place}
use Rattle.krb_job.specs.declared.job.Command.{Command}
use Rattle.krb_job.specs.declared.job.Command.TheVariants.{Seal, Open, Relay}
use Rattle.krb_job.specs.declared.job.Job.{Job as ReadJob}
use Rattle.krb_job.specs.declared.bad_input.BadInput.{BadInput}
use Rattle.krb_job.specs.declared.bad_input.BadInput.TheVariants as bad
use Rattle.krb_job.specs.declared.bad_input.JobError.{JobError}
use Rattle.krb_job.specs.declared.bad_input.JobError.TheVariants as errors
use Rattle.krb_job.specs.Checks.{◌>>=◌}
use Rattle.krb_job.specs.Values.{number_of}
use Rattle.krb_job.specs.Lists.{count}
use Rattle.krb_job.specs.Keys.{has_only}
use Rattle.krb_job.specs.SenderKeys.{Sender, sender_of}
use Rattle.krb_job.specs.SenderView.{sender_view}

pub record Job : Type 0 where
  pub capacity : ℕ
  pub senders : List Sender

abbrev pub job_view : ReadJob → Job
job_view job = record { capacity = job.capacity; senders = map sender_view job.senders.items }

-- 1 where the key is absent
abbrev pub capacity_if_there : Option Data → Option ℕ
capacity_if_there None = Some 1
capacity_if_there (Some d) = number_of 1 capacity_limit d

abbrev pub capacity_of : Members → Result ℕ BadInput
capacity_of ms = ok_or (capacity_if_there (get_member (codes "capacity") ms)) bad.Capacity

abbrev pub is_table : Data → Bool
is_table (table ms) = true
is_table _ = false

abbrev pub are_tables : Items → Bool
are_tables no_items = true
are_tables (item d ds) = is_table d && are_tables ds

abbrev pub most_senders : Command → ℕ
most_senders Seal = 1
most_senders Open = 1
most_senders Relay = lane_limit

-- tables, as many as the command allows
abbrev pub are_senders : Command → Items → Bool
are_senders command ds =
    are_tables ds && (nat_le 1 (count ds) && nat_le (count ds) (most_senders command))

abbrev pub senders_if_there : Command → Option Data → Option Items
senders_if_there command (Some (array ds)) = if are_senders command ds then Some ds else None
senders_if_there command _ = None

abbrev pub items_of_senders : Command → Members → Result Items BadInput
items_of_senders command ms =
    ok_or (senders_if_there command (get_member (codes "sender") ms)) bad.Sender

abbrev pub in_sender : {A : Type 0} → ℕ → Result A Place → Result A BadInput
in_sender j (Ok x) = Ok x
in_sender j (Err place) = Err (bad.InSender j place)

-- sender j, after senders with these keys
abbrev pub sender_at : Command → ℕ → List (List ℕ) → Data → Result Sender BadInput
sender_at command j earlier (table ms) = in_sender j (sender_of command earlier ms)
sender_at command j earlier _ = Err bad.Sender

abbrev pub senders_from : Command → ℕ → List (List ℕ) → Items → Result (List Sender) BadInput
senders_from command j earlier no_items = Ok []
senders_from command j earlier (item d ds) = do
  s ← sender_at command j earlier d
  others ← senders_from command (j + 1) (earlier ++ s.protection.key ∷ []) ds
  Ok (s ∷ others)

abbrev pub has_top_keys : Members → Bool
has_top_keys ms = has_only (codes "capacity" ∷ codes "sender" ∷ []) ms

abbrev pub if_top_known : {A : Type 0} → Bool → Result A BadInput → Result A BadInput
if_top_known true x = x
if_top_known false x = Err bad.UnknownKey

-- the job that the members of a document's table state
unfoldable pub job_of : Command → Members → Result Job BadInput
job_of command ms = do
  capacity ← capacity_of ms
  items ← items_of_senders command ms
  senders ← if_top_known (has_top_keys ms) (senders_from command 0 [] items)
  Ok (record { capacity = capacity; senders = senders })

-- the bytes are a TOML document with these members
abbrev pub IsTree : List ℕ → Members → Type 0
IsTree bytes ms = IsUtf8 bytes × (parse_document bytes ≡ Some ms)

-- what a function answered is what the checks give, unless memory ran out
abbrev pub FailsJob : {Y : Type 0} → JobError → Result Y BadInput → Type 0
FailsJob (errors.Bad b) checks = checks ≡ Err b
FailsJob errors.Memory checks = Unit {0}

abbrev pub GivesJob : {X Y : Type 0} → (X → Y) → Result X JobError → Result Y BadInput → Type 0
GivesJob view (Ok x) checks = checks ≡ Ok (view x)
GivesJob view (Err e) checks = FailsJob e checks

-- no tree, if it isn't a document
abbrev pub FailsTree : List ℕ → JobError → Type 0
FailsTree bytes (errors.Bad b) = (b ≡ bad.Toml) × ((ms : Members) → ¬ IsTree bytes ms)
FailsTree bytes errors.Memory = Unit {0}

abbrev pub ReadsTree : List ℕ → Result (BTreeMap (String Global) Value) JobError → Type 0
ReadsTree bytes (Ok tree) = IsTree bytes (table_view tree)
ReadsTree bytes (Err e) = FailsTree bytes e
