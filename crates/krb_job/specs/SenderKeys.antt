-- One sender of a job: its keys in the order in which they are checked, unknown keys last.
use Rattle.std.specs.Prelude.{ℕ, ℤ, Bool, true, false, List, [], Option, None}
use Rattle.std.specs.Prelude.{Result, Ok, Err}
use Rattle.toml.specs.Data.{Members}
use Rattle.krb_base.specs.Limits.{last_number, skew_limit, batch_limit}
use Rattle.krb_der.specs.declared.address.HostAddress.{HostAddress}
use Rattle.krb_seal.specs.declared.session.Mode.{Mode as ModeOf}
use Rattle.krb_etype.specs.Etype as etypes
use Rattle.krb_job.specs.declared.place.Place.{Place}
use Rattle.krb_job.specs.declared.place.Place.TheVariants.{Etype, Key, Mode, First, From, To}
use Rattle.krb_job.specs.declared.place.Place.TheVariants.{WriteTo, RequireTo, ExpectTime, Skew}
use Rattle.krb_job.specs.declared.place.Place.TheVariants.{Seed, At, Now, Texts, Batch, Plan}
use Rattle.krb_job.specs.declared.place.Place.TheVariants.{Frames, UnknownKey}
use Rattle.krb_job.specs.declared.job.Command.{Command}
use Rattle.krb_job.specs.declared.job.Command.TheVariants.{Seal, Open, Relay}
use Rattle.krb_record.specs.declared.plan.Emit.{Emit}
use Rattle.krb_job.specs.Checks.{◌>>=◌}
use Rattle.krb_job.specs.Place.{sender_keys}
use Rattle.krb_job.specs.Values.{number_of, etype_of, flag_of, mode_of, key_of, seed_of}
use Rattle.krb_job.specs.Address.{address_of}
use Rattle.krb_job.specs.Lists.{moments_of, texts_of, plan_of, frames_of}
use Rattle.krb_job.specs.Keys.{needed, optional, only_if, some, has_only}

-- how the texts are protected
pub record Protection : Type 0 where
  pub etype : ℤ
  pub key : List ℕ
  pub mode : ModeOf
  pub first : ℕ

-- the addresses of both ends, and what the receiver demands
pub record Parties : Type 0 where
  pub from : HostAddress
  pub to : HostAddress
  pub write_to : Bool
  pub require_to : Bool
  pub expect_time : Bool
  pub skew : ℕ

-- what is sent or opened
pub record Traffic : Type 0 where
  pub seed : Option (List ℕ)
  pub ats : List ℕ
  pub nows : List ℕ
  pub texts : List (List ℕ)
  pub batch : ℕ
  pub plan : Option (List Emit)
  pub frames : List (List ℕ)

-- a sender as the job states it
pub record Sender : Type 0 where
  pub protection : Protection
  pub parties : Parties
  pub traffic : Traffic

abbrev pub seals : Command → Bool
seals Seal = true
seals Open = false
seals Relay = true

abbrev pub opens : Command → Bool
opens Seal = false
opens Open = true
opens Relay = false

-- the keys of earlier senders are not repeated
unfoldable pub protection_of : List (List ℕ) → Members → Result Protection Place
protection_of earlier ms = do
  etype ← needed Etype etype_of ms
  key ← needed Key (key_of etype earlier) ms
  mode ← needed Mode mode_of ms
  first ← needed First (number_of 0 last_number) ms
  Ok (record { etype = etypes.number_of etype; key = key; mode = mode; first = first })

unfoldable pub parties_of : Members → Result Parties Place
parties_of ms = do
  from ← needed From address_of ms
  to ← needed To address_of ms
  write_to ← optional false WriteTo flag_of ms
  require_to ← optional false RequireTo flag_of ms
  expect_time ← optional true ExpectTime flag_of ms
  skew ← needed Skew (number_of 0 skew_limit) ms
  Ok (record {
    from = from;
    to = to;
    write_to = write_to;
    require_to = require_to;
    expect_time = expect_time;
    skew = skew;
  })

unfoldable pub traffic_of : Command → Members → Result Traffic Place
traffic_of command ms = do
  seed ← only_if (seals command) None Seed (needed Seed (some seed_of) ms) ms
  ats ← only_if (seals command) [] At (needed At moments_of ms) ms
  nows ← needed Now moments_of ms
  texts ← only_if (seals command) [] Texts (needed Texts texts_of ms) ms
  batch ← only_if (seals command) 1 Batch (optional 1 Batch (number_of 1 batch_limit) ms) ms
  plan ← only_if (seals command) None Plan (optional None Plan (some plan_of) ms) ms
  frames ← only_if (opens command) [] Frames (needed Frames frames_of ms) ms
  Ok (record {
    seed = seed;
    ats = ats;
    nows = nows;
    texts = texts;
    batch = batch;
    plan = plan;
    frames = frames;
  })

abbrev pub if_known : {A : Type 0} → Bool → A → Result A Place
if_known true x = Ok x
if_known false x = Err UnknownKey

-- the sender of these parts, if its traffic passes the checks
abbrev pub sender_with : Protection → Parties → Result Traffic Place → Result Sender Place
sender_with protection parties (Ok traffic) =
    Ok (record { protection = protection; parties = parties; traffic = traffic })
sender_with protection parties (Err place) = Err place

unfoldable pub sender_of : Command → List (List ℕ) → Members → Result Sender Place
sender_of command earlier ms = do
  protection ← protection_of earlier ms
  parties ← parties_of ms
  sender ← sender_with protection parties (traffic_of command ms)
  if_known (has_only sender_keys ms) sender
