-- A receiver's verdicts on the frames that it takes.
use Rattle.std.specs.Prelude.{◌≡◌, ℕ, ◌+◌, ◌==◌, nat_le, ◌&&◌, ◌⊎◌, Bool, true, false, List, []}
use Rattle.std.specs.Prelude.{◌∷◌, length, map, take, slice_get, Option, Some, None, option_map}
use Rattle.std.specs.Prelude.{Result, Ok, Err, if◌then◌else◌}
use Rattle.std.specs.Result.{MatchResult}
use Rattle.std.specs.List.{flat_map}
use Rattle.krb_base.specs.Bytes.{AreBytes}
use Rattle.krb_base.specs.Limits.{text_limit}
use Rattle.krb_record.specs.Reading.{batch_in}
use Rattle.krb_seal.specs.declared.refusal.Refusal.{Refusal}
use Rattle.krb_seal.specs.declared.refusal.Refusal.TheVariants as refusals
use Rattle.krb_seal.specs.Opens.{OpenerState, Opens}
use Rattle.krb_seal.specs.OpensParts.{Outcome}
use Rattle.krb_seal.specs.Opening.{opens}
use Rattle.krb_record.specs.declared.record.Record.{Record}
use Rattle.krb_record.specs.declared.record.Record.TheVariants as records
use Rattle.krb_record.specs.declared.record.RecordKind.TheVariants as kinds
use Rattle.krb_peers.specs.declared.delivery.Delivery.{Delivery}
use Rattle.krb_peers.specs.declared.delivery.Delivery.TheVariants.{Text, Batch, Closed}
use Rattle.krb_peers.specs.declared.log.Event.{Event}
use Rattle.krb_peers.specs.declared.log.Event.TheVariants as events
use Rattle.krb_peers.specs.Demand.{Demand}
use Rattle.krb_peers.specs.Order.{demand_after}
use Rattle.krb_peers.specs.ReceiverState.{ReceiverState}
use Rattle.krb_record.specs.Record.{SpellsRecord, first_byte_of}
use Rattle.krb_peers.specs.Log.{texts_in}
use Rattle.krb_peers.specs.Moments.{moment_at}

-- a verdict: a delivery, or the refusal of the first check that the frame fails
abbrev pub Verdict : Type 0
Verdict = Result Delivery Refusal

-- ---- what verdicts accept and deliver

-- the record that a delivery came from
abbrev pub record_of : Delivery → Record
record_of (Text text) = records.Text text
record_of (Batch texts) = records.Batch texts
record_of Closed = records.Close

-- the record that a verdict accepts, if any
abbrev pub accepted_by : Verdict → List Record
accepted_by (Ok delivery) = record_of delivery ∷ []
accepted_by (Err refusal) = []

-- the events that a verdict brings to a log: one for each text of a batch
abbrev pub events_by : Verdict → List Event
events_by (Ok (Text text)) = events.Text text ∷ []
events_by (Ok (Batch texts)) = map events.Text texts
events_by (Ok Closed) = events.Closed ∷ []
events_by (Err refusal) = events.Refused refusal ∷ []

-- the records that verdicts accept, in order
abbrev pub records_of : List Verdict → List Record
records_of verdicts = flat_map accepted_by verdicts

-- the events of verdicts, in order
abbrev pub events_from : List Verdict → List Event
events_from verdicts = flat_map events_by verdicts

-- what verdicts bring, one group of events for each
abbrev pub groups_of : List Verdict → List (List Event)
groups_of verdicts = map events_by verdicts

-- the texts that verdicts deliver, in order
abbrev pub delivered : List Verdict → List (List ℕ)
delivered verdicts = texts_in (events_from verdicts)

-- ---- what a verdict is: on a frame that is taken at a timestamp, with this demand

-- the frame fails a check, and this is the refusal of the first: a close was accepted before, or
-- the opener refuses it, or its user data is no record
abbrev pub Fails : OpenerState → Demand → ℕ → List ℕ → Refusal → Type 0
Fails opener demand now frame refusal =
    ((demand.closed ≡ true) × (refusal ≡ refusals.AfterClose))
    ⊎ ((demand.closed ≡ false) × (Opens opener demand.expected now frame (Err refusal)
    ⊎ ((user : List ℕ) × Opens opener demand.expected now frame (Ok user)
    × ((r : Record) → ¬ SpellsRecord r user) × (refusal ≡ refusals.BadRecord))))

-- the frame passes all checks, and carries this delivery
abbrev pub Carries : OpenerState → Demand → ℕ → List ℕ → Delivery → Type 0
Carries opener demand now frame delivery =
    (demand.closed ≡ false)
    × ((user : List ℕ) × Opens opener demand.expected now frame (Ok user)
    × SpellsRecord (record_of delivery) user)

-- the verdict on a frame: a delivery if it passes all checks, else the refusal of the first that it
-- fails
abbrev pub IsVerdict : OpenerState → Demand → ℕ → List ℕ → Verdict → Type 0
IsVerdict opener demand now frame verdict =
    MatchResult verdict (Carries opener demand now frame) (Fails opener demand now frame)

-- one verdict for each frame, by the records accepted before it; the first frame is taken at this
-- place, and each is opened at the timestamp of its place
pub record AreVerdicts (opener : OpenerState) (nows : List ℕ) (demand : Demand) (place : ℕ)
    (frames : List (List ℕ)) (verdicts : List Verdict) : Type 0 where
  pub one_each : length verdicts ≡ length frames
  pub each :
      (i : ℕ) (frame : List ℕ) (verdict : Verdict) → slice_get frames i ≡ Some frame
      → slice_get verdicts i ≡ Some verdict
      → IsVerdict opener (demand_after demand (records_of (take i verdicts)))
      (moment_at nows (place + i)) frame verdict

-- the verdicts on the frames that a receiver takes from its start on
abbrev pub AreJudged : ReceiverState → List ℕ → List (List ℕ) → List Verdict → Type 0
AreJudged receiver nows took verdicts =
    let start = receiver.demand in AreVerdicts receiver.opener nows start 0 took verdicts

-- each frame is bytes
abbrev pub AllBytes : List (List ℕ) → Type 0
AllBytes [] = Unit {0}
AllBytes (frame ∷ frames) = AreBytes frame × AllBytes frames

-- ---- the same as a function: `verdict_laws` says that it gives the one such list

-- what the user data delivers, if it is the bytes of a record
abbrev pub delivery_in : List ℕ → Option Delivery
delivery_in [] = None
delivery_in (first ∷ rest) =
    if (first == first_byte_of kinds.Text) && nat_le (length rest) text_limit then Some (Text rest)
    else (if (first == first_byte_of kinds.Close) && (length rest == 0) then Some Closed
    else option_map Batch (batch_in (first ∷ rest)))

abbrev pub judged : Option Delivery → Verdict
judged (Some delivery) = Ok delivery
judged None = Err refusals.BadRecord

abbrev pub opened : Outcome → Verdict
opened (Ok user) = judged (delivery_in user)
opened (Err refusal) = Err refusal

-- of a frame, by what opening it gives
abbrev pub verdict_on : Bool → Outcome → Verdict
verdict_on true outcome = Err refusals.AfterClose
verdict_on false outcome = opened outcome

abbrev pub verdict : OpenerState → Demand → ℕ → List ℕ → Verdict
verdict opener demand now frame = verdict_on demand.closed (opens opener demand.expected now frame)

abbrev pub verdicts : OpenerState → List ℕ → Demand → ℕ → List (List ℕ) → List Verdict
verdicts opener nows demand place [] = []
verdicts opener nows demand place (frame ∷ frames) =
    let v = verdict opener demand (moment_at nows place) frame in
    v ∷ verdicts opener nows (demand_after demand (accepted_by v)) (place + 1) frames
