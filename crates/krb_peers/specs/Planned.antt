-- A lane of this project's relay, as one instance of a session: its sender is a `Source`, which seals
-- by one rule, and its wire is what a plan makes of the sender's frames.
use Rattle.std.specs.Prelude.{◌≡◌, ◌<◌, ◌≤◌, ◌⊎◌, ℕ, zero, suc, ◌+◌, Bool, true, false, List, [], ◌∷◌, ◌++◌, length, take, slice_get}
use Rattle.std.specs.Prelude.{All, IsOk, Option, Some, None, Ok}
use Rattle.krb_base.specs.Prefix.{IsPrefix}
use Rattle.krb_record.specs.declared.record.Record.{Record}
use Rattle.krb_seal.specs.Laws.{Agree}
use Rattle.krb_peers.specs.declared.delivery.Delivery.{Delivery}
use Rattle.krb_peers.specs.declared.log.Event.{Event}
use Rattle.krb_record.specs.declared.plan.Emit.{Emit}
use Rattle.krb_record.specs.declared.plan.Emit.TheVariants.{Frame, Flip, Raw}
use Rattle.krb_peers.specs.Attempt.{Attempt, demand_at, IsAttemptAfter, TakesInTurn}
use Rattle.krb_peers.specs.Claims.{NothingAfterClose, RefusesExactly, RefusalsDeliverNothing}
use Rattle.krb_peers.specs.Texts.{texts_of_all}
use Rattle.krb_peers.specs.Ends.{Ends}
use Rattle.krb_peers.specs.Log.{events_of, texts_in, has_closed, has_ended}
use Rattle.krb_peers.specs.LogState.{LogState}
use Rattle.krb_peers.specs.Order.{demand_after, first_demand}
use Rattle.krb_peers.specs.Run.{Run, IsRun}
use Rattle.krb_peers.specs.Sender.{Source, IsWithinLimits, IsFrame, records, sealed_texts}
use Rattle.krb_peers.specs.Moments.{moment_at}
use Rattle.krb_peers.specs.Session.{AreRecords, FitLimits, IsSealed}
use Rattle.krb_peers.specs.Verdicts.{Verdict, record_of, records_of, events_from}
use Rattle.krb_peers.specs.Wire.{IsBad, TakesAll}

-- ---- the premises of what is claimed of sealed texts

-- the lane is paired: both ends have one key, and the number demanded first is the sealer's next
-- one
pub record IsPaired (ends : Ends) : Type 0 where
  pub etype : ends.receiver.opener.etype ≡ ends.source.sealer.etype
  pub key : ends.receiver.opener.key ≡ ends.source.sealer.key
  pub expected : ends.receiver.demand.expected ≡ ends.source.sealer.next
  pub closed : ends.receiver.demand.closed ≡ false

-- whether an emission is altered: none of the sender's own frames
abbrev pub is_altered : Emit → Bool
is_altered (Frame k) = false
is_altered (Flip k at mask) = true
is_altered (Raw bytes) = true

-- the same, if there is an emission
abbrev pub is_altered_one : Option Emit → Bool
is_altered_one None = false
is_altered_one (Some emission) = is_altered emission

-- the frame at a place of the wire is altered: never without a plan
abbrev pub altered_at : Option (List Emit) → ℕ → Bool
altered_at None place = false
altered_at (Some plan) place = is_altered_one (slice_get plan place)

-- the frame is one that the sender seals, or is to seal
pub record IsOwn (source : Source) (frame : List ℕ) : Type 0 where
  pub k : ℕ
  pub carried : Record
  pub there : slice_get (records source) k ≡ Some carried
  pub is : IsFrame source k carried frame

-- The altered-frames premise. If a changed or a raw frame was accepted in this run, it is one of the
-- sender's own after all, or it carried the record of its number. Nothing is assumed of the sender's
-- own frames, however they are repeated, dropped or reordered.
abbrev pub AlteredAreHonest : Run → Type 0
AlteredAreHonest run =
    (place : ℕ) (frame : List ℕ) (d : Delivery) → altered_at run.ends.source.plan place ≡ true
    → slice_get run.took place ≡ Some frame → slice_get run.verdicts place ≡ Some (Ok d)
    → IsOwn run.ends.source frame
    ⊎ (slice_get (records run.ends.source) (length (records_of (take place run.verdicts)))
    ≡ Some (record_of d))

-- ---- a run as an attempt

-- what a receiver takes of a wire, whoever brought it
abbrev pub attempt_of : Run → Attempt
attempt_of run =
    record {
      receiver = run.ends.receiver;
      nows = run.ends.nows;
      took = run.took;
      verdicts = run.verdicts;
    }

-- ---- a clean lane

-- the plan that emits each of so many frames once: 0, 1, ..
abbrev pub in_order : ℕ → List Emit
in_order zero = []
in_order (suc n) = in_order n ++ Frame n ∷ []

-- the wire carries so many frames as they are: without a plan, or by the plan that says so
abbrev pub IsInOrder : Option (List Emit) → ℕ → Type 0
IsInOrder None n = Unit {0}
IsInOrder (Some plan) n = plan ≡ in_order n

-- The lane is paired, and both ends agree on mode and addresses. The k-th frame is taken within the
-- skew of the timestamp at which record k is sealed. The wire carries the frames as they are.
pub record Undisturbed (ends : Ends) : Type 0 where
  pub paired : IsPaired ends
  pub agree :
      (k : ℕ) → k < length (records ends.source)
      → Agree ends.source.sealer.session ends.receiver.opener.expect (moment_at ends.source.ats k)
      (moment_at ends.nows k)
  pub plan : IsInOrder ends.source.plan (length (records ends.source))

-- ---- a lane whose carrier brings each frame in its turn

-- the sender's frame k is at this place of the wire: by the plan, or because there is none
abbrev pub StandsAt : Option (List Emit) → ℕ → ℕ → Type 0
StandsAt None k place = place ≡ k
StandsAt (Some plan) k place = slice_get plan place ≡ Some (Frame k)

-- The plan isn't bad, and of the sender's frames from `first` on, each comes after the one before:
-- frame k at `place k`. Where a run demands it there, both ends agree on mode and addresses, and the
-- frame is taken within the skew of the timestamp at which it is sealed.
pub record ComeInTurn (first : ℕ) (ends : Ends) : Type 0 where
  pub planned : ¬ IsBad ends.source
  pub place : ℕ → ℕ
  pub stands : (k : ℕ) → first ≤ k → k < length (records ends.source)
      → StandsAt ends.source.plan k (place k)
  pub rises : (k : ℕ) → first ≤ k → suc k < length (records ends.source) → place k < place (suc k)
  pub agree :
      (k : ℕ) (run : Run) → first ≤ k → k < length (records ends.source)
      → run.ends ≡ ends → IsRun run
      → (demand_at (attempt_of run) (place k)).expected ≡ ends.source.sealer.next + k
      → Agree ends.source.sealer.session ends.receiver.opener.expect (moment_at ends.source.ats k)
      (moment_at ends.nows (place k))

-- The lane is paired, and each of the sender's frames comes in its turn.
pub record Carried (ends : Ends) : Type 0 where
  pub paired : IsPaired ends
  pub in_turn : ComeInTurn 0 ends

-- ---- a receiver that continues elsewhere

-- what verdicts accepted, of one receiver or of several, are the first records of the sender, in
-- order and each once
abbrev pub AcceptInOrder : Source → List Verdict → Type 0
AcceptInOrder source verdicts = IsPrefix (records_of verdicts) (records source)

-- A receiver continues after verdicts of others, over a wire of its own. It has the sender's key,
-- and demands the number after what was accepted, or nothing if the close was. It knows no more of
-- the earlier receivers.
pub record GoesOnAfter (source : Source) (before : List Verdict) (ends : Ends) : Type 0 where
  pub sender : ends.source ≡ record source { plan = ends.source.plan }
  pub etype : ends.receiver.opener.etype ≡ source.sealer.etype
  pub key : ends.receiver.opener.key ≡ source.sealer.key
  pub demand : ends.receiver.demand
      ≡ demand_after (first_demand source.sealer.next) (records_of before)

-- the altered-frames premise, after so many records were accepted before
abbrev pub AlteredAreHonestAfter : ℕ → Run → Type 0
AlteredAreHonestAfter before run =
    (place : ℕ) (frame : List ℕ) (d : Delivery) → altered_at run.ends.source.plan place ≡ true
    → slice_get run.took place ≡ Some frame → slice_get run.verdicts place ≡ Some (Ok d)
    → IsOwn run.ends.source frame
    ⊎ (slice_get (records run.ends.source)
    (before + length (records_of (take place run.verdicts)))
    ≡ Some (record_of d))

-- ---- the claims about a source

-- what is delivered is a prefix of the texts that were sealed: in order, and each once
abbrev pub DeliversPrefix : Source → List Event → Type 0
DeliversPrefix source events = IsPrefix (texts_in events) (sealed_texts source)

-- all texts are delivered
abbrev pub DeliversAll : Source → List Event → Type 0
DeliversAll source events = texts_in events ≡ sealed_texts source

-- all texts are delivered, and the close is accepted
abbrev pub DeliversWhole : Source → List Event → Type 0
DeliversWhole source events = DeliversAll source events × (has_closed events ≡ true)

-- all texts are delivered if the close was accepted
abbrev pub AllWhereClosed : Source → List Event → Type 0
AllWhereClosed source events = has_closed events ≡ true → DeliversAll source events

-- the headline of a lane: the seven claims, about what the log has of it and about the verdicts of
-- its run
pub record Headline (log : LogState) (lane : ℕ) (run : Run) : Type 0 where
  pub delivered_prefix :
      IsPaired run.ends → AlteredAreHonest run
      → DeliversPrefix run.ends.source (events_of lane log.entries)
  pub nothing_after_close : NothingAfterClose (events_of lane log.entries)
  pub all_where_closed :
      IsPaired run.ends → AlteredAreHonest run
      → AllWhereClosed run.ends.source (events_of lane log.entries)
  -- all texts are delivered if the lane is clean and its End was taken
  pub all_where_undisturbed :
      Undisturbed run.ends → has_ended lane log ≡ true
      → DeliversAll run.ends.source (events_of lane log.entries)
  -- and if each frame came in its turn, whatever else came, and the lane's End was taken
  pub all_where_carried :
      Carried run.ends → AlteredAreHonest run → has_ended lane log ≡ true
      → DeliversWhole run.ends.source (events_of lane log.entries)
  pub refused_exactly : RefusesExactly run.ends.receiver run.ends.nows run.took run.verdicts
  pub refusals_deliver_nothing :
      RefusalsDeliverNothing run.ends.receiver.demand run.verdicts (events_of lane log.entries)

-- ---- what the laws state: a lane is an instance

-- the records of a sender are those of a session, each of its frames is sealed of one, and their
-- texts are the texts that it seals
abbrev pub SourcesSealRecords : Type 0
SourcesSealRecords = (source : Source)
    → AreRecords (records source) × (IsWithinLimits source → FitLimits (records source))
    × ((k : ℕ) (r : Record) (frame : List ℕ) → slice_get (records source) k ≡ Some r
    → IsFrame source k r frame
    → IsSealed source.sealer (records source) k
    (record { carried = r; at = moment_at source.ats k; frame = frame }))
    × (texts_of_all (records source) ≡ sealed_texts source)

-- each run of a paired lane in which altered frames are honest is an attempt at them
abbrev pub RunsAreAttempts : Type 0
RunsAreAttempts =
    (run : Run) → IsPaired run.ends → IsRun run → AlteredAreHonest run
    → IsAttemptAfter run.ends.source.sealer (records run.ends.source) 0 (attempt_of run)

-- and takes them in turn, from the first frame that comes in its turn on, if all of the wire was
-- taken
abbrev pub RunsTakeInTurn : Type 0
RunsTakeInTurn =
    (first : ℕ) (run : Run) → IsRun run → ComeInTurn first run.ends
    → TakesAll run.ends.source run.took
    → let all = records run.ends.source in
    TakesInTurn run.ends.source.sealer all first (length all) (attempt_of run)

-- ---- of any run

-- it holds of each run of a paired lane in which altered frames are honest
abbrev pub OfEachRun : (Source → List Event → Type 0) → Type 0
OfEachRun Claim =
    (run : Run) → IsPaired run.ends → IsRun run → AlteredAreHonest run
    → Claim run.ends.source (events_from run.verdicts)

-- without a plan, what is accepted is a prefix of the records that were sealed until then
abbrev pub AcceptsSealedOnly : Type 0
AcceptsSealedOnly = (run : Run) → IsPaired run.ends → (is : IsRun run) → run.ends.source.plan ≡ None
    → IsPrefix (records_of run.verdicts) (take is.count (records run.ends.source))

abbrev pub RunsDeliverPrefix : Type 0
RunsDeliverPrefix = OfEachRun DeliversPrefix

abbrev pub RunsDeliverAllWhereClosed : Type 0
RunsDeliverAllWhereClosed = OfEachRun AllWhereClosed

-- ---- of a clean lane

-- it holds of each run of such a lane
abbrev pub OfUndisturbed : (Run → Type 0) → Type 0
OfUndisturbed Claim =
    (run : Run) → Undisturbed run.ends → IsWithinLimits run.ends.source → IsRun run → Claim run

abbrev pub NoneIsRefused : Type 0
NoneIsRefused = OfUndisturbed (λ run. All IsOk run.verdicts)

-- the first records are accepted, one for each frame that was taken
abbrev pub AcceptsFirstRecords : Type 0
AcceptsFirstRecords =
    OfUndisturbed
    (λ run. records_of run.verdicts ≡ take (length run.took) (records run.ends.source))

-- and the number after them is demanded
abbrev pub DemandsNumberAfter : Type 0
DemandsNumberAfter = OfUndisturbed (λ run.
    (demand_after run.ends.receiver.demand (records_of run.verdicts)).expected
    ≡ run.ends.receiver.demand.expected + length run.took)

-- all texts are delivered if all frames were taken
abbrev pub DeliversAllThatIsTaken : Type 0
DeliversAllThatIsTaken =
    OfUndisturbed (λ run. TakesAll run.ends.source run.took
    → DeliversAll run.ends.source (events_from run.verdicts))

-- ---- of frames that come in their turn

-- it holds of each run of such a lane in which altered frames are honest
abbrev pub OfCarried : ((run : Run) → Carried run.ends → Type 0) → Type 0
OfCarried Claim =
    (run : Run) (carried : Carried run.ends) → AlteredAreHonest run → IsWithinLimits run.ends.source
    → IsRun run → Claim run carried

-- after frame k in its turn, a number after that of record k is demanded
abbrev pub DemandsNumbersInTurn : Type 0
DemandsNumbersInTurn = OfCarried (λ run carried.
    (k : ℕ) → k < length (records run.ends.source) → carried.in_turn.place k < length run.took
    → let start = run.ends.receiver.demand in
    start.expected + k <
    (demand_after start
    (records_of (take (suc (carried.in_turn.place k)) run.verdicts))).expected)

-- all texts are delivered and the close is accepted if all frames were taken
abbrev pub DeliversAllThatIsCarried : Type 0
DeliversAllThatIsCarried =
    OfCarried (λ run carried. TakesAll run.ends.source run.took
    → DeliversWhole run.ends.source (events_from run.verdicts))

-- a clean lane is one of these, and no frame of it is altered
abbrev pub UndisturbedIsCarried : Type 0
UndisturbedIsCarried = (ends : Ends) → Undisturbed ends → Carried ends

abbrev pub UndisturbedIsHonest : Type 0
UndisturbedIsHonest = (run : Run) → Undisturbed run.ends → AlteredAreHonest run

-- ---- of a receiver that continues elsewhere

-- a receiver of a paired lane accepts in order
abbrev pub PairedAcceptInOrder : Type 0
PairedAcceptInOrder =
    (run : Run) → IsPaired run.ends → IsRun run → AlteredAreHonest run
    → AcceptInOrder run.ends.source run.verdicts

-- it holds of each run that continues after verdicts that accepted in order
abbrev pub OfGoingOn : (Source → List Verdict → Run → Type 0) → Type 0
OfGoingOn Claim =
    (source : Source) (before : List Verdict) (run : Run) → AcceptInOrder source before
    → GoesOnAfter source before run.ends
    → AlteredAreHonestAfter (length (records_of before)) run → IsRun run → Claim source before run

-- together they accept in order, whatever is repeated
abbrev pub GoingOnAcceptsInOrder : Type 0
GoingOnAcceptsInOrder =
    OfGoingOn (λ source before run. AcceptInOrder source (before ++ run.verdicts))

-- so what they deliver is a prefix of the texts that were sealed
abbrev pub InOrderDeliversPrefix : Type 0
InOrderDeliversPrefix =
    (source : Source) (verdicts : List Verdict) → AcceptInOrder source verdicts
    → DeliversPrefix source (events_from verdicts)

-- and all of them, if the frames that weren't accepted before come in their turn
abbrev pub GoingOnDeliversAll : Type 0
GoingOnDeliversAll = OfGoingOn (λ source before run.
    ComeInTurn (length (records_of before)) run.ends → TakesAll run.ends.source run.took
    → DeliversWhole source (events_from (before ++ run.verdicts)))
