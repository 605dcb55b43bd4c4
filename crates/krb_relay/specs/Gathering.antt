-- What fork and join over the lanes gathers.
use Rattle.std.specs.Prelude.{◌≡◌, ℕ, ◌+◌, ◌<◌, ◌≤◌, ◌⊎◌, true, false, List, [], ◌∷◌, ◌++◌, map}
use Rattle.std.specs.Prelude.{reverse, length, get_or, All, Option, None, Some}
use Rattle.std.specs.List.{AllZip}
use Rattle.krb_base.specs.Limits.{lane_limit}
use Rattle.krb_base.specs.Prefix.{IsPrefix}
use Rattle.krb_lane.specs.Side.{Side, LaneId}
use Rattle.krb_peers.specs.declared.receiver.Receiving.{Receiving}
use Rattle.krb_peers.specs.Log.{has_ended}
use Rattle.krb_peers.specs.LogState.{LogState}
use Rattle.krb_relay.specs.declared.cause.Cause.{Cause}
use Rattle.krb_relay.specs.declared.fault.OwnFault.{OwnFault}
use Rattle.krb_relay.specs.declared.fault.WorkerFault.{WorkerFault}
use Rattle.krb_relay.specs.declared.worker.Handed.{Handed}
use Rattle.krb_relay.specs.Heard.{Heard, BeginsAt, AreAnswers, rounds_heard, all_heard}
use Rattle.krb_relay.specs.Sealed.{sealed_on}

abbrev pub lane_of : Side → LaneId
lane_of rx = rx.lane

abbrev pub IsEnded : Side → Type 0
IsEnded rx = rx.ended ≡ true

-- nothing has come yet
pub record IsFresh (rx : Side) : Type 0 where
  pub frames : rx.frames ≡ []
  pub ended : rx.ended ≡ false

-- the log notes that each of so many lanes has ended
abbrev pub NotesAll : LogState → ℕ → Type 0
NotesAll log lanes = (lane : ℕ) → lane < lanes → has_ended lane log ≡ true

-- End was taken of a lane
pub record TookEnd (ends : List Side) (lane : ℕ) : Type 0 where
  pub there : lane < length ends
  pub ended : (none : Side) → (get_or ends lane none).ended ≡ true

-- of its lanes the log notes as ended only those whose End was taken
abbrev pub NotesTaken : LogState → List Side → Type 0
NotesTaken log ends =
    (lane : ℕ) → lane < log.lanes → has_ended lane log ≡ true → TookEnd ends lane

-- The log is that of the rounds of the verdicts on the first frames of each lane, and on all of
-- them unless the thread had a fault of its own. It notes the Ends that were taken.
pub record Finished (starts : List Receiving) (ends now : List Side) (log : LogState)
    (own : Option OwnFault) : Type 0 where
  pub seen : List Heard
  pub judged : All AreAnswers seen
  pub logged : log.entries ≡ rounds_heard seen
  pub begins : AllZip BeginsAt seen (all_heard starts now)
  pub lanes : log.lanes ≡ length starts
  pub same : map lane_of now ≡ map lane_of ends
  pub taken : NotesTaken log now
  pub whole : own ≡ None → (seen ≡ all_heard starts now) × All IsEnded now
      × NotesAll log (length starts)

-- one end more, of a fresh lane with this other end
pub record Begun (ends now : List Side) (tx : Side) : Type 0 where
  pub mine : Side
  pub grown : now ≡ ends ++ mine ∷ []
  pub fresh : IsFresh mine
  pub empty : tx.frames ≡ []
  pub same : mine.lane ≡ tx.lane

-- the last end is of the lane of this other end
pub record EndsWith (ends : List Side) (tx : Side) : Type 0 where
  pub front : List Side
  pub mine : Side
  pub split : ends ≡ front ++ mine ∷ []
  pub empty : tx.frames ≡ []
  pub same : mine.lane ≡ tx.lane

-- a worker that was started, with its part and its end of the lane, what it returned, and what came
-- through the lane
pub record Started (S : Type 0) : Type 0 where
  pub part : S
  pub tx : Side
  pub handed : Handed
  pub got : Side

abbrev pub part_of : {S : Type 0} → Started S → S
part_of worker = worker.part

abbrev pub got_by : {S : Type 0} → Started S → Side
got_by worker = worker.got

abbrev pub HasEnded : {S : Type 0} → Started S → Type 0
HasEnded worker = worker.got.ended ≡ true

-- the fault of the least lane, from this number on
abbrev pub first_of : Option Cause → ℕ → Option WorkerFault → Option WorkerFault
first_of None lane rest = rest
first_of (Some cause) lane rest = Some (record { cause = cause; lane = lane })

abbrev pub least : {S : Type 0} → ℕ → List (Started S) → Option WorkerFault
least lane [] = None
least lane (worker ∷ workers) = first_of worker.handed.cause lane (least (lane + 1) workers)

-- from this lane on, each worker sealed as many records as the list says, and nothing was sealed on
-- later lanes
abbrev pub Counts : {S : Type 0} → List ℕ → ℕ → List (Started S) → Type 0
Counts sealed lane [] = (later : ℕ) → lane ≤ later → sealed_on later sealed ≡ 0
Counts sealed lane (worker ∷ workers) =
    (sealed_on lane sealed ≡ worker.handed.sealed) × Counts sealed (lane + 1) workers

module _ {S : Type 0} (gives : S → Side → Handed → Type 0) where
  -- the worker kept its promise, and its lane delivered what it sent
  pub record IsServed (worker : Started S) : Type 0 where
    pub fresh : worker.tx.frames ≡ []
    pub kept : gives worker.part worker.tx worker.handed
    pub prefix : IsPrefix worker.got.frames worker.handed.all.frames
    pub whole : worker.got.ended ≡ true → worker.got.frames ≡ worker.handed.all.frames

  -- workers for the first of the parts, last part first, after these ends; what they returned, the
  -- log that their lanes leave, and how many records each sealed; if not all workers were started,
  -- the fault names the first lane that has none
  pub record Gathers (parts : List S) (starts : List Receiving) (ends now : List Side)
      (log : LogState) (sealed : List ℕ) (own : Option OwnFault)
      (fault : Option WorkerFault) : Type 0 where
    pub inner : List (Started S)
    pub unstarted : List S
    pub parts_are : reverse parts ≡ map part_of inner ++ unstarted
    pub served : All IsServed inner
    pub seen : List Heard
    pub judged : All AreAnswers seen
    pub logged : log.entries ≡ rounds_heard seen
    pub begins : AllZip BeginsAt seen (all_heard starts (now ++ map got_by inner))
    pub lanes : log.lanes ≡ length starts
    pub same : map lane_of now ≡ map lane_of ends
    pub taken : NotesTaken log (now ++ map got_by inner)
    pub counted : Counts sealed (length ends) inner
    pub long : length sealed ≡ lane_limit
    pub named : fault ≡ least (length ends) inner
    pub own_named : (stop : OwnFault) → own ≡ Some stop → (unstarted ≡ [])
        ⊎ (stop.lane ≡ length ends + length inner)
    pub whole :
        own ≡ None
        → (unstarted ≡ []) × (seen ≡ all_heard starts (now ++ map got_by inner)) × All IsEnded now
        × All HasEnded inner
        × NotesAll log (length starts)

  -- the last lane was met, and its worker kept its promise
  pub record Leaves (ends now : List Side) (part : S) (tx : Side) (sealed : ℕ)
      (cause : Option Cause) : Type 0 where
    pub mine : Side
    pub handed : Handed
    pub split : ends ≡ now ++ mine ∷ []
    pub sealed_is : sealed ≡ handed.sealed
    pub cause_is : cause ≡ handed.cause
    pub served : IsServed (record { part = part; tx = tx; handed = handed; got = mine })
