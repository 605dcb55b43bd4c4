-- What is true of a stepped relay after any turns.
use Rattle.std.specs.Prelude.{◌≡◌, ◌≤◌, ℕ, ◌==◌, List, [], ◌∷◌, ◌++◌, length, slice_get, Option}
use Rattle.std.specs.Prelude.{Some, None, if◌then◌else◌}
use Rattle.std.specs.List.{flat_map}
use Rattle.krb_base.specs.Limits.{lane_limit}
use Rattle.krb_base.specs.Prefix.{IsPrefix}
use Rattle.krb_base.specs.Lane.{Item, Frame, End, IsReached, empty, frames}
use Rattle.krb_base.specs.Lane as machine
use Rattle.krb_peers.specs.declared.log.Entry.{Entry}
use Rattle.krb_core.specs.declared.turn.Turn.{Turn}
use Rattle.krb_core.specs.declared.turn.Turn.TheVariants.{Send, Take}
use Rattle.krb_peers.specs.Log.{new_log}
use Rattle.krb_peers.specs.LogState.{LogState}
use Rattle.krb_peers.specs.Verdicts.{Verdict}
use Rattle.krb_peers.specs.Planned.{Headline}
use Rattle.krb_peers.specs.ReceiverState.{ReceiverState}
use Rattle.krb_peers.specs.Run.{Run}
use Rattle.krb_core.specs.Track.{TrackState, verdict_now}
use Rattle.krb_peers.specs.Logged.{HasLogged, entries_by}
use Rattle.krb_core.specs.TrackPlaces.{items_of}
use Rattle.krb_peers.specs.Ends.{Ends}
use Rattle.krb_peers.specs.Wire.{IsWire}
use Rattle.krb_core.specs.Start.{AreBegun}
use Rattle.krb_core.specs.Stepped.{Relay, lane_of, event_of, turned, after}

-- ---- what turns left

-- all lanes have begun, and the log is empty
pub record HasBegun (lanes : List Ends) (capacity : ℕ) (relay : Relay) : Type 0 where
  pub few : length lanes ≤ lane_limit
  pub lanes_are : AreBegun capacity lanes relay.tracks relay.sents
  pub log : relay.log ≡ new_log (length lanes)

-- a relay of these lanes has begun, and these turns left this of it
pub record HasTurned (lanes : List Ends) (capacity : ℕ) (turns : List Turn)
    (relay : Relay) : Type 0 where
  pub begun : Relay
  pub start : HasBegun lanes capacity begun
  pub left : relay ≡ after begun turns

-- ---- the events of turns

-- the event of a turn, if it is one of this lane
abbrev pub event_at : ℕ → Turn → Option TrackState → List (machine.Event (List ℕ))
event_at lane turn None = []
event_at lane turn (Some track) = if lane_of turn == lane then event_of turn track ∷ [] else []

-- the events of a lane, in the order of its turns
abbrev pub turned_events : ℕ → Relay → List Turn → List (machine.Event (List ℕ))
turned_events lane relay [] = []
turned_events lane relay (turn ∷ turns) =
    event_at lane turn (slice_get relay.tracks (lane_of turn))
    ++ turned_events lane (turned relay turn) turns

-- ---- what turns took

-- a frame that was taken: its lane, and the verdict on it
pub record Taking : Type 0 where
  pub lane : ℕ
  pub verdict : Verdict

-- the first frame of a lane's queue, if there is one
abbrev pub taking_of : ℕ → TrackState → List (Item (List ℕ)) → List Taking
taking_of lane track [] = []
taking_of lane track (Frame frame ∷ queue) =
    record { lane = lane; verdict = verdict_now track frame } ∷ []
taking_of lane track (End ∷ queue) = []

abbrev pub taking_by : Turn → TrackState → List Taking
taking_by (Send lane) track = []
taking_by (Take lane) track = taking_of lane track track.lane.queue

abbrev pub taking_at : Turn → Option TrackState → List Taking
taking_at turn None = []
taking_at turn (Some track) = taking_by turn track

-- what the turns took, in their order
abbrev pub takings : Relay → List Turn → List Taking
takings relay [] = []
takings relay (turn ∷ turns) =
    taking_at turn (slice_get relay.tracks (lane_of turn)) ++ takings (turned relay turn) turns

-- what their verdicts bring to a log, in order
abbrev pub entries_in : List Taking → List Entry
entries_in takings = flat_map (λ taking. entries_by taking.lane taking.verdict) takings

-- ---- what is true of each lane

-- the lane is what these events leave of an empty one, and what was sent is a prefix of what its
-- sender emits and then End
pub record IsLane (ends : Ends) (capacity : ℕ) (events : List (machine.Event (List ℕ)))
    (track : TrackState) : Type 0 where
  pub emits : IsWire ends.source track.wire
  pub sent : IsPrefix track.lane.sent (items_of track.wire)
  pub left : track.lane ≡ machine.after (empty capacity) events
  pub reached : IsReached track.lane

-- ---- the headline

-- the log has the verdicts on the frames that a lane's receiver took from its start on
abbrev pub IsLogged : Ends → ℕ → List (List ℕ) → LogState → ReceiverState → List Verdict → Type 0
IsLogged ends lane took log receiver verdicts =
    HasLogged ends.receiver ends.nows lane took log receiver verdicts

-- what was taken of a lane, with these verdicts
abbrev pub run_of : Ends → TrackState → List Verdict → Run
run_of ends track verdicts =
    record { ends = ends; took = frames track.lane.got; verdicts = verdicts }

-- the log has the verdicts on what the lane's receiver took, and the claims hold of them
pub record HasHeadline (ends : Ends) (lane : ℕ) (track : TrackState) (log : LogState) : Type 0 where
  pub verdicts : List Verdict
  pub logged : IsLogged ends lane (frames track.lane.got) log track.receiver verdicts
  pub claims : Headline log lane (run_of ends track verdicts)

-- ---- of all lanes

-- it holds of each lane of a relay
abbrev pub OfEachLane : List Ends → Relay → (Ends → ℕ → TrackState → Type 0) → Type 0
OfEachLane lanes relay Claim =
    (lane : ℕ) (ends : Ends) → slice_get lanes lane ≡ Some ends
    → (track : TrackState) × (slice_get relay.tracks lane ≡ Some track) × Claim ends lane track

-- the headline holds of each lane
abbrev pub HaveHeadline : List Ends → Relay → Type 0
HaveHeadline lanes relay =
    OfEachLane lanes relay (λ ends lane track. HasHeadline ends lane track relay.log)

-- ---- from turns to turns

-- after any turns, these turns come next
abbrev pub GoesOn : Relay → List Turn → Relay → Type 0
GoesOn old turns now =
    (lanes : List Ends) (capacity : ℕ) (before : List Turn) → HasTurned lanes capacity before old
    → HasTurned lanes capacity (before ++ turns) now

-- after any turns, the headline holds
abbrev pub KeepsHeadline : Relay → Relay → Type 0
KeepsHeadline old now =
    (lanes : List Ends) (capacity : ℕ) (before : List Turn) → HasTurned lanes capacity before old
    → HaveHeadline lanes now
