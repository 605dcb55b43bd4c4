-- A stepped relay, and what its turns leave.
use Rattle.std.specs.Prelude.{◌≡◌, ℕ, Bool, false, List, [], ◌∷◌, length, Option, Some, None}
use Rattle.std.specs.Prelude.{slice_get, slice_set}
use Rattle.std.specs.List.{list_all}
use Rattle.krb_base.specs.Lane.{Event, Take, has_end, is_possible}
use Rattle.krb_peers.specs.declared.sending.Sent.{Sent}
use Rattle.krb_core.specs.declared.turn.Turn.{Turn}
use Rattle.krb_core.specs.declared.turn.Turn.TheVariants as turn
use Rattle.krb_peers.specs.LogState.{LogState}
use Rattle.krb_core.specs.Track.{TrackState, next_send, after_send, after_take, log_after}
use Rattle.krb_core.specs.Track.{HasFrameFirst}
use Rattle.krb_peers.specs.Logged.{IsShut}

-- its lanes, its log, and how much each sender sealed
pub record Relay : Type 0 where
  pub tracks : List TrackState
  pub log : LogState
  pub sents : List Sent

abbrev pub lane_of : Turn → ℕ
lane_of (turn.Send lane) = lane
lane_of (turn.Take lane) = lane

-- the event of a turn on its lane
abbrev pub event_of : Turn → TrackState → Event (List ℕ)
event_of (turn.Send lane) track = next_send track
event_of (turn.Take lane) track = Take

-- its track and the log after the event; an impossible one changes nothing
abbrev pub track_after : Turn → TrackState → TrackState
track_after (turn.Send lane) track = after_send track
track_after (turn.Take lane) track = after_take track

abbrev pub log_then_turn : Turn → TrackState → LogState → LogState
log_then_turn (turn.Send lane) track log = log
log_then_turn (turn.Take lane) track log = log_after log lane track

abbrev pub turned_at : Relay → Turn → Option TrackState → Relay
turned_at relay t None = relay
turned_at relay t (Some track) = record relay {
  tracks = slice_set relay.tracks (lane_of t) (track_after t track);
  log = log_then_turn t track relay.log;
}

-- what one turn leaves
abbrev pub turned : Relay → Turn → Relay
turned relay t = turned_at relay t (slice_get relay.tracks (lane_of t))

-- what a list of turns leaves
abbrev pub after : Relay → List Turn → Relay
after relay [] = relay
after relay (t ∷ ts) = after (turned relay t) ts

-- whether the event of a turn is possible
abbrev pub may_at : Turn → Option TrackState → Bool
may_at t None = false
may_at t (Some track) = is_possible track.lane (event_of t track)

abbrev pub may_move : Relay → Turn → Bool
may_move relay t = may_at t (slice_get relay.tracks (lane_of t))

-- the turn takes a frame: no other one allocates
pub record TakesFrame (relay : Relay) (t : Turn) : Type 0 where
  pub lane : ℕ
  pub takes : t ≡ turn.Take lane
  pub track : TrackState
  pub at : slice_get relay.tracks lane ≡ Some track
  pub frame : HasFrameFirst track

-- the next one of the turns takes a frame
pub record StopsAt (relay : Relay) (turns : List Turn) (n : ℕ) : Type 0 where
  pub turn : Turn
  pub next : slice_get turns n ≡ Some turn
  pub takes : TakesFrame relay turn

-- whether every End was taken
abbrev pub is_done : Relay → Bool
is_done relay = list_all (λ track. has_end track.lane.got) relay.tracks

-- the log has the lanes, whose receivers accept no more after a close
pub record IsRelay (tracks : List TrackState) (log : LogState) (sents : List Sent) : Type 0 where
  pub lanes : length tracks ≡ log.lanes
  pub sealed : length sents ≡ length tracks
  pub shut : (lane : ℕ) (track : TrackState) → slice_get tracks lane ≡ Some track
      → IsShut log lane track.receiver
