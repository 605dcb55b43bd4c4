-- One lane of a stepped relay.
use Rattle.std.specs.Prelude.{◌≡◌, ℕ, List, [], ◌∷◌, length, slice_get, Option, Some, None}
use Rattle.krb_base.specs.Lane.{Item, Lane, Event, Frame, End, Send, Take, after_event}
use Rattle.krb_peers.specs.Log.{ended_at}
use Rattle.krb_peers.specs.LogState.{LogState}
use Rattle.krb_peers.specs.ReceiverState.{ReceiverState}
use Rattle.krb_peers.specs.Logged.{noted, LogsNext}
use Rattle.krb_peers.specs.Receiver.{verdict_by, receiver_after}
use Rattle.krb_peers.specs.Moments.{moment_at}
use Rattle.krb_peers.specs.Verdicts.{Verdict}

-- what its sender emits, how far that has come, what takes it, and when
pub record TrackState : Type 0 where
  pub wire : List (List ℕ)
  pub lane : Lane (List ℕ)
  pub receiver : ReceiverState
  pub nows : List ℕ

-- what is sent at a place: the frame there, and End after all frames
abbrev pub item_of : Option (List ℕ) → Item (List ℕ)
item_of (Some frame) = Frame frame
item_of None = End

abbrev pub item_at : List (List ℕ) → ℕ → Item (List ℕ)
item_at wire place = item_of (slice_get wire place)

abbrev pub next_send : TrackState → Event (List ℕ)
next_send track = Send (item_at track.wire (length track.lane.sent))

abbrev pub after_send : TrackState → TrackState
after_send track = record track { lane = after_event track.lane (next_send track) }

-- the verdict on a frame that is taken now
abbrev pub verdict_now : TrackState → List ℕ → Verdict
verdict_now track frame =
    verdict_by track.receiver (moment_at track.nows (length track.lane.got)) frame

-- the receiver after it has taken the first item of a queue
abbrev pub receiver_then : TrackState → List (Item (List ℕ)) → ReceiverState
receiver_then track [] = track.receiver
receiver_then track (Frame frame ∷ queue) =
    receiver_after track.receiver (verdict_now track frame)
receiver_then track (End ∷ queue) = track.receiver

abbrev pub after_take : TrackState → TrackState
after_take track = record track {
  lane = after_event track.lane Take;
  receiver = receiver_then track track.lane.queue;
}

-- the log after that: End adds no entry
abbrev pub log_then : LogState → ℕ → TrackState → List (Item (List ℕ)) → LogState
log_then log lane track [] = log
log_then log lane track (Frame frame ∷ queue) = noted log lane (verdict_now track frame)
log_then log lane track (End ∷ queue) = ended_at log lane

abbrev pub log_after : LogState → ℕ → TrackState → LogState
log_after log lane track = log_then log lane track track.lane.queue

-- if a frame is first in the queue, a take leaves it after all that were taken before, and other
-- lanes' entries stay
abbrev pub LogsFront : ℕ → TrackState → LogState → TrackState → LogState → Type 0
LogsFront lane track log track-now log-now =
    (frame : List ℕ) (queue : List (Item (List ℕ))) → track.lane.queue ≡ Frame frame ∷ queue
    → LogsNext track.receiver log lane
    (moment_at track.nows (length track.lane.got)) frame track-now.receiver log-now

-- a frame is first in the queue
pub record HasFrameFirst (track : TrackState) : Type 0 where
  pub frame : List ℕ
  pub queue : List (Item (List ℕ))
  pub first : track.lane.queue ≡ Frame frame ∷ queue
