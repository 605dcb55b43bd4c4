-- The log of a relay.
use Rattle.std.specs.Prelude.{◌≡◌, ℕ, ◌==◌, Bool, true, false, List, [], ◌∷◌, ◌++◌, map, replicate}
use Rattle.std.specs.Prelude.{slice_set, slice_index_or, if◌then◌else◌}
use Rattle.krb_peers.specs.declared.log.Event.{Event}
use Rattle.krb_peers.specs.declared.log.Event.TheVariants.{Text, Closed, Refused}
use Rattle.krb_peers.specs.declared.log.Entry.{Entry}
use Rattle.krb_peers.specs.declared.log.Status.{Status}
use Rattle.krb_peers.specs.declared.log.Status.TheVariants as status
use Rattle.krb_base.specs.Limits.{lane_limit}
use Rattle.krb_peers.specs.LogState.{LogState}

-- the events of a lane, in the log's order
abbrev pub events_of : ℕ → List Entry → List Event
events_of lane [] = []
events_of lane (entry ∷ entries) =
    if entry.lane == lane then entry.event ∷ events_of lane entries else events_of lane entries

-- events of one lane, as entries of a log
abbrev pub entries_for : ℕ → List Event → List Entry
entries_for lane events = map (λ event. record { lane = lane; event = event }) events

-- the texts among events, in order
abbrev pub texts_in : List Event → List (List ℕ)
texts_in [] = []
texts_in (Text text ∷ events) = text ∷ texts_in events
texts_in (Closed ∷ events) = texts_in events
texts_in (Refused refusal ∷ events) = texts_in events

-- whether a close is among events
abbrev pub has_closed : List Event → Bool
has_closed [] = false
has_closed (Text text ∷ events) = has_closed events
has_closed (Closed ∷ events) = true
has_closed (Refused refusal ∷ events) = has_closed events

-- the texts of a lane, and whether the log has a close of it
abbrev pub texts_of : ℕ → List Entry → List (List ℕ)
texts_of lane entries = texts_in (events_of lane entries)

abbrev pub is_closed : ℕ → List Entry → Bool
is_closed lane entries = has_closed (events_of lane entries)

-- a text or a close may follow if there is no close of the lane, a refusal always
abbrev pub MayFollow : Event → ℕ → List Entry → Type 0
MayFollow (Text text) lane entries = is_closed lane entries ≡ false
MayFollow Closed lane entries = is_closed lane entries ≡ false
MayFollow (Refused refusal) lane entries = Unit {0}

-- a new log: it has no entries
abbrev pub new_log : ℕ → LogState
new_log lanes = record { lanes = lanes; entries = []; ended = replicate lane_limit false }

-- one more entry
abbrev pub appended : LogState → ℕ → Event → LogState
appended log lane event =
    record log { entries = log.entries ++ record { lane = lane; event = event } ∷ [] }

-- several more entries, each an event of one lane
abbrev pub appended_all : LogState → ℕ → List Event → LogState
appended_all log lane events = record log { entries = log.entries ++ entries_for lane events }

-- the lane has ended
abbrev pub ended_at : LogState → ℕ → LogState
ended_at log lane = record log { ended = slice_set log.ended lane true }

-- whether the log notes that the lane's End was taken
abbrev pub has_ended : ℕ → LogState → Bool
has_ended lane log = slice_index_or log.ended lane false

-- closed if there is a close, else truncated if the lane has ended, else live
abbrev pub status_of : LogState → ℕ → Status
status_of log lane =
    if is_closed lane log.entries then status.Closed
    else (if slice_index_or log.ended lane false then status.Truncated else status.Live)
