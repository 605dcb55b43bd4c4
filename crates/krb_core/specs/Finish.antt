-- How a stepped relay runs to its end.
use Rattle.std.specs.Prelude.{ℕ, zero, suc, ◌+◌, ◌≤◌, max, List, [], ◌∷◌, ◌++◌, length, map}
use Rattle.krb_peers.specs.declared.log.Event.{Event}
use Rattle.krb_peers.specs.declared.log.Entry.{Entry}
use Rattle.krb_core.specs.declared.turn.Turn.{Turn}
use Rattle.krb_core.specs.declared.turn.Turn.TheVariants.{Send, Take}
use Rattle.krb_peers.specs.Verdicts.{groups_of, verdicts}
use Rattle.krb_core.specs.Track.{TrackState}
use Rattle.krb_core.specs.Stepped.{Relay}
use Rattle.krb_peers.specs.Ends.{Ends}
use Rattle.krb_core.specs.Relayed.{HasTurned}
use Rattle.krb_peers.specs.Rounds.{rounds}

-- a send and a take of each of so many lanes, from a lane on
abbrev pub round_turns : ℕ → ℕ → List Turn
round_turns lane zero = []
round_turns lane (suc count) = Send lane ∷ Take lane ∷ round_turns (lane + 1) count

-- so many rounds of so many lanes
abbrev pub rounds_turns : ℕ → ℕ → List Turn
rounds_turns zero count = []
rounds_turns (suc n) count = round_turns 0 count ++ rounds_turns n count

-- the length of the longest wire
abbrev pub longest_wire : List TrackState → ℕ
longest_wire [] = 0
longest_wire (track ∷ tracks) = max (length track.wire) (longest_wire tracks)

-- a round for each frame of the longest wire, and one for the ends
abbrev pub finishing : List TrackState → List Turn
finishing tracks = rounds_turns (longest_wire tracks + 1) (length tracks)

-- what a lane's verdicts over its whole wire bring, one group for each
abbrev pub groups_over : TrackState → List (List Event)
groups_over track =
    let start = track.receiver.demand in
    groups_of (verdicts track.receiver.opener track.nows start 0 track.wire)

-- it holds of a relay whose lanes have room for a frame, after any turns
abbrev pub WithRoom : Relay → Type 0 → Type 0
WithRoom relay Claim =
    (lanes : List Ends) (capacity : ℕ) (before : List Turn) → 1 ≤ capacity
    → HasTurned lanes capacity before relay → Claim

-- it holds of one with no turns before
abbrev pub FromStart : Relay → Type 0 → Type 0
FromStart relay Claim =
    (lanes : List Ends) (capacity : ℕ) → 1 ≤ capacity → HasTurned lanes capacity [] relay → Claim

-- the rounds of the outcomes of all frames of the lanes
abbrev pub whole_log : Relay → List Entry
whole_log relay = rounds (map groups_over relay.tracks)
