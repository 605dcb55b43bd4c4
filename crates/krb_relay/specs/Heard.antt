-- What the calling thread receives of each lane.
use Rattle.std.specs.Prelude.{◌≡◌, ℕ, List, [], ◌∷◌, map}
use Rattle.krb_base.specs.Prefix.{IsPrefix}
use Rattle.krb_lane.specs.Side.{Side}
use Rattle.krb_peers.specs.declared.log.Entry.{Entry}
use Rattle.krb_peers.specs.declared.log.Event.{Event}
use Rattle.krb_peers.specs.declared.receiver.Receiving.{Receiving}
use Rattle.krb_peers.specs.Rounds.{rounds}
use Rattle.krb_peers.specs.Verdicts.{Verdict, AreJudged, verdicts, groups_of}

-- a receiver as it was at first, and the frames that have come to it since
pub record Heard : Type 0 where
  pub start : Receiving
  pub frames : List (List ℕ)

abbrev pub heard : Receiving → List (List ℕ) → Heard
heard start frames = record { start = start; frames = frames }

-- its verdicts on them
abbrev pub answers : Heard → List Verdict
answers h =
    let first = h.start.receiver.demand in
    verdicts h.start.receiver.opener h.start.nows.items first 0 h.frames

abbrev pub AreAnswers : Heard → Type 0
AreAnswers h = AreJudged h.start.receiver h.start.nows.items h.frames (answers h)

-- and the groups of events that they bring
abbrev pub groups_in : Heard → List (List Event)
groups_in h = groups_of (answers h)

-- of all lanes, in rounds
abbrev pub rounds_heard : List Heard → List Entry
rounds_heard all = rounds (map groups_in all)

-- the same receiver, and no more frames
abbrev pub BeginsAt : Heard → Heard → Type 0
BeginsAt h g = (h.start ≡ g.start) × IsPrefix h.frames g.frames

-- what came through these ends, lane by lane: nothing if there is no end yet
abbrev pub all_heard : List Receiving → List Side → List Heard
all_heard [] ends = []
all_heard (start ∷ starts) [] = heard start [] ∷ all_heard starts []
all_heard (start ∷ starts) (rx ∷ ends) = heard start rx.frames ∷ all_heard starts ends
