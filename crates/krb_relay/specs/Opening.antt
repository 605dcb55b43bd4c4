-- What opening the frames that wait gives.
use Rattle.std.specs.Prelude.{◌≡◌, ℕ, ◌+◌, ◌<◌, ◌≤◌, List, [], length, take, get_or}
use Rattle.std.specs.Prelude.{Option, Some, None, slice_index_or, ◌∷◌}
use Rattle.std.specs.VecDeque.{deque_capacity}
use Rattle.krb_peers.specs.declared.receiver.Receiving.{Receiving}
use Rattle.krb_peers.specs.Moments.{moment_at}
use Rattle.krb_peers.specs.Order.{demand_after}
use Rattle.krb_peers.specs.Receiver.{receiver_after, verdict_by}
use Rattle.krb_peers.specs.Verdicts.{Verdict, records_of, verdicts}
use Rattle.krb_relay.specs.declared.waiting.Waiting.{Waiting}

abbrev pub HasMoment : Receiving → Type 0
HasMoment receiving = 0 < length receiving.nows.items

-- the frames came through the lane, and have no verdicts yet, but room for one
pub record IsReady (w : Waiting) : Type 0 where
  pub unjudged : w.verdicts.items ≡ []
  pub room : 0 < deque_capacity w.verdicts
  pub came : length w.frames.items ≤ w.came

-- the same of each lane
pub record AreReady (receivings : List Receiving) (waiting : List Waiting) : Type 0 where
  pub same : length receivings ≡ length waiting
  pub moments : (lane : ℕ) (r : Receiving) → lane < length receivings
      → HasMoment (get_or receivings lane r)
  pub ready : (lane : ℕ) (w : Waiting) → lane < length waiting → IsReady (get_or waiting lane w)

-- the verdict on the frame of this place, after which the receiver goes on, or out of memory
abbrev pub JudgesNext : Receiving → ℕ → List ℕ → Option Verdict → Receiving → Type 0
JudgesNext r place frame (Some v) now =
    (v ≡ verdict_by r.receiver (moment_at r.nows.items place) frame)
    × (now ≡ record r { receiver = receiver_after r.receiver v })
JudgesNext r place frame None now = now ≡ r

-- the verdict on the first frame of a lane, and the receiver after it; without a frame there is none
abbrev pub JudgesFrame : Receiving → ℕ → List (List ℕ) → Option Verdict → Receiving → Type 0
JudgesFrame r place [] v now = (v ≡ None) × (now ≡ r)
JudgesFrame r place (frame ∷ rest) v now = JudgesNext r place frame v now

abbrev pub JudgesFirst : Receiving → Waiting → Option Verdict → Receiving → Type 0
JudgesFirst r w v now =
    (place : ℕ) → place + length w.frames.items ≡ w.came → JudgesFrame r place w.frames.items v now

-- as a list
abbrev pub listed : Option Verdict → List Verdict
listed None = []
listed (Some v) = v ∷ []

-- the verdict on the first frame was entered, and the rest stays
pub record Enters (w : Waiting) (v : Option Verdict) (now : Waiting) : Type 0 where
  pub came_is : now.came ≡ w.came
  pub frames_are : now.frames.items ≡ w.frames.items
  pub last_is : now.last ≡ w.last
  pub verdicts_are : now.verdicts.items ≡ listed v

-- the same of each lane
pub record EntersEach (waiting : List Waiting) (verdicts : List (Option Verdict))
    (now : List Waiting) : Type 0 where
  pub lanes : length now ≡ length waiting
  pub each : (lane : ℕ) (w v : Waiting) → lane < length waiting
      → Enters (get_or waiting lane w) (slice_index_or verdicts lane None) (get_or now lane v)

-- the verdicts on the first of these frames, the first of which has this place, and the receiver
-- after them
pub record HasJudged (r : Receiving) (place : ℕ) (frames : List (List ℕ)) (judged : List Verdict)
    (now : Receiving) : Type 0 where
  pub verdicts_are : judged
      ≡ verdicts r.receiver.opener r.nows.items r.receiver.demand place
      (take (length judged) frames)
  pub receiver_is : now.receiver
      ≡ record r.receiver { demand = demand_after r.receiver.demand (records_of judged) }
  pub nows_are : now.nows ≡ r.nows

-- the frames that wait of a lane were opened, as far as there was memory
pub record Opens (r : Receiving) (w : Waiting) (now : Receiving) (v : Waiting) : Type 0 where
  pub came_is : v.came ≡ w.came
  pub frames_are : v.frames.items ≡ w.frames.items
  pub last_is : v.last ≡ w.last
  pub judged : (place : ℕ) → place + length w.frames.items ≡ w.came
      → HasJudged r place w.frames.items v.verdicts.items now

-- the same of each lane
pub record OpensEach (receivings : List Receiving) (waiting : List Waiting) (now : List Receiving)
    (opened : List Waiting) : Type 0 where
  pub receivers : length now ≡ length receivings
  pub lanes : length opened ≡ length waiting
  pub each :
      (lane : ℕ) (r next : Receiving) (w v : Waiting) → lane < length receivings
      → Opens (get_or receivings lane r) (get_or waiting lane w) (get_or now lane next)
      (get_or opened lane v)

-- the same of the lanes below this one, and nothing of the others
pub record OpensBelow (number : ℕ) (receivings : List Receiving) (waiting : List Waiting)
    (now : List Receiving) (opened : List Waiting) : Type 0 where
  pub receivers : length now ≡ length receivings
  pub lanes : length opened ≡ length waiting
  pub done :
      (lane : ℕ) (r next : Receiving) (w v : Waiting) → lane < number → lane < length receivings
      → Opens (get_or receivings lane r) (get_or waiting lane w) (get_or now lane next)
      (get_or opened lane v)
  pub rest :
      (lane : ℕ) (r : Receiving) (w : Waiting) → number ≤ lane
      → (get_or now lane r ≡ get_or receivings lane r)
      × (get_or opened lane w ≡ get_or waiting lane w)
