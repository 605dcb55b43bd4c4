-- What came through the lanes in a round, and waits for the log.
use Rattle.std.specs.Prelude.{◌≡◌, ◌≢◌, ℕ, ◌<◌, ◌⊎◌, true, false, List, [], ◌∷◌, ◌++◌, length, get_or, All}
use Rattle.std.specs.VecDeque.{deque_capacity}
use Rattle.krb_base.specs.Bytes.{AreBytes}
use Rattle.krb_lane.specs.Side.{Side}
use Rattle.krb_peers.specs.declared.receiver.Receiving.{Receiving}
use Rattle.krb_peers.specs.Log.{ended_at}
use Rattle.krb_peers.specs.LogState.{LogState}
use Rattle.krb_peers.specs.Logged.{MayBeNoted, noted}
use Rattle.krb_peers.specs.Verdicts.{Verdict}
use Rattle.krb_relay.specs.declared.waiting.Last.{Last}
use Rattle.krb_relay.specs.declared.waiting.Last.TheVariants as last
use Rattle.krb_relay.specs.declared.waiting.Waiting.{Waiting}
use Rattle.krb_relay.specs.Opening.{HasJudged}
use Rattle.krb_relay.specs.Serving.{Stands, Stops}

-- no frame has a verdict, and there is room for one
abbrev pub IsUnjudged : Waiting → Type 0
IsUnjudged w = (w.verdicts.items ≡ []) × (0 < deque_capacity w.verdicts)

-- what follows the frames that wait, of a lane that was logged up to `mid` and taken up to `rx`
abbrev pub Follows : Last → Side → Side → List (List ℕ) → Type 0
Follows last.Nothing mid rx frames = (mid.ended ≡ true) × (rx.ended ≡ true) × (frames ≡ [])
Follows last.End mid rx frames = (mid.ended ≡ false) × (rx.ended ≡ true)
Follows (last.More cause) mid rx frames = (mid.ended ≡ false) × (rx.ended ≡ false)

-- what waits is what was taken of the lane since it was logged up to `mid`
pub record HasTaken (mid rx : Side) (w : Waiting) : Type 0 where
  pub came : w.came ≡ length rx.frames
  pub same : rx.lane ≡ mid.lane
  pub capacity : rx.capacity ≡ mid.capacity
  pub frames : rx.frames ≡ mid.frames ++ w.frames.items
  pub follows : Follows w.last mid rx w.frames.items

-- the same of each lane
pub record HaveTaken (mids ends : List Side) (waiting : List Waiting) : Type 0 where
  pub each_end : length ends ≡ length mids
  pub each_lane : length waiting ≡ length mids
  pub each :
      (lane : ℕ) (mid rx : Side) (w : Waiting) → lane < length mids
      → HasTaken (get_or mids lane mid) (get_or ends lane rx) (get_or waiting lane w)

-- what waits of a lane that was logged up to `mid` was opened since the receiver was `it`
abbrev pub IsJudged : Side → Receiving → Receiving → Waiting → Type 0
IsJudged mid it now w = HasJudged it (length mid.frames) w.frames.items w.verdicts.items now

-- what waits of each lane was taken since the lanes were logged up to `mids`, and opened since the
-- receivers were `its`
pub record AreWaiting (mids : List Side) (its : List Receiving) (ends : List Side)
    (receivings : List Receiving) (waiting : List Waiting) : Type 0 where
  pub taken : HaveTaken mids ends waiting
  pub each_receiver : length receivings ≡ length mids
  pub each_before : length its ≡ length mids
  pub judged :
      (lane : ℕ) (mid : Side) (i r : Receiving) (w : Waiting) → lane < length mids
      → IsJudged (get_or mids lane mid) (get_or its lane i) (get_or receivings lane r)
      (get_or waiting lane w)

-- In a round the lanes below this one were logged. What waits of all lanes is what came through
-- these ends since, opened by these receivers.
pub record Waits (number : ℕ) (starts : List Receiving) (ends : List Side)
    (receivings : List Receiving) (waiting : List Waiting) (log : LogState) : Type 0 where
  pub mids : List Side
  pub its : List Receiving
  pub stands : Stands number starts mids its log
  pub waits : AreWaiting mids its ends receivings waiting

-- nothing waits
pub record IsEmpty (w : Waiting) : Type 0 where
  pub no_frame : w.frames.items ≡ []
  pub no_end : w.last ≢ last.End

-- the first verdict that waits may be noted
abbrev pub MayBeLogged : Waiting → ℕ → LogState → Type 0
MayBeLogged w lane log =
    (v : Verdict) (rest : List Verdict) → w.verdicts.items ≡ v ∷ rest
    → MayBeNoted v lane log.entries

-- the first frame that waits has a verdict, and the log has what that brings
pub record LogsFrame (lane : ℕ) (w : Waiting) (log : LogState) (now : Waiting)
    (log-now : LogState) : Type 0 where
  pub frame : List ℕ
  pub bytes : AreBytes frame
  pub verdict : Verdict
  pub frames_are : w.frames.items ≡ frame ∷ now.frames.items
  pub verdicts_are : w.verdicts.items ≡ verdict ∷ now.verdicts.items
  pub came_is : now.came ≡ w.came
  pub last_is : now.last ≡ w.last
  pub log_is : log-now ≡ noted log lane verdict

-- no frame waits, and nothing or the End follows
pub record LogsLast (lane : ℕ) (w : Waiting) (log : LogState) (now : Waiting)
    (log-now : LogState) : Type 0 where
  pub none : w.frames.items ≡ []
  pub frames_are : now.frames.items ≡ w.frames.items
  pub verdicts_are : now.verdicts.items ≡ w.verdicts.items
  pub came_is : now.came ≡ w.came
  pub last_is : now.last ≡ last.Nothing
  pub follows :
      ((w.last ≡ last.Nothing) × (log-now ≡ log))
      ⊎ ((w.last ≡ last.End) × (log-now ≡ ended_at log lane))

-- the next item of a lane was logged
abbrev pub LogsItem : ℕ → Waiting → LogState → Waiting → LogState → Type 0
LogsItem lane w log now log-now = LogsFrame lane w log now log-now ⊎ LogsLast lane w log now log-now

-- what waits can be logged from this lane on
pub record CanLog (number : ℕ) (waiting : List Waiting) (log : LogState) : Type 0 where
  pub starts : List Receiving
  pub ends : List Side
  pub receivings : List Receiving
  pub waits : Waits number starts ends receivings waiting log

-- the lanes from one up to the other were logged
abbrev pub GoesOn : ℕ → ℕ → List Waiting → LogState → List Waiting → LogState → Type 0
GoesOn from to waiting log now log-now =
    (starts : List Receiving) (ends : List Side) (receivings : List Receiving)
    → Waits from starts ends receivings waiting log → Waits to starts ends receivings now log-now

-- all that waits was logged
abbrev pub LogsAll : List Waiting → LogState → LogState → Type 0
LogsAll waiting log log-now =
    (starts : List Receiving) (ends : List Side) (receivings : List Receiving)
    → Waits 0 starts ends receivings waiting log → Stands 0 starts ends receivings log-now

-- the thread stopped, and the log is that of the rounds so far
abbrev pub StopsLog : ℕ → List Waiting → LogState → LogState → Type 0
StopsLog number waiting log log-now =
    (starts : List Receiving) (ends : List Side) (receivings : List Receiving)
    → Waits number starts ends receivings waiting log → Stops starts ends ends log-now
