-- What the calling thread does with its ends of the lanes.
use Rattle.std.specs.Prelude.{◌≡◌, ℕ, suc, ◌≤◌, ◌<◌, ◌⊎◌, true, false, List, [], ◌∷◌, ◌++◌, length}
use Rattle.std.specs.Prelude.{map, take, drop, get_or, All}
use Rattle.std.specs.List.{AllZip}
use Rattle.krb_base.specs.Limits.{lane_limit}
use Rattle.krb_base.specs.Prefix.{IsPrefix}
use Rattle.krb_lane.specs.Side.{Side}
use Rattle.krb_peers.specs.declared.receiver.Receiving.{Receiving}
use Rattle.krb_peers.specs.Log.{has_ended}
use Rattle.krb_peers.specs.Log.{ended_at}
use Rattle.krb_peers.specs.LogState.{LogState}
use Rattle.krb_peers.specs.Logged.{HasLogged, LogsNext, noted}
use Rattle.krb_peers.specs.Receiver.{verdict_by, receiver_after}
use Rattle.krb_peers.specs.Moments.{moment_at}
use Rattle.krb_peers.specs.Verdicts.{Verdict}
use Rattle.krb_relay.specs.Gathering.{NotesTaken}
use Rattle.krb_relay.specs.Heard.{Heard, heard, answers, AreAnswers, rounds_heard, all_heard}

-- one lane at the calling thread: its end, its receiver as it was at first, and as it is
pub record Post : Type 0 where
  pub start : Receiving
  pub rx : Side
  pub receiving : Receiving

abbrev pub post : Receiving → Side → Receiving → Post
post start rx receiving = record { start = start; rx = rx; receiving = receiving }

abbrev pub posts : List Receiving → List Side → List Receiving → List Post
posts (start ∷ starts) (rx ∷ ends) (receiving ∷ receivings) =
    post start rx receiving ∷ posts starts ends receivings
posts starts ends receivings = []

abbrev pub heard_at : Post → Heard
heard_at p = heard p.start p.rx.frames

-- the receiver is as the lane's frames leave it, and the log has what its verdicts on them bring
-- and notes the lane's End if that was taken
pub record IsTied (log : LogState) (lane : ℕ) (p : Post) : Type 0 where
  pub logged : HasLogged p.start.receiver p.start.nows.items lane p.rx.frames log
      p.receiving.receiver (answers (heard_at p))
  pub nows : p.receiving.nows ≡ p.start.nows
  pub moments : 0 < length p.start.nows.items
  pub room : lane < length log.ended
  pub ended : has_ended lane log ≡ p.rx.ended

abbrev pub AreTied : LogState → List Post → Type 0
AreTied log all =
    (lane : ℕ) (none : Post) → lane < length all → IsTied log lane (get_or all lane none)

-- at most so many frames came, and as many if the lane goes on
pub record IsLevel (round : ℕ) (p : Post) : Type 0 where
  pub most : length p.rx.frames ≤ round
  pub least : p.rx.ended ≡ false → round ≤ length p.rx.frames

-- in some round the lanes below this one were served
pub record InRound (number : ℕ) (all : List Post) (log : LogState) : Type 0 where
  pub round : ℕ
  pub served : All (IsLevel (suc round)) (take number all)
  pub waiting : All (IsLevel round) (drop number all)
  pub tied : AreTied log all
  pub logged : log.entries ≡ rounds_heard (map heard_at all)
  pub lanes : log.lanes ≡ length all
  pub few : length all ≤ lane_limit

-- the thread holds an end and a receiver of each lane, and stands in such a round
pub record Stands (number : ℕ) (starts : List Receiving) (ends : List Side)
    (receivings : List Receiving) (log : LogState) : Type 0 where
  pub each_end : length ends ≡ length starts
  pub each_receiver : length receivings ≡ length starts
  pub stands : InRound number (posts starts ends receivings) log

-- ---- one turn: the next item of a lane whose End wasn't taken

-- an end after a frame, and after End
abbrev pub passed : Side → List ℕ → Side
passed rx frame = record rx { frames = rx.frames ++ frame ∷ [] }

abbrev pub closed : Side → Side
closed rx = record rx { ended = true }

-- a lane that has ended is left alone
pub record Rests (p : Post) (log : LogState) (q : Post) (log-now : LogState) : Type 0 where
  pub ended : p.rx.ended ≡ true
  pub same : q ≡ p
  pub log_is : log-now ≡ log

-- End was taken, and the log notes it
pub record Ends (lane : ℕ) (p : Post) (log : LogState) (q : Post)
    (log-now : LogState) : Type 0 where
  pub closes : q ≡ record p { rx = closed p.rx }
  pub log_is : log-now ≡ ended_at log lane

-- the verdict on the next frame
abbrev pub verdict_next : Post → List ℕ → Verdict
verdict_next p frame =
    verdict_by p.receiving.receiver (moment_at p.receiving.nows.items (length p.rx.frames)) frame

-- a frame was taken, and its outcome is logged
pub record Judges (lane : ℕ) (p : Post) (log : LogState) (q : Post)
    (log-now : LogState) : Type 0 where
  pub frame : List ℕ
  pub live : p.rx.ended ≡ false
  pub start_is : q.start ≡ p.start
  pub rx_is : q.rx ≡ passed p.rx frame
  pub receiver_is : q.receiving.receiver
      ≡ receiver_after p.receiving.receiver (verdict_next p frame)
  pub nows_is : q.receiving.nows ≡ p.receiving.nows
  pub log_is : log-now ≡ noted log lane (verdict_next p frame)
  pub logs : LogsNext p.receiving.receiver log lane
      (moment_at p.receiving.nows.items (length p.rx.frames)) frame q.receiving.receiver log-now

abbrev pub Turns : ℕ → Post → LogState → Post → LogState → Type 0
Turns lane p log q log-now =
    Rests p log q log-now ⊎ (Ends lane p log q log-now ⊎ Judges lane p log q log-now)

-- ---- where the thread stops

-- more came through the same end, and an End that was taken stays taken
pub record Drains (rx now : Side) : Type 0 where
  pub same : now.lane ≡ rx.lane
  pub more : IsPrefix rx.frames now.frames
  pub ended : rx.ended ≡ true → now.ended ≡ true

-- the log is that of the rounds of these ends at some moment, with the Ends that were taken until
-- then, and more came since
pub record Stops (starts : List Receiving) (ends now : List Side) (log : LogState) : Type 0 where
  pub mid : List Side
  pub judged : All AreAnswers (all_heard starts mid)
  pub logged : log.entries ≡ rounds_heard (all_heard starts mid)
  pub lanes : log.lanes ≡ length starts
  pub taken : NotesTaken log mid
  pub same : map (λ (rx : Side). rx.lane) mid ≡ map (λ (rx : Side). rx.lane) ends
  pub drained : AllZip Drains mid now
