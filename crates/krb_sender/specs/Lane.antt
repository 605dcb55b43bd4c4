-- A shard of a sender, with all its sessions.
use Rattle.std.specs.Prelude.{◌≡◌, ◌≢◌, ◌⊎◌, ℕ, ◌+◌, ◌*◌, ◌-◌, ◌^◌, ◌<◌, ◌≤◌, ◌==◌, nat_le, min, max, Bool, true, false, List, [], ◌∷◌, length, Option, Some, None, unwrap_or, slice_index_or, slice_set}
use Rattle.std.specs.List.{count_by, sum_by}
use Rattle.krb_carry.specs.declared.receipt.Receipt.{Receipt}
use Rattle.krb_engine.specs.declared.pause.Pause.{Pause}
use Rattle.krb_engine.specs.declared.sending.Asks.{Asks}
use Rattle.krb_engine.specs.declared.sending.Command.TheVariants.{Publish, Probe, Wake, Idle}
use Rattle.krb_engine.specs.Limits.{window_most, service_most, under_way_most}
use Rattle.krb_engine.specs.Queue.{has}
use Rattle.krb_engine.specs.Sending.{batch, end_of}
use Rattle.krb_sender.specs.declared.lane.Served.{Served}
use Rattle.krb_sender.specs.declared.session.Own.{Own}
use Rattle.krb_sender.specs.declared.session.Heard.{Heard}
use Rattle.krb_sender.specs.declared.session.Turn.{Turn}
use Rattle.krb_sender.specs.declared.session.Turn.TheVariants.{Does, Held}
use Rattle.krb_sender.specs.SessionState.{SessionState}
use Rattle.krb_sender.specs.Session.{Receives, Serves, heard_list, is_idle, is_moved, is_over, keeps_under_way, may_probe, weight}
use Rattle.krb_sender.specs.Times.{IsFirstTime, NoneIsDue, never, time_of}

-- within how many milliseconds a session is looked at that isn't done, one of which frames left, and one that is held or
-- for which memory ran out
abbrev pub pause_most : ℕ
pause_most = 64000

abbrev pub left_pause : ℕ
left_pause = 2000

abbrev pub memory_pause : ℕ
memory_pause = 100

-- What contracts see of a shard: its sessions, by their places; those that have something to do; when each is looked
-- at; the list that the shard has; how many frames are under way; and what time it was.
pub record LaneState : Type 0 where
  pub sessions : List SessionState
  pub queue : List ℕ
  pub times : List ℕ
  pub list : Option ℕ
  pub under_way : ℕ
  pub clock : ℕ

abbrev pub no_sessions : LaneState
no_sessions = record { sessions = []; queue = []; times = []; list = None; under_way = 0; clock = 0 }

-- how many frames more may be under way: none while the shard has no list
abbrev pub room_with : Option ℕ → ℕ → ℕ
room_with None under_way = 0
room_with (Some list) under_way = under_way_most - under_way

-- ---- what holds of each session, whether it is in the queue, and at its time

-- nothing could leave if there were room: its window is full, or a refusal holds it back, and it is looked at once that is
-- over
abbrev pub Rests : SessionState → ℕ → Type 0
Rests it time =
    (batch it.end service_most ≡ 0)
    ⊎ ((pause : Pause) × (it.end.is_held ≡ true) × (it.end.ask ≡ Some pause) × (time ≤ end_of pause))

pub record IsKept (it : SessionState) (queued : Bool) (time clock : ℕ) : Type 0 where
  -- one that has frames under way gives them up in time, whatever room there is
  pub gives_up : 0 < weight it → time ≤ clock + pause_most
  -- one that isn't done, and isn't in the queue, is looked at in time
  pub is_looked_at : queued ≡ false → is_idle it ≡ false → time ≤ clock + pause_most
  -- and has nothing that could leave, or it is looked at at once
  pub has_nothing : queued ≡ false → is_idle it ≡ false → Rests it time ⊎ (time ≤ clock + memory_pause)

abbrev pub AllKept : List SessionState → List ℕ → List ℕ → ℕ → Type 0
AllKept sessions queue times clock =
    (place : ℕ) (other : SessionState) → place < length sessions
    → IsKept (slice_index_or sessions place other) (has queue place) (time_of times place) clock

-- ---- what holds of a shard

pub record IsLane (sessions : List SessionState) (queue times : List ℕ) (under_way clock : ℕ) : Type 0 where
  pub count : length sessions < 2 ^ 32
  pub sized : length times ≡ length sessions
  pub kept : AllKept sessions queue times clock
  pub places : (place : ℕ) → has queue place ≡ true → place < length sessions
  pub sum : under_way ≡ sum_by weight sessions
  pub few : under_way ≤ under_way_most

-- ---- what is claimed

-- it isn't over, and has frames that didn't take effect
abbrev pub IsUnderWay : SessionState → Type 0
IsUnderWay it = (is_over it ≡ false) × (it.end.done < it.end.progress.next)

-- It could publish if there were room: it has frames that weren't published, and fewer under way than it may, also while
-- it recovers; and no refusal holds it back.
pub record MayPublish (it : SessionState) (clock : ℕ) : Type 0 where
  pub stored : it.end.progress.sent < it.end.progress.next
  pub window : it.end.progress.sent < it.end.progress.carried + min it.end.window window_most
  pub recovers : it.end.done < it.end.recovers → it.end.progress.sent < it.end.done + it.end.window
  pub is_free : it.end.is_held ≡ true → (pause : Pause) → it.end.ask ≡ Some pause → pause.since + pause.length ≤ clock

-- it waits for its turn, or is looked at within this time
abbrev pub IsSoon : LaneState → ℕ → ℕ → Type 0
IsSoon lane place within =
    (has lane.queue place ≡ true) ⊎ (time_of lane.times place ≤ lane.clock + within)

-- Each session that isn't done and isn't over waits for its turn, or is looked at in time.
abbrev pub NoneIsForgotten : LaneState → Type 0
NoneIsForgotten lane =
    (place : ℕ) (other : SessionState) → place < length lane.sessions
    → IsUnderWay (slice_index_or lane.sessions place other)
    → IsSoon lane place 64000

-- One that could publish if there were room waits for its turn, or is looked at at once.
abbrev pub NoneWaitsInVain : LaneState → Type 0
NoneWaitsInVain lane =
    (place : ℕ) (other : SessionState) → place < length lane.sessions
    → IsUnderWay (slice_index_or lane.sessions place other)
    → MayPublish (slice_index_or lane.sessions place other) lane.clock
    → IsSoon lane place 100

-- What is under way is the sum of its sessions', and one that is over has none.
abbrev pub RoomIsTheSum : LaneState → Type 0
RoomIsTheSum lane = (lane.under_way ≡ sum_by weight lane.sessions) × (lane.under_way ≤ 2048)

-- Where something is under way, some session that has it is looked at in time, and gives up what is overdue.
abbrev pub RoomComes : LaneState → Type 0
RoomComes lane =
    0 < lane.under_way
    → (place : ℕ) × ((it : SessionState) × (place < length lane.sessions)
    × (it ≡ slice_index_or lane.sessions place it) × (0 < weight it)
    × (time_of lane.times place ≤ lane.clock + 64000))

-- A shard that has a list, and fewer frames under way than it may, has room.
abbrev pub HasRoom : LaneState → Type 0
HasRoom lane =
    (list : ℕ) → lane.list ≡ Some list → lane.under_way < 2048
    → lane.under_way + room_with lane.list lane.under_way ≡ 2048

-- ---- what follows a turn

-- something more may leave, now or once there is room
abbrev pub more_of : Turn → ℕ → Bool
more_of Held room = false
more_of (Does (Publish from count)) room = true
more_of (Does (Probe number opening)) room = true
more_of (Does (Wake at)) room = room == 0
more_of (Does Idle) room = false

abbrev pub after : ℕ → ℕ → ℕ
after clock pause = min (clock + pause) never

-- when the session is looked at again: at its own time, but later than now and within the pause
abbrev pub look_time : Turn → ℕ → ℕ
look_time Held clock = after clock memory_pause
look_time (Does (Publish from count)) clock = after clock left_pause
look_time (Does (Probe number opening)) clock = after clock left_pause
look_time (Does (Wake at)) clock = min (max at (after clock 1)) (after clock pause_most)
look_time (Does Idle) clock = never

-- its time has come; or it waited first, and there is room
abbrev pub IsPicked : List ℕ → List ℕ → ℕ → ℕ → ℕ → List ℕ → Type 0
IsPicked times queue room now place left =
    ((time_of times place ≤ now) × (left ≡ queue)) ⊎ ((0 < room) × (queue ≡ place ∷ left))

-- A turn is of one session, which hears of its shard's list and is served; the others are as they were.
pub record Turns (old : LaneState) (served : Served) (new : LaneState) : Type 0 where
  pub list : ℕ
  pub before : SessionState
  pub after : SessionState
  pub has_list : old.list ≡ Some list
  pub keeps_list : new.list ≡ Some list
  pub there : served.place < length old.sessions
  pub is_before : before ≡ slice_index_or old.sessions served.place before
  pub becomes : new.sessions ≡ slice_set old.sessions served.place after
  pub moved : served.is_moved ≡ is_moved before list
  pub serves : Serves (heard_list before list) (under_way_most - old.under_way) new.clock served.turn after

-- How many turns there still are at this time, at most: two for each session whose time has come, and one for each that
-- waits, for each of which a probe may leave, and for each frame for which there is room once all were looked at.
abbrev pub turns_of : List SessionState → List ℕ → List ℕ → ℕ → ℕ → ℕ
turns_of sessions queue times list clock =
    2 * count_by (λ (at : ℕ). nat_le at clock) times
    + length queue
    + count_by (λ (it : SessionState). may_probe it clock) sessions
    + (under_way_most - sum_by (λ (it : SessionState). keeps_under_way it list clock) sessions)

abbrev pub turns_left : LaneState → ℕ → ℕ
turns_left lane clock = turns_of lane.sessions lane.queue lane.times (unwrap_or lane.list 0) clock

-- At one time there are at most so many turns: three for each session, one for each that waits, and one for each frame
-- that may be under way.
abbrev pub TurnsEnd : LaneState → Type 0
TurnsEnd lane = turns_left lane lane.clock ≤ 3 * length lane.sessions + length lane.queue + 2048

-- No session has its turn: the shard has no list; or no time has come, and none waits in the queue, or there is no room.
abbrev pub HasNoTurn : LaneState → LaneState → Type 0
HasNoTurn old new =
    (new.sessions ≡ old.sessions) × (new.list ≡ old.list)
    × ((old.list ≡ None)
    ⊎ (NoneIsDue new.times new.clock × ((room_with new.list new.under_way ≡ 0) ⊎ (new.queue ≡ []))))

-- When there is a turn again: at once, where a session waits and there is room; else at the first of all times. Without
-- a list there is none.
pub record IsNext (lane : LaneState) (at : ℕ) : Type 0 where
  pub none : lane.list ≡ None → at ≡ never
  pub waits : (list : ℕ) → lane.list ≡ Some list → lane.under_way < under_way_most → lane.queue ≢ [] → at ≡ lane.clock
  pub others : (list : ℕ) → lane.list ≡ Some list → (under_way_most ≤ lane.under_way) ⊎ (lane.queue ≡ []) → IsFirstTime lane.times at

-- ---- what happens

-- The session of a place was such a one.
abbrev pub Was : LaneState → ℕ → (SessionState → Type 0) → Type 0
Was old place is_such =
    (before : SessionState) × (before ≡ slice_index_or old.sessions place before) × is_such before

-- One session has become another; the others are as they were, and so are the shard's list and its clock.
pub record Becomes (old : LaneState) (place : ℕ) (change : SessionState → SessionState) (new : LaneState) : Type 0 where
  pub before : SessionState
  pub is_before : before ≡ slice_index_or old.sessions place before
  pub becomes : new.sessions ≡ slice_set old.sessions place (change before)
  pub list : new.list ≡ old.list
  pub clock : new.clock ≡ old.clock

-- A receipt is of one session; the others are as they were, and so are the shard's list and its clock.
pub record Hears (old : LaneState) (place : ℕ) (receipt : Receipt) (own : Own) (asks : Asks) (now : ℕ) (heard : Heard)
    (new : LaneState) : Type 0 where
  pub before : SessionState
  pub after : SessionState
  pub is_before : before ≡ slice_index_or old.sessions place before
  pub becomes : new.sessions ≡ slice_set old.sessions place after
  pub receives : Receives before receipt own asks now heard after
  pub list : new.list ≡ old.list
  pub clock : new.clock ≡ old.clock

-- the shard has this list; its sessions, its room and its clock are as they were
pub record IsSameButList (old : LaneState) (given : Option ℕ) (new : LaneState) : Type 0 where
  pub sessions : new.sessions ≡ old.sessions
  pub list : new.list ≡ given
  pub under_way : new.under_way ≡ old.under_way
  pub clock : new.clock ≡ old.clock

abbrev pub IsAwake : LaneState → ℕ → Type 0
IsAwake lane place =
    (other : SessionState) → IsUnderWay (slice_index_or lane.sessions place other) → IsSoon lane place 100

-- each session that isn't done and isn't over has its turn
abbrev pub AllAreAwake : LaneState → Type 0
AllAreAwake lane = (place : ℕ) → place < length lane.sessions → IsAwake lane place
