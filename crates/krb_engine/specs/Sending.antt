-- What each thing that happens makes of a session's end at a sender.
use Rattle.std.specs.Prelude.{◌≡◌, ℕ, ◌+◌, ◌-◌, ◌*◌, ◌^◌, ◌<◌, ◌≤◌, ◌==◌, nat_lt, nat_le, ◌&&◌, ◌||◌, not, Bool, true, false}
use Rattle.std.specs.Prelude.{if◌then◌else◌, min, max, Option, Some, None, is_some, is_none}
use Rattle.krb_engine.specs.declared.pause.Pause.{Pause}
use Rattle.krb_engine.specs.Pause.{begun, longer}
use Rattle.krb_carry.specs.ProgressState.{ProgressState}
use Rattle.krb_carry.specs.Progress.{Store, Publish, Rewind, Confirm, after, resumed, counted}
use Rattle.krb_engine.specs.Limits.{window_first, window_most, service_most, again_first, again_most, probe_first, probe_most, ask_first, ask_most, room_pause}
use Rattle.krb_carry.specs.declared.receipt.Finding.{Finding}
use Rattle.krb_carry.specs.declared.receipt.Finding.TheVariants as findings
use Rattle.krb_engine.specs.declared.sending.Ended.{Ended}
use Rattle.krb_engine.specs.declared.sending.Ended.TheVariants as ends
use Rattle.krb_engine.specs.declared.sending.Stands.{Stands}
use Rattle.krb_engine.specs.declared.sending.Stands.TheVariants as standings
use Rattle.krb_engine.specs.declared.sending.Heard.{Heard}
use Rattle.krb_engine.specs.declared.sending.Heard.TheVariants as hears
use Rattle.krb_engine.specs.declared.sending.Asks.{Asks}
use Rattle.krb_engine.specs.declared.sending.Asks.TheVariants as asks
use Rattle.krb_engine.specs.SendingState.{SendingState}

-- ---- pauses

abbrev pub is_over : Pause → ℕ → Bool
is_over pause now = nat_le (pause.since + pause.length) now

-- when it is over, at the end of time at the latest
abbrev pub never : ℕ
never = 2 ^ 64 - 1

abbrev pub end_of : Pause → ℕ
end_of pause = min (pause.since + pause.length) never

-- ---- what happens

-- what was stored is loaded: all that wasn't carried counts as not published
abbrev pub loaded : ℕ → ℕ → ℕ → ℕ → ℕ → ℕ → SendingState
loaded next carried at done list now = record {
  progress = resumed next carried at;
  done = done;
  list = list;
  recovers = done;
  window = window_first;
  ask = None;
  is_held = false;
  again = begun again_first now;
  probe = begun probe_first now;
  is_answered = false;
  ended = None;
}

-- so many frames more are stored
abbrev pub sealed : SendingState → ℕ → SendingState
sealed state count = record state { progress = after state.progress (Store count) }

-- one frame more may be under way, as long as it doesn't recover
abbrev pub wider : SendingState → ℕ
wider state =
    if nat_lt state.done state.recovers then state.window else min (state.window + 1) window_most

-- A confirmation counts: what is under way has its time anew, and one frame more may be. The first frame that
-- is carried and has no receipt is due one from now on.
abbrev pub confirmed : SendingState → ℕ → ℕ → SendingState
confirmed state offset now = record state {
  progress = counted state.progress offset;
  window = wider state;
  again = begun again_first now;
  probe = if state.progress.carried == state.done then begun probe_first now else state.probe;
}

-- it begins again with the first frame that isn't done
abbrev pub begins : SendingState → SendingState
begins state = record state { progress = resumed state.progress.next state.done 0 }

-- the shard has this list: if it had a different one, what that confirmed may be lost
abbrev pub with_list : SendingState → ℕ → SendingState
with_list state list = record (begins state) { list = list }

abbrev pub listed : SendingState → ℕ → SendingState
listed state list = if list == state.list then state else with_list state list

-- a new connection: what wasn't confirmed may be lost
abbrev pub reconnected : SendingState → SendingState
reconnected state = record state { progress = after state.progress Rewind }

-- how many frames more may be sealed: none once it is stopped
abbrev pub sealing_room : SendingState → ℕ
sealing_room state =
    if is_some state.ended then 0 else window_most - (state.progress.next - state.progress.carried)

-- ---- receipts

-- All frames below the number took effect. If fewer count as carried, it goes on from there. Pauses
-- begin anew, and twice as many frames may leave.
abbrev pub settled_progress : ProgressState → ℕ → ProgressState
settled_progress progress number =
    if nat_lt progress.carried number then resumed progress.next number 0 else progress

abbrev pub settled : SendingState → ℕ → ℕ → SendingState
settled state number now = record state {
  progress = settled_progress state.progress number;
  done = number;
  window = min (2 * state.window) window_most;
  ask = None;
  is_held = false;
  probe = begun probe_first now;
  is_answered = true;
}

-- it is stopped, and gives up what is under way
abbrev pub stopped : SendingState → Ended → SendingState
stopped state why =
    record state { progress = after state.progress Rewind; ended = Some why }

-- what follows of what a receipt is, by krb_carry
abbrev pub found : SendingState → ℕ → ℕ → Finding → SendingState
found state number now findings.Repeat = state
found state number now findings.Delivered = settled state number now
found state number now findings.Older = stopped state ends.Older
found state number now findings.Forked = stopped state ends.Forked

abbrev pub heard_of : Finding → Heard
heard_of findings.Repeat = hears.Nothing
heard_of findings.Delivered = hears.Delivered
heard_of findings.Older = hears.Ended
heard_of findings.Forked = hears.Ended

-- a receiver that asks again is heeded once a pause, which doubles
abbrev pub may_ask : Option Pause → ℕ → Bool
may_ask None now = true
may_ask (Some pause) now = is_over pause now

abbrev pub next_ask : Option Pause → ℕ → Pause
next_ask None now = begun ask_first now
next_ask (Some pause) now = longer ask_most pause now

abbrev pub is_asking : Asks → Bool
is_asking asks.Nothing = false
is_asking asks.Missing = true
is_asking asks.Refused = true

abbrev pub is_refusal : Asks → Bool
is_refusal asks.Nothing = false
is_refusal asks.Missing = false
is_refusal asks.Refused = true

-- It asks for the first frame that isn't done, which counts as carried.
abbrev pub is_asked : SendingState → ℕ → Asks → ℕ → Bool
is_asked state number it now =
    is_asking it && (number == state.done) && nat_lt state.done state.progress.carried
    && is_none state.ended && may_ask state.ask now

-- Then that frame leaves alone, and twice as many with each receipt, until all that counted as carried
-- is done. If it was refused, it leaves after the pause.
abbrev pub asked : SendingState → Asks → ℕ → SendingState
asked state it now = record (begins state) {
  recovers = max state.recovers state.progress.carried;
  window = 1;
  ask = Some (next_ask state.ask now);
  is_held = is_refusal it;
}

-- It refuses the first frame that isn't done.
abbrev pub is_refused : SendingState → ℕ → Asks → Bool
is_refused state number it =
    is_refusal it && (number == state.done) && nat_lt state.done state.progress.next && is_none state.ended

-- Where such a receiver isn't heeded now, that is noted: nothing leaves until the pause is over.
abbrev pub held : SendingState → SendingState
held state = record state { is_held = true }

abbrev pub noted : SendingState → ℕ → Asks → SendingState
noted state number it = if is_refused state number it then held state else state

abbrev pub heeded : SendingState → ℕ → Asks → ℕ → SendingState
heeded state number it now = if is_asked state number it now then asked state it now else noted state number it

-- ---- what is to be done

-- What was published and isn't confirmed after the pause counts as not published, the pause doubles, and few
-- frames may be under way again.
abbrev pub is_lost : SendingState → ℕ → Bool
is_lost state now = nat_lt state.progress.carried state.progress.sent && is_over state.again now

abbrev pub lost : SendingState → ℕ → SendingState
lost state now = record state {
  progress = after state.progress Rewind;
  window = min state.window window_first;
  again = longer again_most state.again now;
}

abbrev pub looked : SendingState → ℕ → SendingState
looked state now = if is_lost state now then lost state now else state

-- nothing is to be done: all is done, or it is stopped
abbrev pub is_settled : SendingState → Bool
is_settled state = is_some state.ended || (state.done == state.progress.next)

-- how many frames from `done` on may leave: all, unless it recovers
abbrev pub recovery_room : SendingState → ℕ
recovery_room state =
    if nat_lt state.done state.recovers then state.done + state.window - state.progress.sent else service_most

-- how many frames may leave in one service, where the shard has room for so many: those that are stored,
-- within the session's window, and within that of its recovery
abbrev pub batch : SendingState → ℕ → ℕ
batch state room =
    min (min service_most room)
    (min (state.progress.next - state.progress.sent)
    (min (state.progress.carried + min state.window window_most - state.progress.sent) (recovery_room state)))

-- nothing holds it back
abbrev pub is_free : SendingState → ℕ → Bool
is_free state now = not state.is_held || may_ask state.ask now

-- so many frames leave; if none was under way, their time begins
abbrev pub published : SendingState → ℕ → ℕ → SendingState
published state count now = record state {
  progress = after state.progress (Publish count);
  again = if state.progress.sent == state.progress.carried then record state.again { since = now } else state.again;
}

-- a receipt is due, and didn't come after the pause
abbrev pub is_unanswered : SendingState → ℕ → Bool
is_unanswered state now = nat_lt state.done state.progress.carried && is_over state.probe now

-- the next pause is twice as long
abbrev pub probed : SendingState → ℕ → SendingState
probed state now = record state { probe = longer probe_most state.probe now }

-- the opening comes with it if no receipt came, or none after two probes
abbrev pub has_opening : SendingState → Bool
has_opening state = not state.is_answered || nat_le (4 * probe_first) state.probe.length

-- ---- when the next thing is due

abbrev pub ask_end : Option Pause → ℕ
ask_end None = never
ask_end (Some pause) = end_of pause

abbrev pub held_end : SendingState → ℕ → ℕ
held_end state count = if nat_lt 0 count then ask_end state.ask else never

abbrev pub again_end : SendingState → ℕ
again_end state =
    if nat_lt state.progress.carried state.progress.sent then end_of state.again else never

abbrev pub probe_end : SendingState → ℕ
probe_end state = if nat_lt state.done state.progress.carried then end_of state.probe else never

-- without room in its shard it asks again after a pause
abbrev pub room_end : ℕ → ℕ → ℕ
room_end room now = if room == 0 then end_of (begun room_pause now) else never

abbrev pub wake_time : SendingState → ℕ → ℕ → ℕ → ℕ
wake_time state count room now =
    min (room_end room now)
    (min (held_end state count) (min (again_end state) (probe_end state)))

-- ---- why it stands

abbrev pub stands_by : Option Ended → Bool → Bool → Bool → Option Stands
stands_by (Some why) held unanswered unconfirmed = Some (standings.Stopped why)
stands_by None held unanswered unconfirmed =
    if held then Some standings.Refused
    else (if unanswered then Some standings.Unanswered
    else (if unconfirmed then Some standings.Unconfirmed else None))

abbrev pub stands : SendingState → Option Stands
stands state =
    stands_by state.ended state.is_held
    (nat_lt state.done state.progress.carried && nat_le (4 * probe_first) state.probe.length)
    (nat_lt state.progress.carried state.progress.sent && nat_lt again_first state.again.length)
