-- A session of a sender.
use Rattle.std.specs.Prelude.{◌≡◌, ◌≢◌, ◌⊎◌, ℕ, ◌-◌, ◌<◌, ◌≤◌, ◌==◌, ◌||◌, ◌&&◌, not, Bool, true, false, List, is_some, if◌then◌else◌}
use Rattle.krb_carry.specs.declared.receipt.Receipt.{Receipt}
use Rattle.krb_engine.specs.SendingState.{SendingState}
use Rattle.krb_engine.specs.declared.sending.Asks.{Asks}
use Rattle.krb_engine.specs.declared.sending.Command.TheVariants.{Idle}
use Rattle.krb_engine.specs.declared.sending.Ended.TheVariants.{Older, Forked}
use Rattle.krb_engine.specs.declared.sending.Heard.{Heard as EndHeard}
use Rattle.krb_engine.specs.declared.sending.Heard.TheVariants as end_heard
use Rattle.krb_engine.specs.Sending as engine
use Rattle.krb_engine.specs.Calls as calls
use Rattle.krb_sender.specs.declared.session.Row.{Row}
use Rattle.krb_sender.specs.declared.session.Own.{Own}
use Rattle.krb_sender.specs.declared.session.Own.TheVariants.{Known, Unknown, Fault}
use Rattle.krb_sender.specs.declared.session.Heard.{Heard}
use Rattle.krb_sender.specs.declared.session.Heard.TheVariants.{Nothing, Delivered, Ended, Again}
use Rattle.krb_sender.specs.declared.session.Turn.{Turn}
use Rattle.krb_sender.specs.declared.session.Turn.TheVariants.{Does, Held}
use Rattle.krb_sender.specs.SessionState.{SessionState}

abbrev pub loaded : Row → Bool → ℕ → SessionState
loaded row opens now = record {
  end = engine.loaded row.next row.carried row.at row.done row.list now;
  opens = opens;
  may_open = false;
  is_stopped = false;
}

abbrev pub with_end : SessionState → SendingState → SessionState
with_end it new = record it { end = new }

-- it is stopped, and gives up what is under way
abbrev pub stopped : SessionState → SessionState
stopped it = record it { end = engine.reconnected it.end; is_stopped = true }

-- its opening may leave in its next turn
abbrev pub released : SessionState → SessionState
released it = record it { may_open = true }

-- ---- what it is

-- nothing of it leaves any more: it is stopped, or a receipt ended it
abbrev pub is_over : SessionState → Bool
is_over it = it.is_stopped || is_some it.end.ended

-- its opening is the next that would leave, and wasn't released
abbrev pub is_held : SessionState → Bool
is_held it = it.opens && not it.may_open && (it.end.progress.sent == 0)

-- it is over, or all is done
abbrev pub is_idle : SessionState → Bool
is_idle it = engine.is_settled it.end || it.is_stopped

-- how much of its shard's room it takes: none, once it is over
abbrev pub weight : SessionState → ℕ
weight it = if is_over it then 0 else it.end.progress.sent - it.end.progress.carried

-- ---- its shard's list

-- it counted for a different list than this
abbrev pub is_moved : SessionState → ℕ → Bool
is_moved it list = not (is_over it) && not (list == it.end.list)

-- it hears that its shard has this list, unless it is over
abbrev pub heard_list : SessionState → ℕ → SessionState
heard_list it list = if is_over it then it else with_end it (engine.listed it.end list)

-- ---- a turn

-- Nothing, once it is over. An opening that wasn't released doesn't leave. Else what its end says, and an opening that
-- leaves again has to be released again.
abbrev pub Serves : SessionState → ℕ → ℕ → Turn → SessionState → Type 0
Serves old room now Held new = (is_over old ≡ false) × (is_held old ≡ true) × (new ≡ old)
Serves old room now (Does command) new =
    ((is_over old ≡ true) × (command ≡ Idle) × (new ≡ old))
    ⊎ ((is_over old ≡ false) × (is_held old ≡ false)
    × calls.Serves (engine.looked old.end now) room now command new.end
    × (new ≡ record old { end = new.end; may_open = false }))

-- ---- a receipt

-- the digest with which it is compared: where there is none of the own frames, its own
abbrev pub compared : Own → List ℕ → List ℕ
compared (Known history) said = history
compared Unknown said = said
compared Fault said = said

abbrev pub heard_of : EndHeard → Heard
heard_of end_heard.Nothing = Nothing
heard_of end_heard.Delivered = Delivered
heard_of end_heard.Ended = Ended

-- Frames count as done only by a digest that is this outbox's own, or where it has none; a receipt of other frames, or of
-- more than were sealed, ends the session; and where the own digest can't be read, nothing happens. A receiver is heeded
-- that asks for the first frame that isn't done then.
abbrev pub Receives : SessionState → Receipt → Own → Asks → ℕ → Heard → SessionState → Type 0
Receives old receipt own asks now Nothing new =
    ((is_over old ≡ true) × (new ≡ old))
    ⊎ ((is_over old ≡ false) × (receipt.number ≤ old.end.done)
    × (new ≡ with_end old (engine.heeded old.end receipt.number asks now)))
Receives old receipt own asks now Delivered new =
    (is_over old ≡ false) × (old.end.done < receipt.number) × (receipt.number ≤ old.end.progress.next)
    × ((own ≡ Known receipt.history) ⊎ (own ≡ Unknown))
    × (new ≡ with_end old (engine.heeded (engine.settled old.end receipt.number now) receipt.number asks now))
Receives old receipt own asks now Ended new =
    (is_over old ≡ false) × (old.end.done < receipt.number)
    × (((old.end.progress.next < receipt.number) × (new ≡ with_end old (engine.stopped old.end Older)))
    ⊎ ((history : List ℕ) × (receipt.number ≤ old.end.progress.next) × (own ≡ Known history)
    × (history ≢ receipt.history) × (new ≡ with_end old (engine.stopped old.end Forked))))
Receives old receipt own asks now Again new =
    (is_over old ≡ false) × (old.end.done < receipt.number) × (receipt.number ≤ old.end.progress.next)
    × (own ≡ Fault) × (new ≡ old)

-- ---- turns at one time

-- its pauses take some time
abbrev pub IsPaced : SendingState → Type 0
IsPaced end = (0 < end.again.length) × (0 < end.probe.length)

-- what it has under way once it was looked at: neither what is overdue, nor what counted for a different list
abbrev pub flight : SendingState → ℕ
flight end = end.progress.sent - end.progress.carried

abbrev pub keeps_under_way : SessionState → ℕ → ℕ → ℕ
keeps_under_way it list now = if is_over it then 0 else flight (engine.looked (engine.listed it.end list) now)

-- a probe may leave
abbrev pub may_probe : SessionState → ℕ → Bool
may_probe it now = engine.is_unanswered it.end now
