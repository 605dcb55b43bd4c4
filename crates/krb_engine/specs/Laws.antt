-- What the laws state.
use Rattle.std.specs.Prelude.{◌≡◌, ◌≢◌, ◌⊎◌, ◌↔◌, ℕ, zero, suc, ◌+◌, ◌<◌, ◌≤◌, nat_lt, nat_le, ◌&&◌, if◌then◌else◌, IsTrue, count_by, Bool, true, false, List, [], ◌∷◌, length, map, slice_get, Some, All, is_some}
use Rattle.krb_record.specs.declared.record.Record.{Record}
use Rattle.krb_seal.specs.Sealer.{SealerState}
use Rattle.krb_peers.specs.Attempt.{Attempt, IsAttempt}
use Rattle.krb_peers.specs.Session.{frames_in}
use Rattle.krb_carry.specs.Outbox.{Outbox, Act, Seal, Sealing, IsAct, Acts, with_frames, stored_records, texts_put}
use Rattle.krb_carry.specs.Laws.{OfOutboxes}
use Rattle.krb_carry.specs.Progress.{Counts, Happening, Confirm, after_all, resumed, IsTruthful, StandInTurn}
use Rattle.krb_carry.specs.Reading.{Reading, StoredShard, IsReading, LeadsReading}
use Rattle.krb_carry.specs.Shard.{Item}
use Rattle.krb_carry.specs.Store.{Stored, new_session, Leads, IsReceipt}
use Rattle.krb_carry.specs.HistoryLaws.{Collision}
use Rattle.krb_carry.specs.declared.receipt.Receipt.{Receipt}
use Rattle.krb_carry.specs.Receipt.{history_below, IsTrue as IsTrueReceipt}
use Rattle.krb_carry.specs.Copies.{Copy, own_frames, World, new_world, with_state, Event, Hears as CopyHears, Steps as CopySteps, LeadsCopies}
use Rattle.krb_carry.specs.CopiesLaws.{AreItsOwn}
use Rattle.krb_engine.specs.declared.pause.Pause.{Pause}
use Rattle.krb_engine.specs.Pause.{begun}
use Rattle.krb_engine.specs.QueueLaws.{pauses}
use Rattle.krb_engine.specs.declared.sending.Asks.{Asks}
use Rattle.krb_engine.specs.declared.sending.Command.{Command}
use Rattle.krb_engine.specs.declared.sending.Command.TheVariants.{Publish, Probe, Wake, Idle}
use Rattle.krb_engine.specs.declared.sending.Heard.{Heard}
use Rattle.krb_engine.specs.declared.sending.Heard.TheVariants as hears
use Rattle.krb_engine.specs.Limits.{again_most, probe_most, room_pause, service_most, window_most}
use Rattle.krb_engine.specs.SendingState.{SendingState, IsEnd}
use Rattle.krb_engine.specs.Sending.{loaded, sealed, confirmed, listed, reconnected, is_lost, looked, is_settled, never, end_of}
use Rattle.krb_engine.specs.Calls.{Hears, Serves}

-- ---- what happens to a session's end

-- The calls, one constructor each: so many frames are sealed; a copy of the frame of this number stands
-- at this offset; a receipt comes, `own` is the digest of the sender's own frames below its number, and
-- the receiver asks for this; the shard has this list; the connection is a new one; it is served, with
-- so much room in the shard. The last number is the time, where there is one.
pub data Call : Type 0 where
  Sealed : ℕ → Call
  Confirmed : ℕ → ℕ → ℕ → Call
  Received : List ℕ → Receipt → Asks → ℕ → Call
  Listed : ℕ → Call
  Reconnected : Call
  Served : ℕ → ℕ → Call

abbrev pub Answers : SendingState → Call → SendingState → Type 0
Answers old (Sealed count) new = new ≡ sealed old count
Answers old (Confirmed number offset now) new =
    (counts : Bool) × (IsTrue counts ↔ Counts old.progress number offset)
    × (new ≡ (if counts then confirmed old offset now else old))
Answers old (Received own receipt it now) new = (heard : Heard) × Hears old own receipt it now heard new
Answers old (Listed list) new = new ≡ listed old list
Answers old Reconnected new = new ≡ reconnected old
Answers old (Served room now) new =
    (command : Command) × Serves (looked old now) room now command new

-- one after another
abbrev pub LeadsSending : SendingState → List Call → SendingState → Type 0
LeadsSending old [] new = new ≡ old
LeadsSending old (call ∷ calls) new =
    (between : SendingState) × Answers old call between × LeadsSending between calls new

-- ---- each run is a history of krb_carry

-- The progress is what some happenings of krb_carry leave, since it began, or began again, in this shard
-- with a number of which it has a receipt: all that is below `done` now. What it heard of the shard is
-- true.
pub record HasHappened (sealer : SealerState) (records : List Record) (session : ℕ)
    (shard : List Item) (state : SendingState) : Type 0 where
  pub next : ℕ
  pub from : ℕ
  pub happenings : List Happening
  pub are_true : All (IsTruthful sealer records session shard) happenings
  pub progress : state.progress ≡ after_all (resumed next from 0) happenings
  pub done : from ≤ state.done

-- each confirmation of these calls is true of a shard
abbrev pub IsTrueCall : SealerState → List Record → ℕ → List Item → Call → Type 0
IsTrueCall sealer records session shard (Sealed count) = Unit {0}
IsTrueCall sealer records session shard (Confirmed number offset now) =
    IsTruthful sealer records session shard (Confirm number offset)
IsTrueCall sealer records session shard (Received own receipt it now) = Unit {0}
IsTrueCall sealer records session shard (Listed list) = Unit {0}
IsTrueCall sealer records session shard Reconnected = Unit {0}
IsTrueCall sealer records session shard (Served room now) = Unit {0}

-- From any such state on, calls lead to such a state.
abbrev pub EachRunIsAHistory : Type 0
EachRunIsAHistory =
    (sealer : SealerState) (records : List Record) (session : ℕ) (shard : List Item)
    (old : SendingState) (calls : List Call) (new : SendingState)
    → HasHappened sealer records session shard old
    → All (IsTrueCall sealer records session shard) calls → LeadsSending old calls new
    → HasHappened sealer records session shard new

-- Each is one, of whatever shard, once the shard has another list. And so is what is loaded, if what was
-- stored was: as many frames more may be stored.
abbrev pub EachListBegins : Type 0
EachListBegins =
    (sealer : SealerState) (records : List Record) (session : ℕ) (shard : List Item)
    (old : SendingState) (list : ℕ) → list ≢ old.list
    → HasHappened sealer records session shard (listed old list)

abbrev pub LoadsGoOn : Type 0
LoadsGoOn =
    (sealer : SealerState) (records : List Record) (session : ℕ) (shard : List Item)
    (old : SendingState) (more list now : ℕ)
    → HasHappened sealer records session shard old
    → HasHappened sealer records session shard
    (loaded (old.progress.next + more) old.progress.carried old.progress.at old.done list now)

-- So each frame that isn't done and counts as carried stands in the shard after the one before.
abbrev pub CarriedStandInTurn : Type 0
CarriedStandInTurn =
    (sealer : SealerState) (records : List Record) (session : ℕ) (shard : List Item)
    (state : SendingState) → HasHappened sealer records session shard state
    → StandInTurn sealer records session shard state.done state.progress

-- And each text takes effect exactly once, if nothing waits, all frames count, and receivers that agree
-- read the shard past the last of them.
abbrev pub DeliversByTheShard : Type 0
DeliversByTheShard = OfOutboxes (λ sealer outbox.
    (session : ℕ) (shard : List Item) (state : SendingState)
    (it : HasHappened sealer (stored_records outbox) session shard state)
    (attempts : List Attempt) (before : Stored) (readings : List Reading) (stored : StoredShard)
    → All (IsAttempt sealer (stored_records outbox)) attempts
    → Leads (new_session sealer) attempts before → IsReceipt before it.from
    → All (IsReading sealer (stored_records outbox) session shard) readings
    → LeadsReading (record { offset = 0; session = before }) readings stored
    → outbox.waiting ≡ [] → state.progress.carried ≡ outbox.next
    → state.progress.at ≤ stored.offset
    → stored.session.effects ≡ texts_put outbox.inserted)

-- ---- receipts alone

-- Each text takes effect exactly once, if nothing waits and all is done, where receipts are true:
-- whatever the carrier did, and whatever it confirmed.
abbrev pub DeliversByReceipts : Type 0
DeliversByReceipts = OfOutboxes (λ sealer outbox.
    (state : SendingState) (attempts : List Attempt) (stored : Stored)
    → All (IsAttempt sealer (stored_records outbox)) attempts
    → Leads (new_session sealer) attempts stored → IsReceipt stored state.done
    → outbox.waiting ≡ [] → state.done ≡ outbox.next
    → stored.effects ≡ texts_put outbox.inserted)

-- the end of a copy of an outbox, in the words of krb_carry
pub record IsEndOf (copy : Copy) (state : SendingState) : Type 0 where
  pub next : state.progress.next ≡ copy.outbox.next
  pub done : state.done ≡ copy.done
  pub is_stopped : is_some state.ended ≡ copy.is_stopped

abbrev pub copy_of : Outbox → SendingState → Copy
copy_of outbox state =
    record { outbox = outbox; done = state.done; is_stopped = is_some state.ended }

-- What it hears is what a copy of krb_carry hears: a true receipt, and `own` is the digest of the copy's
-- own frames below its number.
abbrev pub HearsAsACopy : Type 0
HearsAsACopy =
    (sealer : SealerState) (world : World) (place : ℕ) (copy : Copy) (old : SendingState)
    (receipt : Receipt) (it : Asks) (now : ℕ) (heard : Heard) (new : SendingState)
    → slice_get world.copies place ≡ Some copy → IsEndOf copy old → copy.is_stopped ≡ false
    → IsTrueReceipt sealer.next (frames_in world.took) receipt
    → Hears old (history_below sealer.next (own_frames copy) receipt.number) receipt it now heard new
    → CopySteps sealer world (CopyHears place receipt)
    (with_state world place (copy_of copy.outbox new))
    × IsEndOf (copy_of copy.outbox new) new

-- So what it takes for done took effect, of this outbox: each frame with its tag, or a collision is found.
abbrev pub DeletedTookEffect : Type 0
DeletedTookEffect =
    (sealer : SealerState) (events : List Event) (world : World) (place : ℕ) (copy : Copy)
    (old : SendingState) (receipt : Receipt) (it : Asks) (now : ℕ) (heard : Heard)
    (new : SendingState)
    → LeadsCopies sealer (new_world sealer) events world
    → slice_get world.copies place ≡ Some copy → IsEndOf copy old → copy.is_stopped ≡ false
    → IsTrueReceipt sealer.next (frames_in world.took) receipt
    → Hears old (history_below sealer.next (own_frames copy) receipt.number) receipt it now heard new
    → (new.done ≤ sealer.next + length world.took)
    × (AreItsOwn sealer world (copy_of copy.outbox new) new.done ⊎ Collision)

-- A transaction that seals from its next number on, and takes effect, leaves it the end of the same copy.
-- So it seals one number after another, and no number twice, as krb_carry says of outboxes.
abbrev pub SealsOneAfterAnother : Type 0
SealsOneAfterAnother =
    (copy : Copy) (old : SendingState) (sealing : Sealing) (outbox : Outbox)
    → IsEndOf copy old → Acts copy.outbox (Seal sealing) outbox
    → (sealing.from ≡ old.progress.next)
    → (outbox ≡ copy.outbox)
    ⊎ IsEndOf (record copy { outbox = outbox }) (sealed old (length sealing.sealed))

-- ---- nothing stands still

-- one of its pauses is over at this time, or it asks again for room, of which there is none
pub data EndsAt (state : SendingState) (room now at : ℕ) : Type 0 where
  Again : at ≡ end_of state.again → EndsAt state room now at
  Unanswered : at ≡ end_of state.probe → EndsAt state room now at
  Asked : (pause : Pause) → state.ask ≡ Some pause → at ≡ end_of pause → EndsAt state room now at
  Full : room ≡ 0 → at ≡ end_of (begun room_pause now) → EndsAt state room now at

-- Unless all is done, or it is stopped, it has something to do whenever it is served and whatever room
-- there is, or a time that is still to come, at which a pause is over.
abbrev pub HasSomethingToDo : SendingState → ℕ → ℕ → Command → Type 0
HasSomethingToDo state room now (Publish from count) = (state.done ≤ from) × (0 < count)
HasSomethingToDo state room now (Probe number opening) = state.done ≤ number
HasSomethingToDo state room now (Wake at) = EndsAt state room now at × (now < at)
HasSomethingToDo state room now Idle = ⊥

abbrev pub NothingStandsStill : Type 0
NothingStandsStill =
    (old : SendingState) (room now : ℕ) (command : Command) (new : SendingState)
    → IsEnd old → is_settled old ≡ false → now < never → Serves (looked old now) room now command new
    → HasSomethingToDo (looked old now) room now command

-- What leaves in one service is stored, and few: within what one service has, what the shard has room for,
-- and the session's window.
abbrev pub EachServiceIsSmall : Type 0
EachServiceIsSmall =
    (old : SendingState) (room now from count : ℕ) (new : SendingState)
    → IsEnd old → Serves (looked old now) room now (Publish from count) new
    → (count ≤ service_most) × (count ≤ room) × (from + count ≤ old.progress.next)
    × (from + count ≤ old.progress.carried + window_most)

-- ---- patience

-- a service, and whether something wasn't confirmed in time before it
pub record Service : Type 0 where
  pub room : ℕ
  pub now : ℕ
  pub is_lost : Bool
  pub command : Command

-- Services one after another, while nothing happens to the session. Time doesn't go back.
abbrev pub LeadsServed : SendingState → List Service → SendingState → Type 0
LeadsServed old [] new = new ≡ old
LeadsServed old (it ∷ services) new =
    (old.again.since ≤ it.now) × (it.is_lost ≡ is_lost old it.now)
    × ((between : SendingState) × Serves (looked old it.now) it.room it.now it.command between
    × LeadsServed between services new)

abbrev pub is_probe : Command → Bool
is_probe (Publish from count) = false
is_probe (Probe number opening) = true
is_probe (Wake at) = false
is_probe Idle = false

-- how often the frame of a number leaves, but for probes
abbrev pub leaves : ℕ → Command → ℕ
leaves number (Publish from count) =
    if nat_le from number && nat_lt number (from + count) then 1 else 0
leaves number (Probe other opening) = 0
leaves number (Wake at) = 0
leaves number Idle = 0

abbrev pub copies : ℕ → List Service → ℕ
copies number [] = 0
copies number (it ∷ services) = leaves number it.command + copies number services

-- Without a new cause a frame leaves once, and once more each time that something wasn't confirmed in
-- time.
abbrev pub CopiesAreFew : Type 0
CopiesAreFew =
    (old : SendingState) (services : List Service) (new : SendingState) (number : ℕ)
    → LeadsServed old services new
    → copies number services ≤ 1 + count_by (λ (it : Service). it.is_lost) services

-- That takes at least the sum of as many pauses, each twice as long as the one before, up to the cap. And
-- so do probes.
abbrev pub RepeatsAreRare : Type 0
RepeatsAreRare =
    (old : SendingState) (services : List Service) (new : SendingState)
    → LeadsServed old services new → old.again.length ≤ again_most
    → old.again.since + pauses again_most old.again.length (count_by (λ (it : Service). it.is_lost) services)
    ≤ new.again.since

abbrev pub ProbesAreRare : Type 0
ProbesAreRare =
    (old : SendingState) (services : List Service) (new : SendingState)
    → LeadsServed old services new → old.probe.length ≤ probe_most
    → old.probe.since + pauses probe_most old.probe.length (count_by (λ (it : Service). is_probe it.command) services)
    ≤ new.probe.since
