-- A session's end gets on where the carrier is good for a moment, whatever happened before.
use Rattle.std.specs.Prelude.{◌≡◌, ◌≢◌, ◌⊎◌, ℕ, ◌+◌, ◌<◌, ◌≤◌, ◌==◌, nat_lt, nat_le, ◌&&◌, if◌then◌else◌, true, List, [], ◌∷◌, length, None, Some, is_some}
use Rattle.krb_carry.specs.declared.receipt.Receipt.{Receipt}
use Rattle.krb_engine.specs.declared.sending.Asks.{Asks}
use Rattle.krb_engine.specs.declared.sending.Asks.TheVariants as asks
use Rattle.krb_engine.specs.declared.sending.Command.{Command}
use Rattle.krb_engine.specs.declared.sending.Command.TheVariants.{Publish, Probe, Wake, Idle}
use Rattle.krb_engine.specs.declared.sending.Heard.{Heard}
use Rattle.krb_engine.specs.Limits.{window_most}
use Rattle.krb_engine.specs.SendingState.{SendingState, IsEnd}
use Rattle.krb_engine.specs.declared.sending.Stands.TheVariants.{Refused}
use Rattle.krb_engine.specs.Sending.{is_over, may_ask, looked, never, sealing_room, stands}
use Rattle.krb_engine.specs.Calls.{Hears, Serves}
use Rattle.krb_engine.specs.Laws.{Call, LeadsSending}

-- what a receiver demands that demanded this number, once all that left came to it in order
abbrev pub taken_to : ℕ → Command → ℕ
taken_to demanded (Publish from count) =
    if nat_le from demanded && nat_lt demanded (from + count) then from + count else demanded
taken_to demanded (Probe number opening) = if number == demanded then number + 1 else demanded
taken_to demanded (Wake at) = demanded
taken_to demanded Idle = demanded

-- The receiver demands this number, and its frames below have this digest; the session is served with so
-- much room at this time; and the frames that took effect then have the later digest.
pub record Round : Type 0 where
  pub demanded : ℕ
  pub history : List ℕ
  pub room : ℕ
  pub now : ℕ
  pub command : Command
  pub later : List ℕ

abbrev pub receipt_of : ℕ → List ℕ → Receipt
receipt_of number history = record { number = number; history = history }

-- A good round, at a time at which the pauses of what is under way and of a receiver that asks again are over:
-- a receipt comes that asks for the demanded frame, the session is served, all that leaves is taken, and the
-- receipt for it comes. The digests are those of the session's own frames.
pub record IsGood (old : SendingState) (it : Round) (new : SendingState) : Type 0 where
  pub from : old.done ≤ it.demanded
  pub to : it.demanded ≤ old.progress.next
  pub room : 0 < it.room
  pub again : is_over old.again it.now ≡ true
  pub ask : may_ask old.ask it.now ≡ true
  pub heard : Heard
  pub between : SendingState
  pub hears : Hears old it.history (receipt_of it.demanded it.history) asks.Missing it.now heard between
  pub served : SendingState
  pub serves : Serves (looked between it.now) it.room it.now it.command served
  pub last : Heard
  pub hears_again : Hears served it.later (receipt_of (taken_to it.demanded it.command) it.later)
      asks.Nothing it.now last new

-- it is still an end of as many frames, and isn't stopped
pub record GoesOn (old new : SendingState) : Type 0 where
  pub next : new.progress.next ≡ old.progress.next
  pub ended : new.ended ≡ None
  pub end : IsEnd new

-- From whatever state that isn't stopped: after each good round more is done, unless all is.
abbrev pub RoundsDeliver : Type 0
RoundsDeliver =
    (old : SendingState) (it : Round) (new : SendingState) → IsEnd old → old.ended ≡ None
    → IsGood old it new
    → GoesOn old new × (old.done ≤ new.done) × (old.done < old.progress.next → old.done < new.done)

-- And at each such time a good round can happen, whatever the receiver demands and however little room there
-- is.
abbrev pub GoodRoundsHappen : Type 0
GoodRoundsHappen =
    (old : SendingState) (demanded room now : ℕ) → IsEnd old → old.ended ≡ None
    → old.done ≤ demanded → demanded ≤ old.progress.next → 0 < room
    → is_over old.again now ≡ true → may_ask old.ask now ≡ true
    → (it : Round)
    × ((new : SendingState) × (it.demanded ≡ demanded) × (it.now ≡ now) × IsGood old it new)

abbrev pub LeadsRounds : SendingState → List Round → SendingState → Type 0
LeadsRounds old [] new = new ≡ old
LeadsRounds old (it ∷ rounds) new =
    (between : SendingState) × IsGood old it between × LeadsRounds between rounds new

-- So all is done after as many good rounds as it had frames that weren't.
abbrev pub AllIsDone : Type 0
AllIsDone =
    (old : SendingState) (rounds : List Round) (new : SendingState) → IsEnd old → old.ended ≡ None
    → LeadsRounds old rounds new → old.progress.next ≤ old.done + length rounds
    → new.done ≡ old.progress.next

-- A time to wake is still to come.
abbrev pub WakesAreToCome : Type 0
WakesAreToCome =
    (old : SendingState) (room now at : ℕ) (new : SendingState) → now < never
    → Serves (looked old now) room now (Wake at) new → now < at

-- A session that is stopped has nothing under way, whatever comes, so it takes no room of its shard.
abbrev pub HoldsNoRoom : SendingState → Type 0
HoldsNoRoom state = is_some state.ended ≡ true → state.progress.sent ≡ state.progress.carried

abbrev pub StoppedHoldNoRoom : Type 0
StoppedHoldNoRoom =
    (old : SendingState) (calls : List Call) (new : SendingState)
    → HoldsNoRoom old → LeadsSending old calls new → HoldsNoRoom new

-- Nothing is to be done only if all is done, or it is stopped.
abbrev pub IdleIsDone : Type 0
IdleIsDone =
    (old : SendingState) (room now : ℕ) (new : SendingState)
    → Serves (looked old now) room now Idle new
    → (is_some old.ended ≡ true) ⊎ (old.done ≡ old.progress.next)

-- A receiver that asks for the first frame that isn't done, and that counts as carried, is heeded once its
-- pause is over: the session begins again with that frame, alone, and after a pause if it was refused.
abbrev pub AsksAreHeeded : Type 0
AsksAreHeeded =
    (old : SendingState) (own : List ℕ) (receipt : Receipt) (it : Asks) (now : ℕ) (heard : Heard)
    (new : SendingState) → old.ended ≡ None → receipt.number ≡ old.done
    → old.done < old.progress.carried → it ≢ asks.Nothing → may_ask old.ask now ≡ true
    → Hears old own receipt it now heard new
    → (new.progress.sent ≡ old.done) × (new.progress.carried ≡ old.done) × (new.window ≡ 1)
    × (it ≡ asks.Refused → new.is_held ≡ true)

-- Where receivers refuse the first frame that isn't done, the session stands for that, heeded or not.
abbrev pub RefusalsAreTold : Type 0
RefusalsAreTold =
    (old : SendingState) (own : List ℕ) (receipt : Receipt) (now : ℕ) (heard : Heard) (new : SendingState)
    → old.ended ≡ None → receipt.number ≡ old.done → old.done < old.progress.next
    → Hears old own receipt asks.Refused now heard new → stands new ≡ Some Refused

-- Unless it is stopped, so many frames may wait to be carried: each that is carried makes room for one more.
abbrev pub MoreMayBeSealed : Type 0
MoreMayBeSealed =
    (state : SendingState) → state.ended ≡ None
    → state.progress.next < state.progress.carried + window_most → 0 < sealing_room state
