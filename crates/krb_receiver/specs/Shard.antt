-- A shard of a receiver, with all its sessions.
use Rattle.std.specs.Prelude.{◌≡◌, ◌⊎◌, ℕ, ◌+◌, ◌-◌, ◌^◌, ◌<◌, ◌≤◌, ◌==◌, ◌&&◌, ◌||◌, nat_lt, nat_le, not, min, max, Bool, true, false, List, [], ◌∷◌, ◌++◌, length, Option, Some, None, is_some, unwrap_or, if◌then◌else◌, slice_index_or, slice_set}
use Rattle.krb_engine.specs.declared.pause.Pause.{Pause}
use Rattle.krb_engine.specs.declared.receiving.Outcome.{Outcome}
use Rattle.krb_engine.specs.declared.receiving.Receiving.{Receiving}
use Rattle.krb_engine.specs.declared.receiving.Seen.{Seen}
use Rattle.krb_engine.specs.declared.sending.Asks.{Asks}
use Rattle.krb_engine.specs.declared.shards.Read.{Read}
use Rattle.krb_engine.specs.declared.shards.Read.TheVariants.{Elsewhere, Nothing}
use Rattle.krb_engine.specs.declared.shards.Reading.{Reading}
use Rattle.krb_engine.specs.declared.shards.Spot.{Spot}
use Rattle.krb_engine.specs.Pause.{begun, longer}
use Rattle.krb_engine.specs.Queue.{has}
use Rattle.krb_engine.specs.Receiving as engine
use Rattle.krb_engine.specs.Sending.{is_over}
use Rattle.krb_engine.specs.Shards.{read_to}
use Rattle.krb_sender.specs.Times.{IsFirstTime, never, time_of}
use Rattle.krb_receiver.specs.declared.shard.Attempt.{Attempt}
use Rattle.krb_receiver.specs.declared.shard.Due.{Due}
use Rattle.krb_receiver.specs.declared.shard.Effects.{Effects}
use Rattle.krb_receiver.specs.declared.shard.Failure.{Failure}
use Rattle.krb_receiver.specs.declared.shard.Failure.TheVariants.{Refused, Later, Fenced, Fault}
use Rattle.krb_receiver.specs.declared.shard.Found.{Found}
use Rattle.krb_receiver.specs.declared.shard.Found.TheVariants.{Same, Ahead, Behind}
use Rattle.krb_receiver.specs.declared.shard.Then.{Then}
use Rattle.krb_receiver.specs.declared.shard.Then.TheVariants.{Store, Again, Wait}
use Rattle.krb_receiver.specs.declared.shard.Turn.{Turn}
use Rattle.krb_receiver.specs.declared.shard.Turn.TheVariants as turn

-- a transaction takes frames for so many milliseconds; what can't be had is tried again after so many at first, and at
-- most; and a text that is to be put aside is tried again at once so often
abbrev pub long : ℕ
long = 1000

abbrev pub wait_first : ℕ
wait_first = 200

abbrev pub wait_most : ℕ
wait_most = 5000

abbrev pub at_once : ℕ
at_once = 16

-- What contracts see of a shard: its sessions, by their places; when the receipt of each leaves; the sessions of which the
-- transaction under way has frames; up to where the list was taken and is read; that transaction; up to which frame they
-- are taken alone; the pause until something is tried again; how often a text was refused since something was stored;
-- whether it is known what the store has; what effects are; and what time it was.
pub record ShardState : Type 0 where
  pub sessions : List Receiving
  pub receipts : List ℕ
  pub taken : List ℕ
  pub reading : Reading
  pub attempt : Option Attempt
  pub alone : Option Spot
  pub wait : Option Pause
  pub refusals : ℕ
  pub is_loaded : Bool
  pub effects : Effects
  pub clock : ℕ

abbrev pub spot : ℕ → ℕ → Spot
spot list offset = record { list = list; offset = offset }

abbrev pub begins_at : Spot → Reading
begins_at stored = read_to stored stored false

abbrev pub no_sessions : Effects → ShardState
no_sessions effects = record {
  sessions = [];
  receipts = [];
  taken = [];
  reading = begins_at (spot 0 0);
  attempt = None;
  alone = None;
  wait = None;
  refusals = 0;
  is_loaded = false;
  effects = effects;
  clock = 0;
}

-- ---- one session

-- when its receipt leaves: once its pause is over, or never, if none is owed
abbrev pub receipt_time : Receiving → ℕ
receipt_time it = if is_some it.owed then min (it.paid.since + it.paid.length) never else never

-- the transaction under way is stored, or isn't
abbrev pub settled : Bool → Receiving → Receiving
settled is_stored it = if it.is_open then (if is_stored then engine.stored it else engine.dropped it) else it

pub record IsKept (it : Receiving) (is_listed : Bool) (at clock : ℕ) : Type 0 where
  pub since : it.paid.since ≤ clock
  pub short : it.paid.length ≤ 200
  -- one of which frames are in the transaction under way is listed
  pub listed : it.is_open ≡ true → is_listed ≡ true
  -- of any other, what it demands is stored, and its receipt has its time
  pub demanded : it.is_open ≡ false → it.drafted ≡ it.stored
  pub time : it.is_open ≡ false → at ≡ receipt_time it

abbrev pub AllKept : List Receiving → List ℕ → List ℕ → ℕ → Type 0
AllKept sessions receipts taken clock =
    (place : ℕ) (other : Receiving) → place < length sessions
    → IsKept (slice_index_or sessions place other) (has taken place) (time_of receipts place) clock

-- ---- what holds of a shard

pub record IsShard (sessions : List Receiving) (receipts taken : List ℕ) (attempt : Option Attempt) (wait : Option Pause) (clock : ℕ) : Type 0 where
  pub count : length sessions < 2 ^ 32
  pub sized : length receipts ≡ length sessions
  pub kept : AllKept sessions receipts taken clock
  pub places : (place : ℕ) → has taken place ≡ true → place < length sessions
  pub none_taken : is_some attempt ≡ false → taken ≡ []
  pub waits : (pause : Pause) → wait ≡ Some pause → (pause.since ≤ clock) × (pause.length ≤ wait_most)

-- ---- what is claimed

-- while no transaction is under way
abbrev pub IsIdle : ShardState → Type 0
IsIdle shard = is_some shard.attempt ≡ false

-- what each session demands is what is stored
abbrev pub WhatIsDemandedIsStored : ShardState → Type 0
WhatIsDemandedIsStored shard =
    IsIdle shard → (place : ℕ) (other : Receiving) → place < length shard.sessions
    → (slice_index_or shard.sessions place other).drafted ≡ (slice_index_or shard.sessions place other).stored

-- a session that owes a receipt has a time for it, a fifth of a second from now or before
abbrev pub NoReceiptIsForgotten : ShardState → Type 0
NoReceiptIsForgotten shard =
    IsIdle shard → (place : ℕ) (other : Receiving) → place < length shard.sessions
    → is_some (slice_index_or shard.sessions place other).owed ≡ true
    → time_of shard.receipts place ≤ shard.clock + 200

-- what is tried again is tried within five seconds
abbrev pub WaitsAreShort : ShardState → Type 0
WaitsAreShort shard =
    (pause : Pause) → shard.wait ≡ Some pause → pause.since + pause.length ≤ shard.clock + 5000

-- ---- what the store and the carrier have

-- what stays where something happens to sessions or to what is read
pub record RestIsSame (old new : ShardState) : Type 0 where
  pub attempt : new.attempt ≡ old.attempt
  pub alone : new.alone ≡ old.alone
  pub wait : new.wait ≡ old.wait
  pub refusals : new.refusals ≡ old.refusals
  pub is_loaded : new.is_loaded ≡ old.is_loaded
  pub effects : new.effects ≡ old.effects
  pub clock : new.clock ≡ old.clock

-- the store has this: it has no sessions, and no transaction is under way
pub record IsLoaded (old : ShardState) (stored : Spot) (new : ShardState) : Type 0 where
  pub sessions : new.sessions ≡ []
  pub reading : new.reading ≡ begins_at stored
  pub attempt : new.attempt ≡ None
  pub is_loaded : new.is_loaded ≡ true
  pub alone : new.alone ≡ old.alone
  pub wait : new.wait ≡ old.wait
  pub refusals : new.refusals ≡ old.refusals
  pub effects : new.effects ≡ old.effects
  pub clock : new.clock ≡ old.clock

abbrev pub read_of : Bool → Read
read_of true = Elsewhere
read_of false = Nothing

-- what the store has beside what is known: a different list, or less of it, is behind
abbrev pub found_of : Spot → Spot → Found
found_of known found =
    if not (found.list == known.list) || nat_lt found.offset known.offset then Behind
    else (if nat_lt known.offset found.offset then Ahead else Same)

abbrev pub is_same : Found → Bool
is_same Same = true
is_same Ahead = false
is_same Behind = false

-- ---- a turn

-- its pause isn't over
abbrev pub IsWaiting : ShardState → ℕ → Pause → Type 0
IsWaiting shard clock pause = (shard.wait ≡ Some pause) × (is_over pause clock ≡ false)

-- Nothing is done while a pause isn't over; then what the store has is asked for, unless it is known; then frames are taken.
abbrev pub turns_to : ShardState → ℕ → Turn → Type 0
turns_to shard clock (turn.Wait at) = (pause : Pause) × IsWaiting shard clock pause × (at ≡ min (pause.since + pause.length) never)
turns_to shard clock turn.Load = ((pause : Pause) → shard.wait ≡ Some pause → is_over pause clock ≡ true) × (shard.is_loaded ≡ false)
turns_to shard clock turn.Read = ((pause : Pause) → shard.wait ≡ Some pause → is_over pause clock ≡ true) × (shard.is_loaded ≡ true)

abbrev pub Turns : ShardState → ℕ → Turn → ShardState → Type 0
Turns old now it new = turns_to old (max old.clock now) it × (new ≡ record old { clock = max old.clock now })

abbrev pub wait_end : Option Pause → ℕ
wait_end None = never
wait_end (Some pause) = min (pause.since + pause.length) never

-- the first of all receipts' times and of the pause's end
abbrev pub IsNext : ShardState → ℕ → Type 0
IsNext shard at = (first : ℕ) × IsFirstTime shard.receipts first × (at ≡ min first (wait_end shard.wait))

-- ---- a transaction

-- frames of the list that is read are taken alone up to this one
abbrev pub is_alone : Option Spot → Reading → ℕ → Bool
is_alone None reading offset = false
is_alone (Some alone) reading offset = (alone.list == reading.read.list) && nat_le offset alone.offset

abbrev pub begun_at : ℕ → Bool → Attempt
begun_at clock is_alone = record { since = clock; is_alone = is_alone; last = None }

abbrev pub Begins : ShardState → ℕ → ℕ → Bool → ShardState → Type 0
Begins old first now alone new =
    (alone ≡ is_alone old.alone old.reading first)
    × (new ≡ record old { attempt = Some (begun_at (max old.clock now) alone); clock = max old.clock now })

abbrev pub with_last : Option Attempt → ℕ → Option Attempt
with_last None offset = None
with_last (Some attempt) offset = Some (record attempt { last = Some offset })

abbrev pub last_in : Option ℕ → ℕ → ℕ
last_in None none = none
last_in (Some offset) none = offset

abbrev pub last_of : Option Attempt → ℕ → ℕ
last_of None none = none
last_of (Some attempt) none = last_in attempt.last none

-- the sessions of which it has frames, and the one of this place
abbrev pub taken_with : List ℕ → ℕ → Bool → List ℕ
taken_with taken place is_there = if is_there then taken else taken ++ place ∷ []

-- where a session takes a frame or pays a receipt: what stays beside its attempt and clock
pub record MarksStay (old new : ShardState) : Type 0 where
  pub reading : new.reading ≡ old.reading
  pub alone : new.alone ≡ old.alone
  pub wait : new.wait ≡ old.wait
  pub refusals : new.refusals ≡ old.refusals
  pub is_loaded : new.is_loaded ≡ old.is_loaded
  pub effects : new.effects ≡ old.effects

-- a frame of a session is in it: what the session's end says of it; the others are as they were
pub record Takes (old : ShardState) (place : ℕ) (frame : List ℕ) (seen : Seen) (offset : ℕ) (is : Outcome) (new : ShardState) : Type 0 where
  pub before : Receiving
  pub is_before : before ≡ slice_index_or old.sessions place before
  pub outcome : is ≡ engine.outcome before.drafted seen
  pub becomes : new.sessions ≡ slice_set old.sessions place (engine.took before frame seen)
  pub has_it : new.attempt ≡ with_last old.attempt offset
  pub marks : MarksStay old new
  pub clock : new.clock ≡ old.clock

-- a frame of no session is in it
abbrev pub Passes : ShardState → ℕ → ShardState → Type 0
Passes old offset new = new ≡ record old { attempt = with_last old.attempt offset }

-- it takes no frame more: it has one, and is for that alone, or began a second ago
abbrev pub has_enough : Attempt → ℕ → Bool
has_enough attempt now = is_some attempt.last && (attempt.is_alone || nat_le (attempt.since + long) now)

abbrev pub is_full : Option Attempt → ℕ → Bool
is_full None now = false
is_full (Some attempt) now = has_enough attempt now

-- each session of which it has frames is settled; the others are as they were
abbrev pub AllSettle : Bool → List Receiving → List Receiving → Type 0
AllSettle is_stored old new =
    (length new ≡ length old)
    × ((place : ℕ) (other : Receiving) → place < length old
    → slice_index_or new place other ≡ settled is_stored (slice_index_or old place other))

-- it is stored: what its sessions demand, and the place of its last frame
pub record Stores (old new : ShardState) : Type 0 where
  pub sessions : AllSettle true old.sessions new.sessions
  pub reading : new.reading ≡ begins_at (spot old.reading.read.list (last_of old.attempt old.reading.read.offset))
  pub attempt : new.attempt ≡ None
  pub wait : new.wait ≡ None
  pub refusals : new.refusals ≡ 0
  pub alone : new.alone ≡ old.alone
  pub is_loaded : new.is_loaded ≡ old.is_loaded
  pub effects : new.effects ≡ old.effects
  pub clock : new.clock ≡ old.clock

-- ---- what fails

abbrev pub is_of_text : Failure → Bool
is_of_text Refused = true
is_of_text Later = true
is_of_text Fenced = false
is_of_text Fault = false

abbrev pub refused : ℕ → Failure → ℕ
refused refusals Refused = min (refusals + 1) never
refused refusals Later = refusals
refused refusals Fenced = refusals
refused refusals Fault = refusals

-- which text failed is known: that of the only frame, or of the first
abbrev pub is_named : Option Attempt → Bool
is_named None = true
is_named (Some attempt) = attempt.is_alone || not (is_some attempt.last)

abbrev pub has_frames : Option Attempt → Bool
has_frames None = false
has_frames (Some attempt) = is_some attempt.last

-- after a failure that is a text's, frames are taken alone also up to its own
abbrev pub marked : Option Spot → Reading → Failure → ℕ → Option Spot
marked alone reading failure offset =
    if not (is_of_text failure) || is_alone alone reading offset then alone else Some (spot reading.read.list offset)

-- Where no rollback undoes what effects did, what was taken before the text that failed is stored. A text that is to be put
-- aside, and one of several of which it isn't known which failed, are tried again at once. All else is after a pause.
abbrev pub then_again : Bool → Then
then_again true = Again
then_again false = Wait

abbrev pub then_text : Effects → Option Attempt → Bool → Then
then_text effects attempt is_next =
    if effects.are_outside && has_frames attempt then Store else then_again (is_next || not (is_named attempt))

abbrev pub then_of : Effects → Option Attempt → ℕ → Failure → Then
then_of effects attempt refusals Refused = then_text effects attempt (effects.put_aside && nat_lt refusals at_once)
then_of effects attempt refusals Later = then_text effects attempt false
then_of effects attempt refusals Fenced = Again
then_of effects attempt refusals Fault = Wait

abbrev pub wait_after : Option Pause → ℕ → Pause
wait_after None now = begun wait_first now
wait_after (Some pause) now = longer wait_most pause now

abbrev pub waits_then : Then → Option Pause → ℕ → Option Pause
waits_then Store wait now = wait
waits_then Again wait now = wait
waits_then Wait wait now = Some (wait_after wait now)

-- what its sessions have of it: all, where it is stored now; else nothing
abbrev pub KeepsOrDrops : Then → ShardState → ShardState → Type 0
KeepsOrDrops Store old new = (new.sessions ≡ old.sessions) × (new.attempt ≡ old.attempt)
KeepsOrDrops Again old new = AllSettle false old.sessions new.sessions × (new.attempt ≡ None)
KeepsOrDrops Wait old new = AllSettle false old.sessions new.sessions × (new.attempt ≡ None)

abbrev pub stays_loaded : Then → Bool → Failure → Bool
stays_loaded Store is_loaded failure = is_loaded
stays_loaded Again is_loaded failure = is_loaded && is_of_text failure
stays_loaded Wait is_loaded failure = is_loaded && is_of_text failure

-- What was stored before stays what is stored, and reading begins again after it; unless a text is the reason, what the
-- store has is asked for again.
pub record Fails (old : ShardState) (failure : Failure) (offset : ℕ) (is : Then) (new : ShardState) : Type 0 where
  pub answer : is ≡ then_of old.effects old.attempt old.refusals failure
  pub sessions : KeepsOrDrops is old new
  pub alone : new.alone ≡ marked old.alone old.reading failure offset
  pub refusals : new.refusals ≡ refused old.refusals failure
  pub wait : new.wait ≡ waits_then is old.wait old.clock
  pub is_loaded : new.is_loaded ≡ stays_loaded is old.is_loaded failure
  pub reading : new.reading ≡ old.reading
  pub effects : new.effects ≡ old.effects
  pub clock : new.clock ≡ old.clock

-- ---- receipts

-- a receipt leaves, of one session, as its end says; the others are as they were
pub record Pays (old : ShardState) (now : ℕ) (due : Due) (new : ShardState) : Type 0 where
  pub before : Receiving
  pub there : due.place < length old.sessions
  pub is_before : before ≡ slice_index_or old.sessions due.place before
  pub is_idle : IsIdle old
  pub is_over : is_over before.paid new.clock ≡ true
  pub owed : before.owed ≡ Some due.asks
  pub receipt : due.receipt ≡ before.stored.demanded
  pub becomes : new.sessions ≡ slice_set old.sessions due.place (engine.answered before new.clock)
  pub attempt : new.attempt ≡ old.attempt
  pub marks : MarksStay old new
  pub clock : new.clock ≡ max old.clock now

-- none is due: a transaction is under way; or the pause of each that is owed isn't over
pub record HasNoReceipt (old : ShardState) (now : ℕ) (new : ShardState) : Type 0 where
  pub same : new ≡ record old { clock = max old.clock now }
  pub none : IsIdle old → new.clock < 2 ^ 64 - 1 → (place : ℕ) (other : Receiving) → place < length old.sessions
      → is_some (slice_index_or old.sessions place other).owed ≡ true
      → is_over (slice_index_or old.sessions place other).paid new.clock ≡ false

abbrev pub owes_again : Receiving → Asks → Receiving
owes_again it asks = record it { owed = Some (unwrap_or it.owed asks) }

-- one session owes it again, unless it owes a later one; the others are as they were
pub record OwesAgain (old : ShardState) (place : ℕ) (asks : Asks) (new : ShardState) : Type 0 where
  pub before : Receiving
  pub is_before : before ≡ slice_index_or old.sessions place before
  pub becomes : new.sessions ≡ slice_set old.sessions place (owes_again before asks)
  pub reading : new.reading ≡ old.reading
  pub rest : RestIsSame old new

-- ---- what is claimed of all transactions

-- after a failure that is a text's, its frame and those before it are taken alone
abbrev pub OneByOne : Type 0
OneByOne =
    (alone : Option Spot) (reading : Reading) (failure : Failure) (failed offset : ℕ) → is_of_text failure ≡ true
    → offset ≤ failed → is_alone (marked alone reading failure failed) reading offset ≡ true

-- one that has a frame takes no frame more once it is a second old, or after that frame, if it is alone
abbrev pub AllEnd : Type 0
AllEnd =
    (attempt : Attempt) (now : ℕ) → is_some attempt.last ≡ true
    → (attempt.is_alone ≡ true) ⊎ (attempt.since + 1000 ≤ now) → is_full (Some attempt) now ≡ true

-- what effects outside of the store did is stored, if a later text fails, and nothing else is
abbrev pub StoresWhatWasDone : Type 0
StoresWhatWasDone =
    (effects : Effects) (attempt : Option Attempt) (refusals : ℕ) (failure : Failure)
    → (effects.are_outside ≡ true → has_frames attempt ≡ true → is_of_text failure ≡ true → then_of effects attempt refusals failure ≡ Store)
    × (then_of effects attempt refusals failure ≡ Store → (effects.are_outside ≡ true) × (has_frames attempt ≡ true) × (is_of_text failure ≡ true))

-- a store that has a fault is asked again after a pause; so is the effect of a text that failed alone, or as the first, but
-- for the first sixteen refusals of one that is to be put aside
abbrev pub FaultsWait : Type 0
FaultsWait =
    (effects : Effects) (attempt : Option Attempt) (refusals : ℕ)
    → (then_of effects attempt refusals Fault ≡ Wait)
    × (effects.are_outside && has_frames attempt ≡ false → is_named attempt ≡ true → then_of effects attempt refusals Later ≡ Wait)
    × (effects.are_outside && has_frames attempt ≡ false → is_named attempt ≡ true → (effects.put_aside ≡ false) ⊎ (16 ≤ refusals)
    → then_of effects attempt refusals Refused ≡ Wait)

-- where nothing went on from what is stored, and nothing was lost, it is known; and a receiver hears of each step back
abbrev pub HearsOfStepsBack : Type 0
HearsOfStepsBack =
    (known found : Spot)
    → (found_of known found ≡ Same → found ≡ known)
    × (found.list ≡ known.list → found.offset < known.offset → found_of known found ≡ Behind)
    × ((found.list ≡ known.list → ⊥) → found_of known found ≡ Behind)

-- each pause is as long as the one before or longer, up to five seconds, and the first has a fifth of one
abbrev pub PausesGrow : Type 0
PausesGrow =
    (pause : Pause) (now : ℕ) → 200 ≤ pause.length → pause.length ≤ 5000
    → ((wait_after None now).length ≡ 200) × ((wait_after (Some pause) now).since ≡ now)
    × (pause.length ≤ (wait_after (Some pause) now).length) × ((wait_after (Some pause) now).length ≤ 5000)
