-- What the laws state.
use Rattle.std.specs.Prelude.{◌≡◌, ◌≢◌, ℕ, ◌+◌, ◌<◌, ◌≤◌, true, false, is_ok, List, [], ◌∷◌, ◌++◌, length, map}
use Rattle.std.specs.Prelude.{All}
use Rattle.krb_base.specs.Prefix.{IsPrefix}
use Rattle.krb_record.specs.declared.record.Record.{Record}
use Rattle.krb_seal.specs.Sealer.{SealerState}
use Rattle.krb_peers.specs.Attempt.{Attempt, IsAttempt, DemandsAfter, CanTakeAll}
use Rattle.krb_peers.specs.Texts.{texts_of_all}
use Rattle.krb_peers.specs.ReceiverState.{ReceiverState}
use Rattle.krb_peers.specs.Session.{AreRecords, FitLimits, Sealed, AreSealed}
use Rattle.krb_peers.specs.Verdicts.{delivered}
use Rattle.krb_carry.specs.Outbox.{texts_put, has_close_put, numbered, Outbox, new_outbox}
use Rattle.krb_carry.specs.Outbox.{records_in, sealed_in, stored_records}
use Rattle.krb_carry.specs.Outbox.{MayLeave, Sealing, Act, IsAct, with_frames, LeadsOutbox}
use Rattle.krb_carry.specs.Progress.{Happening, Rewind, new_progress, resumed, after, after_all, IsTruthful, IsPublished}
use Rattle.krb_carry.specs.Progress.{IsCounted, StandInTurn}
use Rattle.krb_carry.specs.ProgressState.{ProgressState}
use Rattle.krb_carry.specs.Reading.{Reading, StoredShard, new_shard, IsReading, LeadsReading}
use Rattle.krb_carry.specs.Reading.{LeadsLess}
use Rattle.krb_carry.specs.Shard.{Item}
use Rattle.krb_carry.specs.Store.{Stored, new_session, applied, Leads, HasFirst, IsReceipt}

-- ---- a session whose receivers share a store

-- it holds of what any history of attempts at a session's records leaves
abbrev pub OfHistories : (SealerState → List Record → Stored → Type 0) → Type 0
OfHistories Claim =
    (sealer : SealerState) (records : List Record) (attempts : List Attempt) (stored : Stored)
    → AreRecords records → All (IsAttempt sealer records) attempts
    → Leads (new_session sealer) attempts stored → Claim sealer records stored

-- the texts of the first records took effect, each once, and what comes after them is demanded
abbrev pub FirstRecordsTakeEffect : Type 0
FirstRecordsTakeEffect = OfHistories HasFirst

-- so what took effect is a prefix of the texts
abbrev pub TextsTakeEffectInOrder : Type 0
TextsTakeEffectInOrder =
    OfHistories (λ sealer records stored. IsPrefix stored.effects (texts_of_all records))

-- and all of them, if the close was accepted
abbrev pub AllTakeEffectWhereClosed : Type 0
AllTakeEffectWhereClosed =
    OfHistories
    (λ sealer records stored. stored.demand.closed ≡ true
    → stored.effects ≡ texts_of_all records)

-- after the close nothing changes, whatever attempts come
abbrev pub NothingAfterTheClose : Type 0
NothingAfterTheClose =
    (sealer : SealerState) (records : List Record) (attempts : List Attempt) (old new : Stored)
    → All (IsAttempt sealer records) attempts → old.demand.closed ≡ true → Leads old attempts new
    → new ≡ old

-- two histories of a session that demand one number leave the same
abbrev pub NumberTellsTheRest : Type 0
NumberTellsTheRest =
    (sealer : SealerState) (records : List Record) (attempts others : List Attempt)
    (stored other : Stored)
    → AreRecords records
    → All (IsAttempt sealer records) attempts → Leads (new_session sealer) attempts stored
    → All (IsAttempt sealer records) others → Leads (new_session sealer) others other
    → stored.demand.expected ≡ other.demand.expected → stored ≡ other

-- without compare-and-set, an attempt that delivered all texts delivers each of them twice
abbrev pub BlindTransactionsRepeat : Type 0
BlindTransactionsRepeat =
    (sealer : SealerState) (records : List Record) (attempt : Attempt)
    → delivered attempt.verdicts ≡ texts_of_all records → texts_of_all records ≢ []
    → let twice = applied (applied (new_session sealer) attempt) attempt in
    ¬ IsPrefix twice.effects (texts_of_all records)

-- a new receiver that takes all in agreement makes an attempt, and though its transaction comes
-- twice, each text takes effect once
abbrev pub OneReceiverDoes : Type 0
OneReceiverDoes =
    (sealer : SealerState) (records : List Record) (sealed : List Sealed)
    (receiver : ReceiverState) (nows : List ℕ) → CanTakeAll sealer records sealed receiver nows
    → (attempt : Attempt) × (attempt.receiver ≡ receiver) × IsAttempt sealer records attempt
    × ((stored : Stored) × Leads (new_session sealer) (attempt ∷ attempt ∷ []) stored
    × (stored.effects ≡ texts_of_all records))

-- ---- the rule of carried frames

-- It holds of what a sender knows of a shard after whatever happened, if each confirmation is true.
-- It begins, or begins again with another shard, at the number `done`, and counts no frame below it.
abbrev pub OfProgress :
    (SealerState → List Record → ℕ → List Item → ℕ → ProgressState → Type 0) → Type 0
OfProgress Claim =
    (sealer : SealerState) (records : List Record) (session : ℕ) (shard : List Item)
    (next done : ℕ) (happenings : List Happening)
    → All (IsTruthful sealer records session shard) happenings
    → Claim sealer records session shard done (after_all (resumed next done 0) happenings)

-- each frame that counts stands after the one before
abbrev pub CountedStandInTurn : Type 0
CountedStandInTurn = OfProgress StandInTurn

-- none of them beyond the shard
abbrev pub CountedStandInside : Type 0
CountedStandInside =
    OfProgress (λ sealer records session shard done progress. progress.at ≤ length shard)

-- From a rewind on, whatever else happens, each frame that doesn't count as carried is published again
-- before it counts as published: where all that are stored do, all that aren't carried.
abbrev pub NotCarriedIsPublishedAgain : Type 0
NotCarriedIsPublishedAgain =
    (progress : ProgressState) (happenings : List Happening) (number : ℕ)
    → let begun = after progress Rewind in
    let now = after_all begun happenings in
    now.carried ≤ number → number < now.sent → IsPublished begun happenings number

-- ---- receivers that read a shard on from the stored offset

-- It holds of what any history of readings leaves, if the stored offset is past the last frame that
-- counts as carried. The shard is read from its beginning. The session is a new one, or any attempts
-- at it came before, and all below `done` took effect then.
abbrev pub OfReadings : (SealerState → List Record → ProgressState → Stored → Type 0) → Type 0
OfReadings Claim = OfProgress (λ sealer records session shard done progress.
    (attempts : List Attempt) (then : Stored) (readings : List Reading) (stored : StoredShard)
    → AreRecords records → FitLimits records
    → All (IsAttempt sealer records) attempts → Leads (new_session sealer) attempts then
    → IsReceipt then done
    → All (IsReading sealer records session shard) readings
    → LeadsReading (record { offset = 0; session = then }) readings stored
    → progress.at ≤ stored.offset → Claim sealer records progress stored.session)

-- each frame that counts was accepted
abbrev pub CarriedIsAccepted : Type 0
CarriedIsAccepted =
    OfReadings (λ sealer records progress stored. progress.carried ≤ stored.demand.expected)

-- and if all frames count, all texts took effect, and what is demanded is what comes after all
-- records: nothing, if the last one is the close
abbrev pub CarriedTakesEffect : Type 0
CarriedTakesEffect = OfReadings (λ sealer records progress stored.
    progress.carried ≡ sealer.next + length records
    → (stored.effects ≡ texts_of_all records)
    × DemandsAfter sealer records (length records) stored.demand)

-- it is enough to compare the offset, and the number where something was accepted, if receivers read
-- the offset first
abbrev pub ComparingLessIsEnough : Type 0
ComparingLessIsEnough =
    (sealer : SealerState) (readings : List Reading) (stored : StoredShard)
    → LeadsLess [] (new_shard sealer) readings stored → LeadsReading (new_shard sealer) readings stored

-- from whatever was stored before
abbrev pub ComparingLessIsEnoughFromAny : Type 0
ComparingLessIsEnoughFromAny =
    (start : StoredShard) (readings : List Reading) (stored : StoredShard)
    → LeadsLess [] start readings stored → LeadsReading start readings stored

-- a history of readings is one of attempts: what holds of these holds of it
abbrev pub ReadingsAreAttempts : Type 0
ReadingsAreAttempts =
    (sealer : SealerState) (records : List Record) (session : ℕ) (shard : List Item)
    (readings : List Reading) (stored : StoredShard)
    → All (IsReading sealer records session shard) readings
    → LeadsReading (new_shard sealer) readings stored
    → let attempts = map (λ (reading : Reading). reading.attempt) readings in
    All (IsAttempt sealer records) attempts × Leads (new_session sealer) attempts stored.session

-- ---- receipts

-- a receipt stays true, whatever attempts come
abbrev pub ReceiptsStayTrue : Type 0
ReceiptsStayTrue =
    (attempts : List Attempt) (old new : Stored) (number : ℕ)
    → Leads old attempts new → IsReceipt old number → IsReceipt new number

-- ---- an outbox from which any number of processes seal

-- it holds of what any acts leave
abbrev pub OfOutboxes : (SealerState → Outbox → Type 0) → Type 0
OfOutboxes Claim =
    (sealer : SealerState) (acts : List Act) (outbox : Outbox) → All (IsAct sealer) acts
    → LeadsOutbox (new_outbox sealer) acts outbox → Claim sealer outbox

-- the stored frames are sealed of the records of one session, under one number after another
abbrev pub StoredIsSealed : Type 0
StoredIsSealed = OfOutboxes (λ sealer outbox.
    AreRecords (stored_records outbox) × FitLimits (stored_records outbox)
    × AreSealed sealer (stored_records outbox) (sealed_in outbox)
    × (outbox.frames ≡ numbered sealer.next (sealed_in outbox))
    × (outbox.next ≡ sealer.next + length outbox.frames))

-- each text is sealed once, in the order in which they were put in: what was sealed comes first, and
-- then what waits
abbrev pub EachTextIsSealedOnce : Type 0
EachTextIsSealedOnce =
    OfOutboxes
    (λ sealer outbox. texts_put outbox.inserted
    ≡ texts_of_all (stored_records outbox) ++ texts_put outbox.waiting)

-- at most one frame ever leaves under a number: one that may leave now is the one that may later
abbrev pub OneFrameForEachNumber : Type 0
OneFrameForEachNumber =
    (sealer : SealerState) (before : List Act) (old : Outbox) (after : List Act) (new : Outbox)
    (number : ℕ) (frame other : List ℕ)
    → All (IsAct sealer) before → LeadsOutbox (new_outbox sealer) before old
    → All (IsAct sealer) after → LeadsOutbox old after new
    → MayLeave old number frame → MayLeave new number other → frame ≡ other

-- without compare-and-set, two processes that begin at one number leave two frames under it
abbrev pub BlindSealingsClash : Type 0
BlindSealingsClash =
    (sealer : SealerState) (one other : Sealed)
    → let first : Sealing = record { from = sealer.next; sealed = one ∷ [] } in
    let second : Sealing = record { from = sealer.next; sealed = other ∷ [] } in
    let both = with_frames (with_frames (new_outbox sealer) first []) second [] in
    MayLeave both sealer.next one.frame × MayLeave both sealer.next other.frame

-- ---- from an outbox over a shard to a store

-- each text that was put in takes effect at most once, in the order in which they were put in,
-- wherever receivers have their frames from
abbrev pub EachTakesEffectAtMostOnce : Type 0
EachTakesEffectAtMostOnce = OfOutboxes (λ sealer outbox.
    (attempts : List Attempt) (stored : Stored)
    → All (IsAttempt sealer (stored_records outbox)) attempts
    → Leads (new_session sealer) attempts stored
    → IsPrefix stored.effects (texts_put outbox.inserted))

-- it holds of any history of an outbox, of what its senders hear of a shard, if this is true, and of
-- the receivers that read the shard
abbrev pub OfDeliveries : (Outbox → ProgressState → StoredShard → Type 0) → Type 0
OfDeliveries Claim = OfOutboxes (λ sealer outbox.
    (session : ℕ) (shard : List Item) (happenings : List Happening) (readings : List Reading)
    (stored : StoredShard)
    → All (IsTruthful sealer (stored_records outbox) session shard) happenings
    → All (IsReading sealer (stored_records outbox) session shard) readings
    → LeadsReading (new_shard sealer) readings stored
    → Claim outbox (after_all (new_progress sealer.next) happenings) stored)

-- and each exactly once, if none waits, all frames count as carried, and the stored offset is past
-- the last one; and the close was accepted if it was put in
abbrev pub EachTakesEffectOnce : Type 0
EachTakesEffectOnce = OfDeliveries (λ outbox progress stored.
    outbox.waiting ≡ [] → progress.carried ≡ outbox.next → progress.at ≤ stored.offset
    → (stored.session.effects ≡ texts_put outbox.inserted)
    × (stored.session.demand.closed ≡ has_close_put outbox.inserted))

-- And each exactly once, whatever carriers lost before, and whatever they confirmed: if some shard
-- keeps what comes from now on, and its sender begins with the first frame of which it has no
-- receipt. What took effect until then did so by any attempts, at whatever carriers brought.
abbrev pub EachTakesEffectOnceByReceipts : Type 0
EachTakesEffectOnceByReceipts = OfOutboxes (λ sealer outbox.
    (attempts : List Attempt) (then : Stored) (session : ℕ) (shard : List Item) (next done : ℕ)
    (happenings : List Happening) (readings : List Reading) (stored : StoredShard)
    → All (IsAttempt sealer (stored_records outbox)) attempts
    → Leads (new_session sealer) attempts then → IsReceipt then done
    → All (IsTruthful sealer (stored_records outbox) session shard) happenings
    → All (IsReading sealer (stored_records outbox) session shard) readings
    → LeadsReading (record { offset = 0; session = then }) readings stored
    → let progress = after_all (resumed next done 0) happenings in
    outbox.waiting ≡ [] → progress.carried ≡ outbox.next → progress.at ≤ stored.offset
    → (stored.session.effects ≡ texts_put outbox.inserted)
    × (stored.session.demand.closed ≡ has_close_put outbox.inserted))

-- A whole delivery, of one session: all that was put in was sealed so, stands in a shard, counts as
-- carried, and was read.
pub record HasDelivery (sealer : SealerState) (sealed : List Sealed) : Type 0 where
  pub acts : List Act
  pub outbox : Outbox
  pub are_acts : All (IsAct sealer) acts
  pub lead : LeadsOutbox (new_outbox sealer) acts outbox
  pub sealed_is : sealed_in outbox ≡ sealed
  pub none_waits : outbox.waiting ≡ []
  pub shard : List Item
  pub happenings : List Happening
  pub are_true : All (IsTruthful sealer (stored_records outbox) 0 shard) happenings
  pub readings : List Reading
  pub stored : StoredShard
  pub are_readings : All (IsReading sealer (stored_records outbox) 0 shard) readings
  pub read : LeadsReading (new_shard sealer) readings stored
  pub carried : (after_all (new_progress sealer.next) happenings).carried ≡ outbox.next
  pub past : (after_all (new_progress sealer.next) happenings).at ≤ stored.offset

-- there is one, of whatever is sealed, with a receiver that can take it
abbrev pub DeliveriesHappen : Type 0
DeliveriesHappen =
    (sealer : SealerState) (sealed : List Sealed) (receiver : ReceiverState) (nows : List ℕ)
    → CanTakeAll sealer (records_in sealed) sealed receiver nows → HasDelivery sealer sealed
