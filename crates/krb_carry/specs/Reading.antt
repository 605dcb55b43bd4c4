-- Receivers that read a shard on from the stored offset.
use Rattle.std.specs.Prelude.{◌≡◌, ◌⊎◌, ℕ, ◌+◌, ◌<◌, ◌≤◌, List, [], ◌∷◌, take, drop, slice_get, Some}
use Rattle.std.specs.List.{Contains}
use Rattle.krb_record.specs.declared.record.Record.{Record}
use Rattle.krb_seal.specs.Sealer.{SealerState}
use Rattle.krb_peers.specs.Attempt.{Attempt, IsAttempt, AgreesWhereDemanded}
use Rattle.krb_peers.specs.Session.{Sealed, IsSealed}
use Rattle.krb_peers.specs.Verdicts.{records_of}
use Rattle.krb_carry.specs.Shard.{Item, frames_of}
use Rattle.krb_carry.specs.Store.{Stored, new_session, applied}

-- what is stored of a shard and of one of its sessions: all up to the offset was taken
pub record StoredShard : Type 0 where
  pub offset : ℕ
  pub session : Stored

abbrev pub new_shard : SealerState → StoredShard
new_shard sealer = record { offset = 0; session = new_session sealer }

-- an attempt that takes, of the items after the offset `from`, the next `count`
pub record Reading : Type 0 where
  pub from : ℕ
  pub count : ℕ
  pub attempt : Attempt

-- The receiver takes the session's frames among these items, and the frame that it demands in
-- agreement.
pub record IsReading (sealer : SealerState) (records : List Record) (session : ℕ)
    (shard : List Item) (reading : Reading) : Type 0 where
  pub attempt : IsAttempt sealer records reading.attempt
  pub takes : reading.attempt.took
      ≡ frames_of session (take reading.count (drop reading.from shard))
  pub agree :
      (k place : ℕ) (it : Sealed) → IsSealed sealer records k it
      → slice_get reading.attempt.took place ≡ Some it.frame
      → AgreesWhereDemanded sealer reading.attempt k place it.at

-- Compare-and-set, of the offset too: the transaction takes effect, which it may only if both stand
-- where the attempt began, or it changes nothing.
abbrev pub CommitsReading : StoredShard → Reading → StoredShard → Type 0
CommitsReading old reading new =
    ((old.offset ≡ reading.from) × (old.session.demand ≡ reading.attempt.receiver.demand)
    × (new ≡ record {
      offset = reading.from + reading.count;
      session = applied old.session reading.attempt;
    }))
    ⊎ (new ≡ old)

-- a history of such transactions, in the order in which the store serialized them
abbrev pub LeadsReading : StoredShard → List Reading → StoredShard → Type 0
LeadsReading old [] new = new ≡ old
LeadsReading old (reading ∷ readings) new =
    (between : StoredShard) × CommitsReading old reading between × LeadsReading between readings new

-- ---- comparing less

-- the receiver read the offset first, and then the demand: the demand with which it begins was
-- stored, with its offset or a later one
pub record WasRead (seen : List StoredShard) (reading : Reading) : Type 0 where
  pub then : StoredShard
  pub stored : Contains seen then
  pub not_before : reading.from ≤ then.offset
  pub demand : then.session.demand ≡ reading.attempt.receiver.demand

-- Where nothing of a session was accepted, its transaction leaves the session alone, and compares
-- the offset only. Else it compares the number too. It takes one item at least.
abbrev pub CommitsLess : StoredShard → Reading → StoredShard → Type 0
CommitsLess old reading new =
    ((old.offset ≡ reading.from) × (0 < reading.count)
    × (((records_of reading.attempt.verdicts ≡ [])
    × (new ≡ record { offset = reading.from + reading.count; session = old.session }))
    ⊎ ((old.session.demand.expected ≡ reading.attempt.receiver.demand.expected)
    × (new ≡ record {
      offset = reading.from + reading.count;
      session = applied old.session reading.attempt;
    }))))
    ⊎ (new ≡ old)

-- a history of such transactions, of receivers that begin with what they read of what is stored or
-- was `seen` before
abbrev pub LeadsLess : List StoredShard → StoredShard → List Reading → StoredShard → Type 0
LeadsLess seen old [] new = new ≡ old
LeadsLess seen old (reading ∷ readings) new =
    (between : StoredShard) × WasRead (old ∷ seen) reading × CommitsLess old reading between
    × LeadsLess (old ∷ seen) between readings new
