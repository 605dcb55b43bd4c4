-- An attempt of one receiver at a session: what it takes, whoever brought it, and its verdicts.
use Rattle.std.specs.Prelude.{◌≡◌, ◌⊎◌, ℕ, suc, ◌+◌, ◌<◌, ◌≤◌, List, length, take, slice_get, Some, Ok}
use Rattle.krb_record.specs.declared.record.Record.{Record}
use Rattle.krb_seal.specs.Laws.{Agree}
use Rattle.krb_seal.specs.Sealer.{SealerState}
use Rattle.krb_peers.specs.declared.delivery.Delivery.{Delivery}
use Rattle.krb_peers.specs.Demand.{Demand}
use Rattle.krb_peers.specs.Order.{demand_after, first_demand}
use Rattle.krb_peers.specs.ReceiverState.{ReceiverState}
use Rattle.krb_peers.specs.Moments.{moment_at}
use Rattle.krb_peers.specs.Session.{AreRecords, FitLimits, Sealed, IsSealed, IsFrameOf, AreSealed}
use Rattle.krb_peers.specs.Verdicts.{Verdict, AreJudged, record_of, records_of}

-- how the receiver begins, the frames that it takes and when, and its verdicts on them
pub record Attempt : Type 0 where
  pub receiver : ReceiverState
  pub nows : List ℕ
  pub took : List (List ℕ)
  pub verdicts : List Verdict

-- what is demanded before the frame at a place, and at its end
abbrev pub demand_at : Attempt → ℕ → Demand
demand_at attempt place =
    demand_after attempt.receiver.demand (records_of (take place attempt.verdicts))

abbrev pub ends_at : Attempt → Demand
ends_at attempt = demand_after attempt.receiver.demand (records_of attempt.verdicts)

-- the receiver has the session's key
pub record HasKey (sealer : SealerState) (receiver : ReceiverState) : Type 0 where
  pub etype : receiver.opener.etype ≡ sealer.etype
  pub key : receiver.opener.key ≡ sealer.key

-- A receiver has the session's key. It begins with any demand, and takes any frames in any order.
-- What it accepts is no forgery: each frame that is accepted was sealed of one of the records, or
-- carries the record of its number.
pub record IsAttempt (sealer : SealerState) (records : List Record)
    (attempt : Attempt) : Type 0 where
  pub has_key : HasKey sealer attempt.receiver
  pub judged : AreJudged attempt.receiver attempt.nows attempt.took attempt.verdicts
  pub no_forgery :
      (place : ℕ) (frame : List ℕ) (d : Delivery) → slice_get attempt.took place ≡ Some frame
      → slice_get attempt.verdicts place ≡ Some (Ok d)
      → IsFrameOf sealer records frame
      ⊎ ((k : ℕ) → (demand_at attempt place).expected ≡ sealer.next + k
      → slice_get records k ≡ Some (record_of d))

-- what is demanded after the first of these records
pub record DemandsAfter (sealer : SealerState) (records : List Record) (first : ℕ)
    (demand : Demand) : Type 0 where
  pub within : first ≤ length records
  pub is : demand ≡ demand_after (first_demand sealer.next) (take first records)

-- an attempt at the records of a session, which begins after the first of them: a new receiver
-- begins after none
pub record IsAttemptAfter (sealer : SealerState) (records : List Record) (first : ℕ)
    (attempt : Attempt) : Type 0 where
  pub are : AreRecords records
  pub tries : IsAttempt sealer records attempt
  pub begins : DemandsAfter sealer records first attempt.receiver.demand

-- where record k is demanded at a place, both ends agree on mode and addresses, and what is taken
-- there is within the skew of the timestamp at which it was sealed
abbrev pub AgreesWhereDemanded : SealerState → Attempt → ℕ → ℕ → ℕ → Type 0
AgreesWhereDemanded sealer attempt k place at =
    (demand_at attempt place).expected ≡ sealer.next + k
    → Agree sealer.session attempt.receiver.opener.expect at (moment_at attempt.nows place)

-- Of the records from `first` on and below `end`, each is taken as a frame that is sealed of it,
-- somewhere after the one before, in agreement where it is demanded.
pub record TakesInTurn (sealer : SealerState) (records : List Record) (first end : ℕ)
    (attempt : Attempt) : Type 0 where
  pub place : ℕ → ℕ
  pub its : ℕ → Sealed
  pub sealed : (k : ℕ) → first ≤ k → k < end → IsSealed sealer records k (its k)
  pub stands : (k : ℕ) → first ≤ k → k < end
      → slice_get attempt.took (place k) ≡ Some (its k).frame
  pub rises : (k : ℕ) → first ≤ k → suc k < end → place k < place (suc k)
  pub agree : (k : ℕ) → first ≤ k → k < end
      → AgreesWhereDemanded sealer attempt k (place k) (its k).at

-- Of each record a frame is sealed, and a new receiver that takes them all, one after the other,
-- agrees on each.
pub record CanTakeAll (sealer : SealerState) (records : List Record) (sealed : List Sealed)
    (receiver : ReceiverState) (nows : List ℕ) : Type 0 where
  pub are : AreRecords records
  pub fit : FitLimits records
  pub each : AreSealed sealer records sealed
  pub has_key : HasKey sealer receiver
  pub demand : receiver.demand ≡ first_demand sealer.next
  pub agree : (k : ℕ) (it : Sealed) → slice_get sealed k ≡ Some it
      → Agree sealer.session receiver.opener.expect it.at (moment_at nows k)
