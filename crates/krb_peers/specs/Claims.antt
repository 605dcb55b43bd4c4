-- What is claimed of a session's frames, whoever seals them and whoever brings them: the headline.
-- Each claim is here once, about the events that verdicts bring, as a log has them.
use Rattle.std.specs.Prelude.{◌≡◌, ◌↔◌, ℕ, true, false, List, [], ◌∷◌, ◌++◌, ◌+◌, length, take, drop, slice_get}
use Rattle.std.specs.Prelude.{Some, Err, All, IsOk}
use Rattle.std.specs.List.{flat_map, list_any}
use Rattle.krb_base.specs.Prefix.{IsPrefix}
use Rattle.krb_record.specs.declared.record.Record.{Record}
use Rattle.krb_record.specs.Record.{texts_of, is_close}
use Rattle.krb_seal.specs.Sealer.{SealerState}
use Rattle.krb_seal.specs.declared.refusal.Refusal.{Refusal}
use Rattle.krb_peers.specs.declared.log.Event.{Event}
use Rattle.krb_peers.specs.declared.log.Event.TheVariants.{Closed}
use Rattle.krb_peers.specs.Attempt.{Attempt, IsAttemptAfter, TakesInTurn}
use Rattle.krb_peers.specs.Demand.{Demand}
use Rattle.krb_peers.specs.Log.{texts_in, has_closed}
use Rattle.krb_peers.specs.Order.{demand_after}
use Rattle.krb_peers.specs.ReceiverState.{ReceiverState}
use Rattle.krb_peers.specs.Moments.{moment_at}
use Rattle.krb_peers.specs.Session.{FitLimits}
use Rattle.krb_peers.specs.Verdicts.{Verdict, Fails, records_of, events_from}

-- ---- the claims that rest on no premise

-- nothing is delivered and no close is accepted after a close
abbrev pub NothingAfterClose : List Event → Type 0
NothingAfterClose events =
    (front back : List Event) → events ≡ front ++ Closed ∷ back → (texts_in back ≡ [])
    × (has_closed back ≡ false)

-- a frame is refused if and only if it fails a check, by the first that it fails
abbrev pub RefusesExactly : ReceiverState → List ℕ → List (List ℕ) → List Verdict → Type 0
RefusesExactly start nows took verdicts =
    (place : ℕ) (frame : List ℕ) (refusal : Refusal) → slice_get took place ≡ Some frame
    → let demanded = demand_after start.demand (records_of (take place verdicts)) in
    (slice_get verdicts place ≡ Some (Err refusal))
    ↔ Fails start.opener demanded (moment_at nows place) frame refusal

-- a refusal delivers nothing and moves no number: without it, the same is delivered and demanded
abbrev pub RefusalsDeliverNothing : Demand → List Verdict → List Event → Type 0
RefusalsDeliverNothing start verdicts events =
    (front back : List Verdict) (refusal : Refusal) → verdicts ≡ front ++ Err refusal ∷ back
    → (texts_in events ≡ texts_in (events_from (front ++ back)))
    × (demand_after start (records_of verdicts) ≡ demand_after start (records_of (front ++ back)))

-- ---- all of them

-- the texts of the first records, and after them those that events deliver
abbrev pub texts_with : List Record → ℕ → List Event → List (List ℕ)
texts_with records first events = flat_map texts_of (take first records) ++ texts_in events

-- The headline: the seven claims, about the events of an attempt at the records of a session. Its
-- receiver begins after the first records, and what it delivers continues where their texts end.
pub record FramesHeadline (sealer : SealerState) (records : List Record) (first : ℕ)
    (attempt : Attempt) (events : List Event) : Type 0 where
  -- what is delivered is a prefix of the texts: in order, and each once
  pub delivered_prefix :
      IsAttemptAfter sealer records first attempt
      → IsPrefix (texts_with records first events) (flat_map texts_of records)
  pub nothing_after_close : NothingAfterClose events
  -- all texts are delivered if the close was accepted
  pub all_where_closed :
      IsAttemptAfter sealer records first attempt → has_closed events ≡ true
      → texts_with records first events ≡ flat_map texts_of records
  -- and if the frames come in turn and nothing else comes: then none is refused
  pub all_where_undisturbed :
      IsAttemptAfter sealer records first attempt → FitLimits records
      → TakesInTurn sealer records first (length records) attempt
      → first + length attempt.took ≡ length records
      → (texts_with records first events ≡ flat_map texts_of records) × All IsOk attempt.verdicts
  -- and if they come in turn, whatever else comes; and the close is accepted if there is one
  pub all_where_carried :
      IsAttemptAfter sealer records first attempt → FitLimits records
      → TakesInTurn sealer records first (length records) attempt
      → (texts_with records first events ≡ flat_map texts_of records)
      × (has_closed events ≡ list_any is_close (drop first records))
  pub refused_exactly :
      RefusesExactly attempt.receiver attempt.nows attempt.took attempt.verdicts
  pub refusals_deliver_nothing :
      RefusalsDeliverNothing attempt.receiver.demand attempt.verdicts events
