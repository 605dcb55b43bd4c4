-- What a log has of the frames that a receiver took.
use Rattle.std.specs.Prelude.{◌≡◌, ◌≢◌, ℕ, true, false, List, [], ◌∷◌, ◌++◌, length, Ok, Err}
use Rattle.krb_peers.specs.declared.log.Entry.{Entry}
use Rattle.krb_peers.specs.Log.{entries_for, events_of, is_closed}
use Rattle.krb_peers.specs.LogState.{LogState}
use Rattle.krb_peers.specs.ReceiverState.{ReceiverState}
use Rattle.krb_peers.specs.Moments.{moment_at}
use Rattle.krb_peers.specs.Order.{demand_after}
use Rattle.krb_peers.specs.Verdicts.{Verdict, AreJudged, records_of, events_by, events_from}
use Rattle.krb_peers.specs.Receiver.{verdict_by}

-- the log after a verdict on a frame of this lane: what it brings is added
abbrev pub entries_by : ℕ → Verdict → List Entry
entries_by lane v = entries_for lane (events_by v)

abbrev pub noted : LogState → ℕ → Verdict → LogState
noted log lane v = record log { entries = log.entries ++ entries_by lane v }

-- if the log has a close of the lane, only refusals may come
abbrev pub MayBeNoted : Verdict → ℕ → List Entry → Type 0
MayBeNoted (Ok delivery) lane entries = is_closed lane entries ≡ false
MayBeNoted (Err refusal) lane entries = Unit {0}

-- if the log has a close of the lane, its receiver accepts no more
abbrev pub IsShut : LogState → ℕ → ReceiverState → Type 0
IsShut log lane receiver = is_closed lane log.entries ≡ true → receiver.demand.closed ≡ true

-- These are the verdicts on the frames that a receiver took from its start on, each by the records
-- accepted before it and at the timestamp of its place, and the log has of the lane what they
-- bring, in order. The receiver demands what they leave.
pub record HasLogged (start : ReceiverState) (nows : List ℕ) (lane : ℕ) (took : List (List ℕ))
    (log : LogState) (receiver : ReceiverState) (verdicts : List Verdict) : Type 0 where
  pub judged : AreJudged start nows took verdicts
  pub entries : events_of lane log.entries ≡ events_from verdicts
  pub receiver_is : receiver
      ≡ record start { demand = demand_after start.demand (records_of verdicts) }

-- Whatever was taken before, the frame comes after it: its verdict is one more, and the log has it.
-- What the log has of any other lane stays.
pub record LogsNext (receiver : ReceiverState) (log : LogState) (lane now : ℕ) (frame : List ℕ)
    (receiver-now : ReceiverState) (log-now : LogState) : Type 0 where
  pub goes_on :
      (start : ReceiverState) (nows : List ℕ) (took : List (List ℕ)) (verdicts : List Verdict)
      → HasLogged start nows lane took log receiver verdicts → now ≡ moment_at nows (length took)
      → HasLogged start nows lane (took ++ frame ∷ []) log-now receiver-now (verdicts
      ++ verdict_by receiver now frame ∷ [])
  pub others :
      (start : ReceiverState) (nows : List ℕ) (other : ℕ) (took : List (List ℕ))
      (its : ReceiverState) (verdicts : List Verdict)
      → other ≢ lane → HasLogged start nows other took log its verdicts
      → HasLogged start nows other took log-now its verdicts
  pub entries_stay : (other : ℕ) → other ≢ lane
      → events_of other log-now.entries ≡ events_of other log.entries
