-- The calls of a receiver, one after another, and what each answered.
use Rattle.std.specs.Prelude.{◌≡◌, ◌⊎◌, ℕ, ◌+◌, List, [], ◌∷◌, ◌++◌, map, slice_get, Option, Some, None, Ok, Err}
use Rattle.std.specs.List.{flat_map}
use Rattle.krb_record.specs.declared.record.Record.{Record}
use Rattle.krb_seal.specs.declared.refusal.Refusal.TheVariants.{Memory}
use Rattle.krb_seal.specs.Sealer.{SealerState}
use Rattle.krb_peers.specs.declared.delivery.Delivery.{Delivery}
use Rattle.krb_peers.specs.Attempt.{Attempt, HasKey, DemandsAfter}
use Rattle.krb_peers.specs.Order.{demand_after}
use Rattle.krb_peers.specs.Receiver.{receiver_after}
use Rattle.krb_peers.specs.ReceiverState.{ReceiverState}
use Rattle.krb_peers.specs.Session.{AreRecords, IsFrameOf}
use Rattle.krb_peers.specs.Verdicts.{Verdict, IsVerdict, record_of, records_of}

-- a frame, when it was taken, and the verdict that was answered, if any was
pub record Call : Type 0 where
  pub frame : List ℕ
  pub now : ℕ
  pub answer : Option Verdict

-- out of memory is no verdict
abbrev pub Answers : Verdict → Option Verdict → Type 0
Answers answer None = answer ≡ Err Memory
Answers answer (Some verdict) = answer ≡ verdict

-- a verdict moves the receiver as it says, and any other answer leaves all as it was
abbrev pub Moves : ReceiverState → ℕ → List ℕ → Option Verdict → ReceiverState → Type 0
Moves before now frame None after = after ≡ before
Moves before now frame (Some verdict) after =
    IsVerdict before.opener before.demand now frame verdict × (after ≡ receiver_after before verdict)

abbrev pub IsCall : ReceiverState → Call → ReceiverState → Type 0
IsCall before call after = Moves before call.now call.frame call.answer after

-- these calls, one after another, lead from one state of the receiver to another
abbrev pub AreCalls : ReceiverState → List Call → ReceiverState → Type 0
AreCalls before [] after = after ≡ before
AreCalls before (call ∷ calls) after =
    (between : ReceiverState) × IsCall before call between × AreCalls between calls after

-- ---- the calls that were answered by a verdict

-- a frame, when it was taken, and its verdict
pub record Judged : Type 0 where
  pub frame : List ℕ
  pub now : ℕ
  pub verdict : Verdict

abbrev pub judged_with : List ℕ → ℕ → Option Verdict → List Judged
judged_with frame now None = []
judged_with frame now (Some verdict) = record { frame = frame; now = now; verdict = verdict } ∷ []

abbrev pub judged_by : Call → List Judged
judged_by call = judged_with call.frame call.now call.answer

abbrev pub judged_in : List Call → List Judged
judged_in calls = flat_map judged_by calls

abbrev pub frames_in : List Call → List (List ℕ)
frames_in calls = map (λ (j : Judged). j.frame) (judged_in calls)

abbrev pub nows_in : List Call → List ℕ
nows_in calls = map (λ (j : Judged). j.now) (judged_in calls)

abbrev pub verdicts_in : List Call → List Verdict
verdicts_in calls = map (λ (j : Judged). j.verdict) (judged_in calls)

-- the attempt that they are, which takes the frames of these alone
abbrev pub attempt_of : ReceiverState → List Call → Attempt
attempt_of start calls =
    record { receiver = start; nows = nows_in calls; took = frames_in calls; verdicts = verdicts_in calls }

-- ---- the loop of a caller

-- what is demanded after these calls
abbrev pub expected_after : ReceiverState → List Call → ℕ
expected_after start calls = (demand_after start.demand (records_of (verdicts_in calls))).expected

-- No call accepts a forgery: its frame was sealed of one of the records, or carries the record of
-- its number.
abbrev pub AcceptNoForgery : SealerState → List Record → ReceiverState → List Call → Type 0
AcceptNoForgery sealer records start calls =
    (front back : List Call) (call : Call) (d : Delivery) → calls ≡ front ++ call ∷ back
    → call.answer ≡ Some (Ok d)
    → IsFrameOf sealer records call.frame
    ⊎ ((k : ℕ) → expected_after start front ≡ sealer.next + k
    → slice_get records k ≡ Some (record_of d))

-- A loop of calls at the records of a session, by a receiver that begins after the first of them.
pub record IsLoop (sealer : SealerState) (records : List Record) (first : ℕ) (start : ReceiverState)
    (made : List Call) (end : ReceiverState) : Type 0 where
  pub are : AreRecords records
  pub has_key : HasKey sealer start
  pub begins : DemandsAfter sealer records first start.demand
  pub calls : AreCalls start made end
  pub no_forgery : AcceptNoForgery sealer records start made
