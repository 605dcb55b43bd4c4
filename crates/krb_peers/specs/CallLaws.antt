-- What holds of the calls of a receiver.
use Rattle.std.specs.Prelude.{◌≡◌, ℕ, List, [], ◌∷◌, ◌++◌, Option, None}
use Rattle.krb_record.specs.declared.record.Record.{Record}
use Rattle.krb_seal.specs.Sealer.{SealerState}
use Rattle.krb_peers.specs.Attempt.{IsAttemptAfter, ends_at}
use Rattle.krb_peers.specs.Claims.{FramesHeadline}
use Rattle.krb_peers.specs.Receiver.{IsJudgement, receiver_after}
use Rattle.krb_peers.specs.ReceiverState.{ReceiverState}
use Rattle.krb_peers.specs.Verdicts.{Verdict, AreJudged, events_from}
use Rattle.krb_peers.specs.Calls.{Call, Answers, Moves, IsCall, AreCalls, IsLoop, attempt_of}

-- what `take` answers, and what it leaves, is a call
abbrev pub CallsAreTakes : Type 0
CallsAreTakes =
    (before after : ReceiverState) (now : ℕ) (frame : List ℕ) (answer : Verdict)
    → IsJudgement before now frame answer → after ≡ receiver_after before answer
    → (verdict : Option Verdict) × Answers answer verdict × Moves before now frame verdict after

-- one more call
abbrev pub CallsGoOn : Type 0
CallsGoOn =
    (start before after : ReceiverState) (calls : List Call) (call : Call) → AreCalls start calls before
    → IsCall before call after → AreCalls start (calls ++ call ∷ []) after

-- a call without a verdict may be left out: it changes nothing
abbrev pub CallsWithoutVerdict : Type 0
CallsWithoutVerdict =
    (start end : ReceiverState) (front back : List Call) (call : Call)
    → AreCalls start (front ++ call ∷ back) end → call.answer ≡ None → AreCalls start (front ++ back) end

-- the answers that are verdicts are those on their frames, and the receiver ends where these lead
abbrev pub CallsAreJudged : Type 0
CallsAreJudged =
    (start end : ReceiverState) (calls : List Call) → AreCalls start calls end
    → let attempt = attempt_of start calls in
    AreJudged start attempt.nows attempt.took attempt.verdicts
    × (end ≡ record start { demand = ends_at attempt })

-- so the headline holds of them, whatever they are
abbrev pub CallsHaveHeadline : Type 0
CallsHaveHeadline =
    (sealer : SealerState) (records : List Record) (first : ℕ) (start end : ReceiverState)
    (calls : List Call) → AreCalls start calls end
    → let attempt = attempt_of start calls in
    FramesHeadline sealer records first attempt (events_from attempt.verdicts)

-- and its premise of an attempt holds of a loop at the records of a session
abbrev pub LoopsAreAttempts : Type 0
LoopsAreAttempts =
    (sealer : SealerState) (records : List Record) (first : ℕ) (start end : ReceiverState)
    (calls : List Call) → IsLoop sealer records first start calls end
    → IsAttemptAfter sealer records first (attempt_of start calls)
