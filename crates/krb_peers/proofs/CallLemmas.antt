-- The calls of a receiver that were answered by a verdict are an attempt.
use Rattle.std.proofs.Common.{◌≡◌, ◌⊎◌, ℕ, zero, suc, ◌+◌, ◌-◌, min, List, [], ◌∷◌, ◌++◌, length, take, get_or, slice_get, Option, Some, None, Ok, Err, inl, inr, refl, sym, ap, subst, ◌∙◌, arith, length-append, append_assoc}
use Rattle.std.proofs.Math.Seq.{get_or-append_seam}
use Rattle.krb_seal.specs.declared.refusal.Refusal.{Refusal}
use Rattle.krb_seal.specs.declared.refusal.Refusal.TheVariants as refusals
use Rattle.krb_seal.specs.Opens.{OpenerState}
use Rattle.krb_peers.specs.declared.delivery.Delivery.{Delivery}
use Rattle.krb_peers.specs.Attempt.{demand_at}
use Rattle.krb_peers.specs.Demand.{Demand}
use Rattle.krb_peers.specs.Moments.{moment_at}
use Rattle.krb_peers.specs.Order.{demand_after}
use Rattle.krb_peers.specs.Receiver.{receiver_after}
use Rattle.krb_peers.specs.ReceiverState.{ReceiverState}
use Rattle.krb_peers.specs.Session.{IsFrameOf}
use Rattle.krb_peers.specs.Verdicts.{Verdict, AreVerdicts, IsVerdict, accepted_by, events_from, record_of, records_of}
use Rattle.krb_peers.proofs.OrderLemmas.{demand_after-nil, demand_after-append}
use Rattle.krb_peers.proofs.ClaimLemmas.{frames_headline_of}
use Rattle.krb_peers.specs.Calls.{Call, Moves, IsCall, AreCalls, attempt_of, frames_in, nows_in, verdicts_in, expected_after}
use Rattle.krb_peers.specs.CallLaws.{CallsAreTakes, CallsGoOn, CallsWithoutVerdict, CallsAreJudged, CallsHaveHeadline, LoopsAreAttempts}

-- ---- one call

-- a refusal accepts nothing
pub refused_still : (before : ReceiverState) (r : Refusal) → receiver_after before (Err r) ≡ before
refused_still before r = ap (λ (d : Demand). record before { demand = d }) (demand_after-nil before.demand)

-- nor does out of memory
unmoved : (before after : ReceiverState) (answer : Verdict) → answer ≡ Err refusals.Memory → after ≡ receiver_after before answer → after ≡ before
unmoved before after answer none is =
    let e : receiver_after before answer ≡ receiver_after before (Err refusals.Memory) = ap (λ v. receiver_after before v) none in
    is ∙ (e ∙ refused_still before refusals.Memory)

pub are_takes : CallsAreTakes
are_takes before after now frame answer (inl none) is = (None, none, unmoved before after answer none is)
are_takes before after now frame answer (inr verdict) is = (Some answer, refl, (verdict, is))

-- ---- calls one after another

pub go_on : CallsGoOn
go_on start before after [] call are is = subst (λ (r : ReceiverState). (between : ReceiverState) × IsCall r call between × (after ≡ between)) are (after, is, refl)
go_on start before after (first ∷ calls) call are is = (are.0, are.1, go_on are.0 before after calls call are.2 is)

still : (before between : ReceiverState) (now : ℕ) (frame : List ℕ) (answer : Option Verdict) → answer ≡ None → Moves before now frame answer between → between ≡ before
still before between now frame None none moves = moves
still before between now frame (Some v) none moves = absurd (let e : ◌≡◌ {A = Option Verdict} (Some v) None = none in cc)

pub without : CallsWithoutVerdict
without start end [] back call are none =
    subst (λ (r : ReceiverState). AreCalls r back end) (still start are.0 call.now call.frame call.answer none are.1) are.2
without start end (first ∷ front) back call are none = (are.0, are.1, without are.0 end front back call are.2 none)

-- ---- the verdicts

-- the timestamp of a place behind others
its_moment : (before rest : List ℕ) (now : ℕ) → moment_at (before ++ now ∷ rest) (length before + 0) ≡ now
its_moment before rest now =
    let long : length (before ++ now ∷ rest) ≡ length before + suc (length rest) = length-append before (now ∷ rest) in
    let place : min (length before + 0) (length (before ++ now ∷ rest) - 1) ≡ length before = omega (arith, long) in
    ap (λ i. get_or (before ++ now ∷ rest) i 0) place ∙ get_or-append_seam before now rest 0

module _ (opener : OpenerState) (nows : List ℕ) where
  one_more : (demand : Demand) (place : ℕ) (g : List ℕ) (frames : List (List ℕ)) (v : Verdict) (vs : List Verdict) → IsVerdict opener demand (moment_at nows (place + 0)) g v
      → AreVerdicts opener nows (demand_after demand (accepted_by v)) (place + 1) frames vs
      → AreVerdicts opener nows demand place (g ∷ frames) (v ∷ vs)
  one_more demand place g frames v vs is later = record {
    one_each = ap suc later.one_each;
    each = each;
  }
    where
      each : (i : ℕ) (frame : List ℕ) (w : Verdict) → slice_get (g ∷ frames) i ≡ Some frame → slice_get (v ∷ vs) i ≡ Some w
          → IsVerdict opener (demand_after demand (records_of (take i (v ∷ vs)))) (moment_at nows (place + i)) frame w
      each zero frame w at-f at-v =
          let same-f : g ≡ frame = cc in
          let same-v : v ≡ w = cc in
          rw (← same-f, ← same-v, demand_after-nil demand) is
      each (suc i) frame w at-f at-v =
          let p : place + suc i ≡ place + 1 + i = omega arith in
          rw (p, ← demand_after-append demand (accepted_by v) (records_of (take i vs))) (later.each i frame w at-f at-v)

-- where the calls lead
abbrev led : ReceiverState → List Call → ReceiverState
led start calls = record start { demand = demand_after start.demand (records_of (verdicts_in calls)) }

-- the verdicts of calls that come after those of these timestamps
abbrev Judges : List ℕ → ReceiverState → List Call → ReceiverState → Type 0
Judges before start calls end =
    AreVerdicts start.opener (before ++ nows_in calls) start.demand (length before) (frames_in calls) (verdicts_in calls) × (end ≡ led start calls)

judged_first : (before : List ℕ) (start between end : ReceiverState) (frame : List ℕ) (now : ℕ) (answer : Option Verdict) (calls : List Call) → Moves start now frame answer between
    → ((more : List ℕ) → Judges more between calls end) → Judges before start (record { frame = frame; now = now; answer = answer } ∷ calls) end
judged_first before start between end frame now None calls moves rest =
    subst (λ (r : ReceiverState). Judges before r calls end) moves (rest before)
judged_first before start between end frame now (Some v) calls moves rest =
    let more = before ++ now ∷ [] in
    let after = rest more in
    let nows = nows_in calls in
    let whole = before ++ now ∷ nows in
    let joined : more ++ nows ≡ whole = append_assoc before (now ∷ []) nows in
    let long : length more ≡ length before + 1 = length-append before (now ∷ []) in
    let next = receiver_after start v in
    let later : AreVerdicts next.opener (more ++ nows) next.demand (length more) (frames_in calls) (verdicts_in calls) =
    subst (λ (r : ReceiverState). AreVerdicts r.opener (more ++ nows) r.demand (length more) (frames_in calls) (verdicts_in calls)) moves.1 after.0 in
    let here : AreVerdicts start.opener whole (demand_after start.demand (accepted_by v)) (length before + 1) (frames_in calls) (verdicts_in calls) =
    subst (λ (n : ℕ). AreVerdicts start.opener whole (demand_after start.demand (accepted_by v)) n (frames_in calls) (verdicts_in calls)) long
    (subst (λ (l : List ℕ). AreVerdicts start.opener l (demand_after start.demand (accepted_by v)) (length more) (frames_in calls) (verdicts_in calls)) joined later) in
    let is : IsVerdict start.opener start.demand (moment_at whole (length before + 0)) frame v =
    subst (λ (n : ℕ). IsVerdict start.opener start.demand n frame v) (sym (its_moment before nows now)) moves.0 in
    let end_is : end ≡ led next calls = subst (λ (r : ReceiverState). end ≡ led r calls) moves.1 after.1 in (
      one_more start.opener whole start.demand (length before) frame (frames_in calls) v (verdicts_in calls) is here,
      end_is ∙ ap (λ (d : Demand). record start { demand = d }) (demand_after-append start.demand (accepted_by v) (records_of (verdicts_in calls))),
    )

judged_from : (before : List ℕ) (start end : ReceiverState) (calls : List Call) → AreCalls start calls end → Judges before start calls end
judged_from before start end [] are =
    (record { one_each = refl; each = λ i frame w at-f at-v. absurd (let e = at-f in cc) }, are ∙ ap (λ (d : Demand). record start { demand = d }) (sym (demand_after-nil start.demand)))
judged_from before start end (call ∷ calls) are =
    judged_first before start are.0 end call.frame call.now call.answer calls are.1 (λ more. judged_from more are.0 end calls are.2)

pub are_judged : CallsAreJudged
are_judged start end calls are = judged_from [] start end calls are

-- ---- no forgery

-- where a frame that was accepted stands among the calls
record Found (calls : List Call) (place : ℕ) (frame : List ℕ) (d : Delivery) : Type 0 where
  pub front : List Call
  pub back : List Call
  pub call : Call
  pub is : calls ≡ front ++ call ∷ back
  pub accepts : call.answer ≡ Some (Ok d)
  pub its : call.frame ≡ frame
  pub before : verdicts_in front ≡ take place (verdicts_in calls)

abbrev Finds : List Call → Type 0
Finds calls = (place : ℕ) (frame : List ℕ) (d : Delivery) → slice_get (frames_in calls) place ≡ Some frame → slice_get (verdicts_in calls) place ≡ Some (Ok d) → Found calls place frame d

found_first : (f : List ℕ) (now : ℕ) (answer : Option Verdict) (calls : List Call) → Finds calls → (place : ℕ) (frame : List ℕ) (d : Delivery)
    → slice_get (frames_in (record { frame = f; now = now; answer = answer } ∷ calls)) place ≡ Some frame → slice_get (verdicts_in (record { frame = f; now = now; answer = answer } ∷ calls)) place ≡ Some (Ok d)
    → Found (record { frame = f; now = now; answer = answer } ∷ calls) place frame d
found_first f now None calls rest place frame d at-f at-v =
    let first : Call = record { frame = f; now = now; answer = None } in
    let w = rest place frame d at-f at-v in
    record { front = first ∷ w.front; back = w.back; call = w.call; is = ap (λ l. first ∷ l) w.is; accepts = w.accepts; its = w.its; before = w.before }
found_first f now (Some v) calls rest zero frame d at-f at-v =
    let same-f : f ≡ frame = cc in
    let same-v : v ≡ Ok d = cc in
    record { front = []; back = calls; call = record { frame = f; now = now; answer = Some v }; is = refl; accepts = ap Some same-v; its = same-f; before = refl }
found_first f now (Some v) calls rest (suc place) frame d at-f at-v =
    let first : Call = record { frame = f; now = now; answer = Some v } in
    let w = rest place frame d at-f at-v in
    record { front = first ∷ w.front; back = w.back; call = w.call; is = ap (λ l. first ∷ l) w.is; accepts = w.accepts; its = w.its; before = ap (λ l. v ∷ l) w.before }

found : (calls : List Call) → Finds calls
found [] place frame d at-f at-v = absurd (let e = at-f in cc)
found (call ∷ calls) place frame d at-f at-v = found_first call.frame call.now call.answer calls (found calls) place frame d at-f at-v

pub have_headline : CallsHaveHeadline
have_headline sealer all first start end calls are =
    let attempt = attempt_of start calls in
    frames_headline_of sealer all first attempt (events_from attempt.verdicts) (are_judged start end calls are).0 refl

pub are_attempts : LoopsAreAttempts
are_attempts sealer all first start end calls loop =
    record {
      are = loop.are;
      tries = record { has_key = loop.has_key; judged = (are_judged start end calls loop.calls).0; no_forgery = no_forgery };
      begins = loop.begins;
    }
  where
    no_forgery : (place : ℕ) (frame : List ℕ) (d : Delivery) → slice_get (frames_in calls) place ≡ Some frame → slice_get (verdicts_in calls) place ≡ Some (Ok d)
        → IsFrameOf sealer all frame ⊎ ((k : ℕ) → (demand_at (attempt_of start calls) place).expected ≡ sealer.next + k → slice_get all k ≡ Some (record_of d))
    no_forgery place frame d at-f at-v =
        let w = found calls place frame d at-f at-v in
        let same : expected_after start w.front ≡ (demand_at (attempt_of start calls) place).expected = ap (λ l. (demand_after start.demand (records_of l)).expected) w.before in
        elim (loop.no_forgery w.front w.back w.call d w.is w.accepts) [
          | inl own ↦ inl (subst (λ f. IsFrameOf sealer all f) w.its own)
          | inr numbered ↦ inr (λ k is. numbered k (same ∙ is))
        ]
