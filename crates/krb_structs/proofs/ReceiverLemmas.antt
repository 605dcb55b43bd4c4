-- What taking a frame gives, from what a receiver's opening it gives.
use Rattle.std.proofs.Common.{◌≡◌, ℕ, ◌+◌, ◌-◌, ◌≤◌, List, ◌∷◌, length, drop, Result, Ok, Err, Some, refl, sym, ap, subst, ◌∙◌, inl, inr, arith, length-drop}
use Rattle.std.specs.Prelude.{IsErrAnd}
use Rattle.krb_seal.specs.declared.refusal.Refusal.{Refusal}
use Rattle.krb_seal.specs.declared.refusal.Refusal.TheVariants.{Memory}
use Rattle.krb_record.specs.declared.record.Record.{Record}
use Rattle.krb_record.specs.declared.record.Record.TheVariants.{Text, Batch, Close}
use Rattle.krb_record.specs.Record.{SpellsRecord, bytes_of, first_byte_of, kind_of, number_of}
use Rattle.krb_peers.specs.declared.receiver.Opened.{Opened}
use Rattle.krb_peers.specs.ReceiverState.{ReceiverState}
use Rattle.krb_peers.specs.Receiver.{IsJudgement, OpensRecord, TakesMemory, receiver_after}
use Rattle.krb_peers.specs.Verdicts.{IsVerdict, record_of}
use Rattle.krb_structs.specs.declared.fault.Fault.{Fault}
use Rattle.krb_structs.specs.declared.fault.Fault.TheVariants.{Refused, Room}
use Rattle.krb_structs.specs.declared.moment.KrbMoment.{KrbMoment}
use Rattle.krb_structs.specs.Fault.{IsDone, Needs, answer_of, fault_code}
use Rattle.krb_structs.specs.Moment.{IsTimed, micros_of}
use Rattle.krb_structs.specs.Reasons.{TakeAnswer}
use Rattle.krb_structs.specs.Record.{Accepts, IsRecordOf}
use Rattle.krb_structs.proofs.Answering.{answer_is}
use Rattle.krb_structs.proofs.Refusals.{is_memory}

-- the receiver's refusal, or out of memory
pub take_refused : {X : Type 0} (s : ReceiverState) (now : ℕ) (at : KrbMoment) (frame : List ℕ) (room : ℕ) (r : Refusal) (result : Result X Fault) → IsTimed at → now ≡ micros_of at
    → IsJudgement s now frame (Err r) → (r ≡ Memory → TakesMemory s now frame) → IsErrAnd result (λ f. f ≡ Refused r) → TakeAnswer (Some s) at frame room (answer_of result)
take_refused s now at frame room r result timed is j memory p =
    subst (λ (code : ℕ). TakeAnswer (Some s) at frame room code) (sym (answer_is result (Refused r) p)) (why j)
  where
    why : IsJudgement s now frame (Err r) → TakeAnswer (Some s) at frame room (fault_code (Refused r))
    why (inl e) = let same : r ≡ Memory = is_memory r e in inr (timed.0, inr (timed.1, inl (ap (λ (x : Refusal). fault_code (Refused x)) same, subst (λ (m : ℕ). TakesMemory s m frame) is (memory same))))
    why (inr v) = inr (timed.0, inr (timed.1, inr (Err r, subst (λ (m : ℕ). IsVerdict s.opener s.demand m frame (Err r)) is v, refl)))

-- the bytes of a record after its first
pub first_of : (r : Record) (bytes : List ℕ) → SpellsRecord r bytes → bytes ≡ first_byte_of (kind_of r) ∷ drop 1 bytes
first_of (Text text) bytes s = s.1 ∙ ap (λ (z : List ℕ). 0x44 ∷ drop 1 z) (sym s.1)
first_of (Batch texts) bytes s = s.1 ∙ ap (λ (z : List ℕ). 0x42 ∷ drop 1 z) (sym s.1)
first_of Close bytes s = s.1 ∙ ap (λ (z : List ℕ). 0x43 ∷ drop 1 z) (sym s.1)

pub accepts_of : (s : ReceiverState) (now : ℕ) (frame : List ℕ) (opened : Opened) (body : List ℕ) (new : ReceiverState) (o : OpensRecord s now frame opened) → body ≡ drop 1 opened.bytes
    → new ≡ receiver_after s (Ok o.0) → Accepts s now frame (number_of opened.kind) body new
accepts_of s now frame opened body new o same next =
    let r : Record = record_of o.0 in
    let is : IsRecordOf (number_of opened.kind) body r opened.bytes = record {
      spelt = o.2;
      kind_is = ap number_of o.3;
      body_is = first_of r opened.bytes o.2 ∙ ap (λ (z : List ℕ). first_byte_of (kind_of r) ∷ z) (sym same);
    } in
    (o.0, o.1, (opened.bytes, is), next)

-- its body has room, or needs more
pub take_answer : (s : ReceiverState) (now : ℕ) (at : KrbMoment) (frame : List ℕ) (room : ℕ) (opened : Opened) (body : List ℕ) (code : ℕ) → IsTimed at → now ≡ micros_of at → OpensRecord s now frame opened
    → body ≡ drop 1 opened.bytes → Needs (length body ≤ room) Room IsDone code → TakeAnswer (Some s) at frame room code
take_answer s now at frame room opened body code timed is o same h =
    inr (timed.0, inr (timed.1, inr (Ok o.0, subst (λ (m : ℕ). IsVerdict s.opener s.demand m frame (Ok o.0)) is o.1, by_room h)))
  where
    by_room : Needs (length body ≤ room) Room IsDone code → Needs (length (bytes_of (record_of o.0)) ≤ 1 + room) Room IsDone code
    by_room (inl (unmet, e)) =
        let long : length body ≡ length (bytes_of (record_of o.0)) - 1 = ap length (same ∙ ap (drop 1) o.2.1) ∙ length-drop 1 (bytes_of (record_of o.0)) in
        inl (λ fits. unmet (omega arith), e)
    by_room (inr (fits, e)) =
        let long : length body ≡ length (bytes_of (record_of o.0)) - 1 = ap length (same ∙ ap (drop 1) o.2.1) ∙ length-drop 1 (bytes_of (record_of o.0)) in
        inr (omega arith, e)
