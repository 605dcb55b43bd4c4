-- What a verdict leaves of a receiver and of a log.
use Rattle.std.proofs.Common.{◌≡◌, ℕ, Bool, List, Ok, Err, sym, ap, ◌∙◌}
use Rattle.krb_base.specs.Bytes.{AreBytes}
use Rattle.krb_seal.specs.declared.refusal.Refusal.{Refusal}
use Rattle.krb_peers.specs.declared.delivery.Delivery.{Delivery}
use Rattle.krb_peers.specs.Demand.{Demand}
use Rattle.krb_peers.specs.LogState.{LogState}
use Rattle.krb_peers.specs.ReceiverState.{ReceiverState}
use Rattle.krb_peers.specs.Receiver.{verdict_by, receiver_after, advanced}
use Rattle.krb_record.specs.Record.{is_close}
use Rattle.krb_peers.specs.Verdicts.{Verdict, IsVerdict, record_of}
use Rattle.krb_peers.specs.Logged.{noted}
use Rattle.krb_peers.proofs.OrderLemmas.{demand_after-nil, demand_one}
use Rattle.krb_peers.proofs.VerdictLemmas.{one_verdict, right_verdict}

-- an answer that is a verdict is the one
pub answer_is : (receiver : ReceiverState) (now : ℕ) (frame : List ℕ) (v : Verdict) → AreBytes frame → IsVerdict receiver.opener receiver.demand now frame v → v ≡ verdict_by receiver now frame
unfolding verdict_by
answer_is receiver now frame v bytes h = one_verdict receiver.opener receiver.demand now frame v bytes h

-- and it is a verdict
pub verdict_is : (receiver : ReceiverState) (now : ℕ) (frame : List ℕ) → AreBytes frame → IsVerdict receiver.opener receiver.demand now frame (verdict_by receiver now frame)
unfolding verdict_by
verdict_is receiver now frame bytes = right_verdict receiver.opener receiver.demand now frame bytes

-- what an answer leaves
pub record IsReceived (receiver receiver-now : ReceiverState) (log log-now : LogState) (lane now : ℕ) (frame : List ℕ) : Type 0 where
  pub receiver_is : receiver-now ≡ receiver_after receiver (verdict_by receiver now frame)
  pub log_is : log-now ≡ noted log lane (verdict_by receiver now frame)

module _ (receiver : ReceiverState) (log : LogState) (lane now : ℕ) (frame : List ℕ) (bytes : AreBytes frame) where
  received_by : (v : Verdict) (receiver-now : ReceiverState) (log-now : LogState) → v ≡ verdict_by receiver now frame → receiver-now ≡ receiver_after receiver v → log-now ≡ noted log lane v
      → IsReceived receiver receiver-now log log-now lane now frame
  received_by v receiver-now log-now is r l = record {
    receiver_is = r ∙ ap (λ w. receiver_after receiver w) is;
    log_is = l ∙ ap (λ w. noted log lane w) is;
  }

  -- a delivery moves the receiver on
  pub received : (d : Delivery) (close : Bool) (receiver-now : ReceiverState) (log-now : LogState) → IsVerdict receiver.opener receiver.demand now frame (Ok d) → close ≡ is_close (record_of d)
      → receiver-now ≡ advanced receiver close → log-now ≡ noted log lane (Ok d) → IsReceived receiver receiver-now log log-now lane now frame
  received d close receiver-now log-now h closes r l =
      let is = answer_is receiver now frame (Ok d) bytes h in
      let next : advanced receiver close ≡ receiver_after receiver (Ok d) =
      ap (λ b. advanced receiver b) closes ∙ ap (λ (demand : Demand). let z : ReceiverState = record receiver { demand = demand } in z) (demand_one receiver.demand (record_of d) h.0) in
      received_by (Ok d) receiver-now log-now is (r ∙ next) l

  -- a refusal leaves it as it was
  pub received_refusal : (refusal : Refusal) (log-now : LogState) → IsVerdict receiver.opener receiver.demand now frame (Err refusal)
      → log-now ≡ noted log lane (Err refusal) → IsReceived receiver receiver log log-now lane now frame
  received_refusal refusal log-now h l =
      let is = answer_is receiver now frame (Err refusal) bytes h in
      received_by (Err refusal) receiver log-now is (ap (λ (d : Demand). let z : ReceiverState = record { opener = receiver.opener; demand = d } in z) (sym (demand_after-nil receiver.demand))) l
