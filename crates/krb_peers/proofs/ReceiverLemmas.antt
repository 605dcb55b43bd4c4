-- What a receiver answers.
use Rattle.std.proofs.Common.{◌≡◌, ℕ, false, List, Result, Ok, Err, refl, sym, ap, subst, ◌∙◌, inl, inr}
use Rattle.std.specs.Prelude.{◌⊎◌, ◌≤◌, IfErr, IsErrAnd, OnOk}
use Rattle.krb_base.specs.Limits.{last_number}
use Rattle.krb_seal.specs.declared.refusal.Refusal.{Refusal}
use Rattle.krb_seal.specs.declared.refusal.Refusal.TheVariants.{BadRecord, Memory}
use Rattle.krb_seal.specs.Opens.{Opens}
use Rattle.krb_seal.specs.declared.unopened.Unopened.{Unopened}
use Rattle.krb_seal.specs.Unseals.{OrMemory, untold}
use Rattle.krb_record.specs.declared.record.Record.{Record}
use Rattle.krb_record.specs.declared.record.Record.TheVariants as records
use Rattle.krb_peers.specs.declared.delivery.Delivery.{Delivery}
use Rattle.krb_peers.specs.declared.delivery.Delivery.TheVariants.{Text, Batch, Closed}
use Rattle.krb_peers.specs.declared.receiver.Opened.{Opened}
use Rattle.krb_record.specs.Record.{SpellsRecord, kind_of}
use Rattle.krb_peers.specs.ReceiverState.{ReceiverState}
use Rattle.krb_peers.specs.Verdicts.{Fails, Verdict, record_of}
use Rattle.krb_peers.proofs.Parts.{IsNoRecord}
use Rattle.krb_peers.specs.Receiver.{IsJudgement, OpensRecord}
use Rattle.krb_peers.proofs.NumberLemmas.{opens_in_range}

-- a refusal of the opener's, where no close was accepted
pub refused_is : (receiver : ReceiverState) (now : ℕ) (frame : List ℕ) (result : Result (List ℕ) Unopened) → receiver.demand.closed ≡ false
    → OrMemory (Opens receiver.opener receiver.demand.expected now frame) (untold result)
    → IfErr result (λ u. (u.refusal ≡ Memory) ⊎ Fails receiver.opener receiver.demand now frame u.refusal)
refused_is receiver now frame (Ok v) live h = tt
refused_is receiver now frame (Err r) live (inl h) = inl (let e = h in cc)
refused_is receiver now frame (Err r) live (inr h) = inr (inr (live, inl h))

-- no frame opens at a number over the last
pub given_in_range : (receiver : ReceiverState) (now : ℕ) (frame : List ℕ) (result : Result (List ℕ) Unopened)
    → OrMemory (Opens receiver.opener receiver.demand.expected now frame) (untold result) → OnOk result (receiver.demand.expected ≤ last_number)
given_in_range receiver now frame (Ok v) (inl h) = absurd (let e = h in cc)
given_in_range receiver now frame (Ok v) (inr h) = opens_in_range receiver.opener receiver.demand.expected now frame v h
given_in_range receiver now frame (Err r) h = tt

-- such a refusal is the verdict
pub judged_refusal : (receiver : ReceiverState) (now : ℕ) (frame : List ℕ) (r : Refusal) → (r ≡ Memory) ⊎ Fails receiver.opener receiver.demand now frame r → IsJudgement receiver now frame (Err r)
judged_refusal receiver now frame r (inl e) = inl (ap Err e)
judged_refusal receiver now frame r (inr h) = inr h

pub judged_by : (receiver : ReceiverState) (now : ℕ) (frame : List ℕ) (r : Refusal) (answer : Verdict) → (r ≡ Memory) ⊎ Fails receiver.opener receiver.demand now frame r
    → IsErrAnd answer (λ e. e ≡ r) → IsJudgement receiver now frame answer
judged_by receiver now frame r (Ok d) h is = absurd is
judged_by receiver now frame r (Err e) h is = subst (λ (z : Refusal). IsJudgement receiver now frame (Err z)) (sym is) (judged_refusal receiver now frame r h)

-- user data that are no record
pub no_record_is : (receiver : ReceiverState) (now : ℕ) (frame user : List ℕ) → receiver.demand.closed ≡ false → Opens receiver.opener receiver.demand.expected now frame (Ok user) → IsNoRecord user
    → IsJudgement receiver now frame (Err BadRecord)
no_record_is receiver now frame user live opened none = inr (inr (live, inr (user, opened, none, refl)))

-- a record that was opened is the verdict
pub carried_is : (receiver : ReceiverState) (now : ℕ) (frame user : List ℕ) (r : Record) (d : Delivery) → receiver.demand.closed ≡ false
    → Opens receiver.opener receiver.demand.expected now frame (Ok user) → SpellsRecord r user → r ≡ record_of d → IsJudgement receiver now frame (Ok d)
carried_is receiver now frame user r d live opened spelled is = inr (live, (user, opened, rw (← is) spelled))

-- the delivery that a record is
abbrev pub delivery_of : Record → Delivery
delivery_of (records.Text text) = Text text
delivery_of (records.Batch texts) = Batch texts
delivery_of records.Close = Closed

delivery_is : (r : Record) → record_of (delivery_of r) ≡ r
delivery_is (records.Text text) = refl
delivery_is (records.Batch texts) = refl
delivery_is records.Close = refl

-- a record that is left where it was opened
pub opens_record : (receiver : ReceiverState) (now : ℕ) (frame : List ℕ) (opened : Opened) (r : Record) → receiver.demand.closed ≡ false
    → Opens receiver.opener receiver.demand.expected now frame (Ok opened.bytes) → SpellsRecord r opened.bytes → opened.kind ≡ kind_of r → OpensRecord receiver now frame opened
opens_record receiver now frame opened r live opens spelled kind =
    let is : r ≡ record_of (delivery_of r) = sym (delivery_is r) in
    let same : SpellsRecord (record_of (delivery_of r)) opened.bytes = subst (λ (z : Record). SpellsRecord z opened.bytes) is spelled in
    (delivery_of r, (live, (opened.bytes, opens, same)), same, kind ∙ ap kind_of is)
