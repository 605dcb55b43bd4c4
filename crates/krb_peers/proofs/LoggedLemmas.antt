-- What a verdict leaves of a log that has the frames taken before.
use Rattle.std.proofs.Common.{◌≡◌, ◌≢◌, ℕ, ◌+◌, ◌==◌, ◌||◌, ◌⊎◌, cond, Bool, true, false, List, [], ◌∷◌, ◌++◌, length, map, Ok, Err, inl, inr, refl, sym, ap, ap₂, subst, ◌∙◌, arith, append-nil}
use Rattle.std.specs.List.{list_any}
use Rattle.std.proofs.lemmas.List.Folds.{list_any-append}
use Rattle.std.proofs.lemmas.Grind.{flat_map-append}
use Rattle.std.proofs.lemmas.Bool.Decides.{eqb_tells}
use Rattle.krb_peers.specs.declared.delivery.Delivery.TheVariants as deliveries
use Rattle.krb_peers.specs.declared.log.Event.{Event}
use Rattle.krb_peers.specs.declared.log.Event.TheVariants.{Text, Closed, Refused}
use Rattle.krb_peers.specs.declared.log.Entry.{Entry}
use Rattle.krb_peers.specs.Demand.{Demand}
use Rattle.krb_record.specs.Record.{is_close}
use Rattle.krb_peers.specs.Log.{entries_for, events_of, has_closed, texts_in}
use Rattle.krb_peers.specs.LogState.{LogState}
use Rattle.krb_peers.specs.ReceiverState.{ReceiverState}
use Rattle.krb_peers.specs.Receiver.{receiver_after}
use Rattle.krb_peers.specs.Moments.{moment_at}
use Rattle.krb_peers.specs.Order.{demand_after}
use Rattle.krb_peers.specs.Verdicts.{Verdict, IsVerdict, accepted_by, events_by, records_of}
use Rattle.krb_peers.specs.Verdicts as verdict
use Rattle.krb_peers.specs.Receiver.{verdict_by}
use Rattle.krb_peers.specs.Logged.{entries_by, noted, IsShut}
use Rattle.krb_peers.specs.Logged.{HasLogged, LogsNext}
use Rattle.krb_peers.proofs.OrderLemmas.{demand_after-nil, demand_after-append}
use Rattle.krb_peers.proofs.VerdictLemmas.{AreVerdicts-push}

-- ---- the events of a lane

pub events_of-append : (lane : ℕ) (xs ys : List Entry) → events_of lane (xs ++ ys) ≡ events_of lane xs ++ events_of lane ys
events_of-append lane [] ys = refl
events_of-append lane (x ∷ xs) ys =
    elim (x.lane == lane) as (λ b. cond b (x.event ∷ events_of lane (xs ++ ys)) (events_of lane (xs ++ ys)) ≡ cond b (x.event ∷ events_of lane xs) (events_of lane xs) ++ events_of lane ys) [
      | true ↦ ap (λ l. x.event ∷ l) (events_of-append lane xs ys)
      | false ↦ events_of-append lane xs ys
    ]

same_number : (n : ℕ) → (n == n) ≡ true
same_number n = elim (eqb_tells n n) [ inl here ↦ here.0 | inr off ↦ absurd (off.1 refl) ]

apart : (number lane : ℕ) → number ≢ lane → (number == lane) ≡ false
apart number lane other = elim (eqb_tells number lane) [ inl same ↦ absurd (other same.1) | inr h ↦ h.0 ]

-- those of its own entries are all, and those of another lane's none
pub events_of-own : (lane : ℕ) (events : List Event) → events_of lane (entries_for lane events) ≡ events
events_of-own lane [] = refl
events_of-own lane (event ∷ events) = rw (same_number lane) (ap (λ l. event ∷ l) (events_of-own lane events))

pub events_of-other : (number lane : ℕ) (events : List Event) → number ≢ lane → events_of lane (entries_for number events) ≡ []
events_of-other number lane [] other = refl
events_of-other number lane (event ∷ events) other = rw (apart number lane other) (events_of-other number lane events other)

pub events_of-beside : (number lane : ℕ) (v : Verdict) (entries : List Entry) → number ≢ lane → events_of lane (entries ++ entries_by number v) ≡ events_of lane entries
events_of-beside number lane v entries other =
    events_of-append lane entries (entries_by number v)
    ∙ (ap (λ ys. events_of lane entries ++ ys) (events_of-other number lane (events_by v) other) ∙ append-nil (events_of lane entries))

-- ---- one verdict more

pub records_of-push : (vs : List Verdict) (v : Verdict) → records_of (vs ++ v ∷ []) ≡ records_of vs ++ accepted_by v
records_of-push vs v = flat_map-append accepted_by vs (v ∷ []) ∙ ap (λ l. records_of vs ++ l) (append-nil (accepted_by v))

pub events_of-push : (vs : List Verdict) (v : Verdict) → verdict.events_from (vs ++ v ∷ []) ≡ verdict.events_from vs ++ events_by v
events_of-push vs v = flat_map-append events_by vs (v ∷ []) ∙ ap (λ l. verdict.events_from vs ++ l) (append-nil (events_by v))

-- nothing was taken
pub logged_none : (start : ReceiverState) (nows : List ℕ) (lane : ℕ) (log : LogState) → events_of lane log.entries ≡ [] → HasLogged start nows lane [] log start []
logged_none start nows lane log none = record {
  judged = record { one_each = refl; each = λ i frame v at-f at-v. absurd (let e = at-f in cc) };
  entries = none;
  receiver_is = ap (λ (d : Demand). let r : ReceiverState = record start { demand = d } in r) (sym (demand_after-nil start.demand));
}

pub logged_more : (start : ReceiverState) (nows : List ℕ) (lane : ℕ) (took : List (List ℕ)) (log : LogState) (receiver : ReceiverState) (vs : List Verdict) (frame : List ℕ) (v : Verdict)
    → HasLogged start nows lane took log receiver vs → IsVerdict start.opener (demand_after start.demand (records_of vs)) (moment_at nows (0 + length took)) frame v
    → HasLogged start nows lane (took ++ frame ∷ []) (noted log lane v) (receiver_after receiver v) (vs ++ v ∷ [])
logged_more start nows lane took log receiver vs frame v h is =
    let first = start.demand in
    let demanded : demand_after (demand_after first (records_of vs)) (accepted_by v) ≡ demand_after first (records_of (vs ++ v ∷ [])) =
    demand_after-append first (records_of vs) (accepted_by v) ∙ ap (λ rs. demand_after first rs) (sym (records_of-push vs v)) in
    record {
      judged = AreVerdicts-push start.opener nows first 0 took vs frame v h.judged is;
      entries =
          events_of-append lane log.entries (entries_by lane v)
          ∙ (ap₂ (λ xs ys. xs ++ ys) h.entries (events_of-own lane (events_by v)) ∙ sym (events_of-push vs v));
      receiver_is =
          ap (λ r. receiver_after r v) h.receiver_is
          ∙ ap (λ (d : Demand). let r : ReceiverState = record start { demand = d } in r) demanded;
    }

-- a verdict of another lane changes nothing
pub logged_beside : (start : ReceiverState) (nows : List ℕ) (lane number : ℕ) (took : List (List ℕ)) (log : LogState) (receiver : ReceiverState) (vs : List Verdict) (v : Verdict) → number ≢ lane
    → HasLogged start nows lane took log receiver vs → HasLogged start nows lane took (noted log number v) receiver vs
logged_beside start nows lane number took log receiver vs v other h =
    record { judged = h.judged; entries = events_of-beside number lane v log.entries other ∙ h.entries; receiver_is = h.receiver_is }

-- so a take leaves the next frame
pub logs_next : (receiver : ReceiverState) (log : LogState) (lane now : ℕ) (frame : List ℕ) (receiver-now : ReceiverState) (log-now : LogState) → let v = verdict_by receiver now frame in
    IsVerdict receiver.opener receiver.demand now frame v → receiver-now ≡ receiver_after receiver v → log-now ≡ noted log lane v
    → LogsNext receiver log lane now frame receiver-now log-now
logs_next receiver log lane now frame receiver-now log-now right r l =
    let v = verdict_by receiver now frame in
    record {
      goes_on = λ start nows took vs h at.
          let P : ReceiverState → Type 0 = λ r. IsVerdict r.opener r.demand now frame v in
          let Q : ℕ → Type 0 = λ n. IsVerdict start.opener (demand_after start.demand (records_of vs)) n frame v in
          let count : length took ≡ 0 + length took = omega arith in
          let due : IsVerdict start.opener (demand_after start.demand (records_of vs)) (moment_at nows (0 + length took)) frame v =
          subst Q (at ∙ ap (λ n. moment_at nows n) count) (subst P h.receiver_is right) in
          let R : LogState → Type 0 = λ x. HasLogged start nows lane (took ++ frame ∷ []) x receiver-now (vs ++ v ∷ []) in
          let S : ReceiverState → Type 0 = λ x. HasLogged start nows lane (took ++ frame ∷ []) (noted log lane v) x (vs ++ v ∷ []) in
          subst R (sym l) (subst S (sym r) (logged_more start nows lane took log receiver vs frame v h due));
      others = λ start nows other took its vs apart-is h.
          let R : LogState → Type 0 = λ x. HasLogged start nows other took x its vs in
          subst R (sym l) (logged_beside start nows other lane took log its vs v (λ e. apart-is (sym e)) h);
      entries_stay = λ other apart-is. ap (λ (x : LogState). events_of other x.entries) l ∙ events_of-beside lane other v log.entries (λ e. apart-is (sym e));
    }

-- ---- texts and closes

pub texts_in-append : (xs ys : List Event) → texts_in (xs ++ ys) ≡ texts_in xs ++ texts_in ys
texts_in-append [] ys = refl
texts_in-append (Text t ∷ xs) ys = ap (λ l. t ∷ l) (texts_in-append xs ys)
texts_in-append (Closed ∷ xs) ys = texts_in-append xs ys
texts_in-append (Refused r ∷ xs) ys = texts_in-append xs ys

pub has_closed-append : (xs ys : List Event) → has_closed (xs ++ ys) ≡ (has_closed xs || has_closed ys)
has_closed-append [] ys = refl
has_closed-append (Text t ∷ xs) ys = has_closed-append xs ys
has_closed-append (Closed ∷ xs) ys = refl
has_closed-append (Refused r ∷ xs) ys = has_closed-append xs ys

-- texts have no close among them
pub has_closed-texts : (texts : List (List ℕ)) → has_closed (map Text texts) ≡ false
has_closed-texts [] = refl
has_closed-texts (t ∷ texts) = has_closed-texts texts

pub texts_in-texts : (texts : List (List ℕ)) → texts_in (map Text texts) ≡ texts
texts_in-texts [] = refl
texts_in-texts (t ∷ texts) = ap (λ l. t ∷ l) (texts_in-texts texts)

-- a close among the events of a verdict was accepted
pub closed_one : (v : Verdict) → has_closed (events_by v) ≡ list_any is_close (accepted_by v)
closed_one (Ok (deliveries.Text t)) = refl
closed_one (Ok (deliveries.Batch texts)) = has_closed-texts texts
closed_one (Ok deliveries.Closed) = refl
closed_one (Err refusal) = refl

pub closed_events : (vs : List Verdict) → has_closed (verdict.events_from vs) ≡ list_any is_close (records_of vs)
closed_events [] = refl
closed_events (v ∷ vs) =
    has_closed-append (events_by v) (verdict.events_from vs)
    ∙ (ap₂ (λ a b. a || b) (closed_one v) (closed_events vs) ∙ sym (list_any-append is_close (accepted_by v) (records_of vs)))

pub or_right : (a b : Bool) → b ≡ true → (a || b) ≡ true
or_right true b h = refl
or_right false b h = h

pub or_left : (a b : Bool) → a ≡ true → (a || b) ≡ true
or_left true b h = refl
or_left false b h = absurd (let e = h in cc)

either_true : (a b : Bool) → (a || b) ≡ true → (a ≡ true) ⊎ (b ≡ true)
either_true true b h = inl refl
either_true false b h = inr h

-- demand_after a close that stands in the log, the receiver accepts no more
pub logged_shut : (start : ReceiverState) (nows : List ℕ) (lane : ℕ) (took : List (List ℕ)) (log : LogState) (receiver : ReceiverState) (vs : List Verdict)
    → HasLogged start nows lane took log receiver vs → IsShut log lane receiver
logged_shut start nows lane took log receiver vs h on =
    let accepted : list_any is_close (records_of vs) ≡ true = sym (closed_events vs) ∙ (ap has_closed (sym h.entries) ∙ on) in
    ap (λ (r : ReceiverState). r.demand.closed) h.receiver_is ∙ or_right start.demand.closed (list_any is_close (records_of vs)) accepted

-- and a verdict keeps it so, whatever was taken before
pub shut_same : (log : LogState) (lane : ℕ) (r : ReceiverState) (v : Verdict) → IsShut log lane r → IsShut (noted log lane v) lane (receiver_after r v)
shut_same log lane r v h on =
    let both : (has_closed (events_of lane log.entries) || has_closed (events_by v)) ≡ true =
    sym (ap has_closed (events_of-append lane log.entries (entries_by lane v) ∙ ap (λ ys. events_of lane log.entries ++ ys) (events_of-own lane (events_by v)))
    ∙ has_closed-append (events_of lane log.entries) (events_by v)) ∙ on in
    elim (either_true (has_closed (events_of lane log.entries)) (has_closed (events_by v)) both) [
      | inl before ↦ or_left r.demand.closed (list_any is_close (accepted_by v)) (h before)
      | inr here ↦ or_right r.demand.closed (list_any is_close (accepted_by v)) (sym (closed_one v) ∙ here)
    ]

pub shut_other : (log : LogState) (number lane : ℕ) (r : ReceiverState) (v : Verdict) → number ≢ lane → IsShut log lane r → IsShut (noted log number v) lane r
shut_other log number lane r v other h on = h (ap has_closed (sym (events_of-beside number lane v log.entries other)) ∙ on)
