-- A receiver in agreement can take all that is sealed of a session.
use Rattle.std.proofs.Common.{◌≡◌, ℕ, ◌+◌, ◌<◌, List, length, map, take, Some, sym, ap, subst, ◌∙◌, arith, inl}
use Rattle.std.proofs.lemmas.List.{take-map, length-map, length-take-le}
use Rattle.std.proofs.lemmas.Option.{slice_get_within}
use Rattle.krb_record.specs.declared.record.Record.{Record}
use Rattle.krb_seal.specs.Sealer.{SealerState}
use Rattle.krb_peers.specs.Attempt.{Attempt, demand_at, IsAttempt, DemandsAfter, CanTakeAll}
use Rattle.krb_peers.specs.Order.{demand_after, first_demand}
use Rattle.krb_peers.specs.Demand.{Demand}
use Rattle.krb_peers.specs.ReceiverState.{ReceiverState}
use Rattle.krb_peers.specs.Session.{Sealed, frames_in}
use Rattle.krb_peers.specs.Moments.{moment_at}
use Rattle.krb_peers.specs.Verdicts.{records_of, AreJudged, IsVerdict}
use Rattle.krb_peers.proofs.AnswerLemmas.{image, answer_of, records_of-answers}
use Rattle.krb_peers.proofs.AttemptLemmas.{accepted_here}
use Rattle.krb_peers.proofs.OrderLemmas.{demand_after-nil}

module _ (sealer : SealerState) (all : List Record) (sealed : List Sealed) (receiver : ReceiverState) (nows : List ℕ) (can : CanTakeAll sealer all sealed receiver nows) where
  abbrev pub taking_all : Attempt
  taking_all = record { receiver = receiver; nows = nows; took = frames_in sealed; verdicts = map answer_of all }

  begins : DemandsAfter sealer all 0 receiver.demand
  begins = record { within = omega arith; is = can.demand ∙ sym (demand_after-nil (first_demand sealer.next)) }

  before_is : (i : ℕ) → records_of (take i taking_all.verdicts) ≡ take i all
  before_is i = ap records_of (take-map answer_of i all) ∙ records_of-answers (take i all)

  -- so each is demanded in its turn
  pub demanded_at : (place : ℕ) → place < length sealed → (demand_at taking_all place).expected ≡ sealer.next + place
  demanded_at place lt =
      let first : receiver.demand.expected ≡ sealer.next = ap (λ (d : Demand). d.expected) can.demand in
      omega (arith, first, ap length (before_is place), length-take-le place all (omega (arith, lt, (can.each).one_each)))

  judged : AreJudged receiver nows taking_all.took taking_all.verdicts
  judged = record {
    one_each = length-map all answer_of ∙ (sym (can.each).one_each ∙ sym (length-map sealed (λ (it : Sealed). it.frame)));
    each = λ i frame v at-f at-v.
        let its = image (λ (it : Sealed). it.frame) sealed i frame at-f in
        let it = its.source in
        let here = (can.each).each i it its.at in
        let mine = image answer_of all i v at-v in
        let same : mine.source ≡ it.carried = (let e : Some mine.source ≡ Some it.carried = sym mine.at ∙ here.there in cc) in
        let within : i < length all = slice_get_within all i it.carried here.there in
        let before = before_is i in
        let zero_more : 0 + i ≡ i = omega arith in
        let count : 0 + length (records_of (take i taking_all.verdicts)) ≡ i = omega (arith, ap length before, length-take-le i all (omega (arith, within))) in
        let right = accepted_here sealer all (can.are).close_last receiver can.has_key 0 begins i (moment_at nows i) it (records_of (take i taking_all.verdicts)) here (can.fit i it.carried here.there) (can.agree i it its.at) count before in
        let answer : v ≡ answer_of it.carried = mine.is ∙ ap answer_of same in
        let at_start = demand_after receiver.demand (records_of (take i taking_all.verdicts)) in
        subst (λ p. IsVerdict receiver.opener at_start (moment_at nows p) frame v) (sym zero_more) (
        subst (λ w. IsVerdict receiver.opener at_start (moment_at nows i) frame w) (sym answer) (
        subst (λ f. IsVerdict receiver.opener at_start (moment_at nows i) f (answer_of it.carried)) (sym its.is) right));
  }

  pub is_attempt : IsAttempt sealer all taking_all
  is_attempt = record {
    has_key = can.has_key;
    judged = judged;
    no_forgery = λ place frame d at-f at-v.
        let its = image (λ (it : Sealed). it.frame) sealed place frame at-f in
        inl (record { k = place; it = its.source; sealed = (can.each).each place its.source its.at; is = sym its.is });
  }

  pub all_taken : records_of taking_all.verdicts ≡ all
  all_taken = records_of-answers all
