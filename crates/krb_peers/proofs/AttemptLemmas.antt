-- What a receiver accepts that begins after the first records of a session, whatever it takes.
use Rattle.std.proofs.Common.{◌≡◌, ℕ, zero, suc, ◌+◌, ◌<◌, ◌≤◌, true, false, List, [], ◌∷◌, ◌++◌, length, take, drop, get_or, slice_get, Some, Ok, Err, refl, sym, ap, subst, ◌∙◌, arith, length-append, append-nil, append_assoc, inl, inr}
use Rattle.std.specs.Prelude.{All, IsOk}
use Rattle.std.specs.List.{list_any, flat_map}
use Rattle.std.proofs.lemmas.Bool.{cases_lt}
use Rattle.std.proofs.lemmas.List.{take_more, length-take-le, length-drop, take-append-drop}
use Rattle.std.proofs.lemmas.List.Concat.{flat_map-append}
use Rattle.std.proofs.lemmas.Option.{slice_get-get_or, slice_get_within}
use Rattle.krb_base.specs.Prefix.{IsPrefix}
use Rattle.krb_seal.specs.Laws.{Agree}
use Rattle.krb_seal.specs.Opens.{OpenerState, Opens, opener_of}
use Rattle.krb_seal.specs.Seals.{Seals}
use Rattle.krb_seal.specs.Sealer.{SealerState}
use Rattle.krb_seal.proofs.SealedFrames.{nowhere_else, at_its_number}
use Rattle.krb_record.specs.declared.record.Record.{Record}
use Rattle.krb_record.specs.declared.record.Record.TheVariants as records
use Rattle.krb_record.specs.Record.{FitsLimits, SpellsRecord, bytes_of, texts_of, is_close}
use Rattle.krb_peers.specs.declared.delivery.Delivery.{Delivery}
use Rattle.krb_peers.specs.Attempt.{Attempt, HasKey, DemandsAfter, IsAttemptAfter, AgreesWhereDemanded, TakesInTurn}
use Rattle.krb_peers.specs.Demand.{Demand}
use Rattle.krb_peers.specs.ReceiverState.{ReceiverState}
use Rattle.krb_peers.specs.Order.{demand_after, first_demand}
use Rattle.krb_peers.specs.Session.{FitLimits, Sealed, IsSealed, IsFrameOf}
use Rattle.krb_peers.proofs.Parts.{CloseIsLastOf}
use Rattle.krb_peers.specs.Moments.{moment_at}
use Rattle.krb_peers.specs.Verdicts.{Verdict, accepted_by, record_of, records_of, delivered, IsVerdict}
use Rattle.krb_peers.proofs.OrderLemmas.{demand_after-append}
use Rattle.krb_peers.proofs.VerdictLemmas.{unique_verdict}
use Rattle.krb_peers.proofs.AnswerLemmas.{answer_of, same_record, records_from, delivered_texts}
use Rattle.krb_peers.proofs.FrameLemmas.{fewer, none_more, front_is, no_rest, closed_whole, quiet_before}

-- ---- as many are accepted as there are verdicts, or fewer

few_accepted : (vs : List Verdict) → length (records_of vs) ≤ length vs
few_accepted [] = omega arith
few_accepted (Ok d ∷ vs) = omega (arith, few_accepted vs)
few_accepted (Err refusal ∷ vs) = omega (arith, few_accepted vs)

all_ok : (vs : List Verdict) → length (records_of vs) ≡ length vs → All IsOk vs
all_ok [] same k d h = absurd (omega arith)
all_ok (Ok d ∷ vs) same zero e h = refl
all_ok (Ok d ∷ vs) same (suc k) e h = all_ok vs (omega (arith, same)) k e (omega arith)
all_ok (Err refusal ∷ vs) same k e h = absurd (omega (arith, same, few_accepted vs))

-- ---- what is demanded after the records accepted before and here

module _ (sealer : SealerState) (all : List Record) (first : ℕ) (start : Demand) (begins : DemandsAfter sealer all first start) where
  demanded_after : (rs : List Record) → demand_after start rs ≡ demand_after (first_demand sealer.next) (take first all ++ rs)
  demanded_after rs = ap (λ d. demand_after d rs) begins.is ∙ demand_after-append (first_demand sealer.next) (take first all) rs

  pub number_after : (rs : List Record) → (demand_after start rs).expected ≡ sealer.next + (first + length rs)
  number_after rs =
      let e : (demand_after start rs).expected ≡ (demand_after (first_demand sealer.next) (take first all ++ rs)).expected = ap (λ (d : Demand). d.expected) (demanded_after rs) in
      omega (arith, e, length-append (take first all) rs, length-take-le first all begins.within)

-- ---- a frame is accepted in its turn, where both ends agree

module _ (sealer : SealerState) (all : List Record) (close_last : CloseIsLastOf all) (receiver : ReceiverState) (has_key : HasKey sealer receiver) (first : ℕ) (begins : DemandsAfter sealer all first receiver.demand) where
  pub accepted_here : (k now : ℕ) (it : Sealed) (rs : List Record) → IsSealed sealer all k it → FitsLimits it.carried → Agree sealer.session receiver.opener.expect it.at now → first + length rs ≡ k → take first all ++ rs ≡ take k all
      → IsVerdict receiver.opener (demand_after receiver.demand rs) now it.frame (answer_of it.carried)
  accepted_here k now it rs sealed fits agree count before =
      let r = it.carried in
      let opener = receiver.opener in
      let start = receiver.demand in
      let seals = sealed.seals in
      let lt : k < length all = slice_get_within all k r sealed.there in
      let closes : (demand_after start rs).closed ≡ list_any is_close (take k all) = ap (λ (d : Demand). d.closed) (demanded_after sealer all first start begins rs) ∙ ap (λ l. list_any is_close l) before in
      let quiet : (demand_after start rs).closed ≡ false = closes ∙ quiet_before all close_last k lt in
      let as_sealer = at_its_number sealer.etype sealer.key sealer.session opener.expect (sealer.next + k) it.at now (bytes_of r) seals.confounder it.frame seals.seals agree in
      let its : (demand_after start rs).expected ≡ sealer.next + k = number_after sealer all first start begins rs ∙ ap (λ n. sealer.next + n) count in
      let opened : Opens opener (demand_after start rs).expected now it.frame (Ok (bytes_of r)) = rw (has_key.etype, has_key.key, its) as_sealer in
      (quiet, (bytes_of r, opened, rw (same_record r) (fits, refl)))

-- ---- an attempt

module _ (sealer : SealerState) (all : List Record) (first : ℕ) (attempt : Attempt) (s : IsAttemptAfter sealer all first attempt) where
  abbrev opener : OpenerState
  opener = attempt.receiver.opener

  abbrev start : Demand
  start = attempt.receiver.demand

  abbrev next : Demand
  next = first_demand sealer.next

  abbrev took : List (List ℕ)
  took = attempt.took

  abbrev vs : List Verdict
  vs = attempt.verdicts

  abbrev now : ℕ → ℕ
  now p = moment_at attempt.nows p

  -- how many records were accepted before a place
  abbrev so_far : ℕ → ℕ
  so_far i = length (records_of (take i vs))

  demanded : (rs : List Record) → demand_after start rs ≡ demand_after next (take first all ++ rs)
  demanded rs = demanded_after sealer all first start (s.begins) rs

  pub number : (rs : List Record) → (demand_after start rs).expected ≡ sealer.next + (first + length rs)
  number rs = number_after sealer all first start (s.begins) rs

  -- ---- each accepted record is the one of its number

  -- a frame that was sealed carries its own record, and no other number opens it
  own_record : (c now : ℕ) (frame user : List ℕ) (r : Record) → IsFrameOf sealer all frame → Opens opener (sealer.next + c) now frame (Ok user) → SpellsRecord r user → slice_get all c ≡ Some r
  own_record c now frame user r own opened spelled =
      let it = own.it in
      let seals = (own.sealed).seals in
      let sealed_so : Seals sealer.etype sealer.key sealer.session (sealer.next + own.k) (bytes_of it.carried) it.at seals.confounder frame =
      subst (λ f. Seals sealer.etype sealer.key sealer.session (sealer.next + own.k) (bytes_of it.carried) it.at seals.confounder f) own.is seals.seals in
      let as_sealer : Opens (opener_of sealer.etype sealer.key opener.expect) (sealer.next + c) now frame (Ok user) = rw (← (s.tries).has_key.etype, ← (s.tries).has_key.key) opened in
      let w = nowhere_else sealer.etype sealer.key sealer.session opener.expect (sealer.next + own.k) it.at now (sealer.next + c) (bytes_of it.carried) seals.confounder frame user sealed_so as_sealer in
      let place : own.k ≡ c = omega (arith, w.0) in
      let same : it.carried ≡ r = (s.are).readable own.k it.carried (own.sealed).there r (subst (λ u. SpellsRecord r u) w.1 spelled) in
      ap (λ n. slice_get all n) (sym place) ∙ ((own.sealed).there ∙ ap (λ x. Some x) same)

  each_record : (i : ℕ) (d : Delivery) → slice_get vs i ≡ Some (Ok d) → slice_get all (first + so_far i) ≡ Some (record_of d)
  each_record i d at =
      let within : i < length took = omega (arith, slice_get_within vs i (Ok d) at, (s.tries).judged.one_each) in
      let frame = get_or took i [] in
      let at-f : slice_get took i ≡ Some frame = slice_get-get_or took i [] within in
      let carries = (s.tries).judged.each i frame (Ok d) at-f at in
      let c = first + so_far i in
      elim ((s.tries).no_forgery i frame d at-f at) [
        | inl own ↦
            let here : Opens opener (sealer.next + c) (now (0 + i)) frame (Ok carries.1.0) =
            subst (λ n. Opens opener n (now (0 + i)) frame (Ok carries.1.0)) (number (records_of (take i vs))) carries.1.1 in
            own_record c (now (0 + i)) frame (carries.1.0) (record_of d) own here carries.1.2
        | inr numbered ↦ numbered c (number (records_of (take i vs)))
      ]

  pub accepted_prefix : IsPrefix (records_of vs) (drop first all)
  accepted_prefix = records_from all vs first each_record

  -- ---- a frame in its turn is accepted, or was before

  -- with a place more, what its verdict accepts is more
  one_more : (p : ℕ) → p < length vs → records_of (take (suc p) vs) ≡ records_of (take p vs) ++ accepted_by (get_or vs p (answer_of records.Close))
  one_more p lt =
      let more : suc p ≡ p + 1 = omega arith in
      let v = get_or vs p (answer_of records.Close) in
      ap (λ i. records_of (take i vs)) more
      ∙ (ap records_of (take_more vs p (answer_of records.Close) lt)
      ∙ (flat_map-append accepted_by (take p vs) (v ∷ []) ∙ ap (λ l. records_of (take p vs) ++ l) (append-nil (accepted_by v))))

  -- what was accepted before a place, where it is no more than the records before k
  front_here : (p k : ℕ) → first + so_far p ≡ k → take first all ++ records_of (take p vs) ≡ take k all
  front_here p k count =
      let left = accepted_prefix.0 in
      let joined : records_of (take p vs) ++ records_of (drop p vs) ≡ records_of vs =
      sym (flat_map-append accepted_by (take p vs) (drop p vs)) ∙ ap records_of (take-append-drop p vs) in
      let rest = records_of (drop p vs) ++ left in
      let after : drop first all ≡ records_of (take p vs) ++ rest =
      accepted_prefix.1 ∙ (ap (λ l. l ++ left) (sym joined) ∙ append_assoc (records_of (take p vs)) (records_of (drop p vs)) left) in
      let whole : all ≡ (take first all ++ records_of (take p vs)) ++ rest =
      sym (take-append-drop first all) ∙ (ap (λ l. take first all ++ l) after ∙ sym (append_assoc (take first all) (records_of (take p vs)) rest)) in
      let long : length (take first all ++ records_of (take p vs)) ≡ k = omega (arith, length-append (take first all) (records_of (take p vs)), length-take-le first all (s.begins).within, count) in
      front_is (take first all ++ records_of (take p vs)) rest all k whole long

  -- after it, more than k records were accepted
  pub past_it : (k p : ℕ) (it : Sealed) → IsSealed sealer all k it → FitsLimits it.carried → slice_get took p ≡ Some it.frame
      → AgreesWhereDemanded sealer attempt k p it.at → k ≤ first + so_far p → k < first + so_far (suc p)
  past_it k p it sealed fits at-f agree reached =
      let lt : p < length vs = omega (arith, slice_get_within took p it.frame at-f, (s.tries).judged.one_each) in
      let v = get_or vs p (answer_of records.Close) in
      let more : so_far (suc p) ≡ so_far p + length (accepted_by v) = ap length (one_more p lt) ∙ length-append (records_of (take p vs)) (accepted_by v) in
      elim (cases_lt k (first + so_far p)) [
        | inl below ↦ omega (arith, below, more)
        | inr not_yet ↦
            let count : first + so_far p ≡ k = omega (arith, reached, not_yet) in
            let zero_more : 0 + p ≡ p = omega arith in
            let here : IsVerdict opener (demand_after start (records_of (take p vs))) (now p) it.frame v =
            rw zero_more at ((s.tries).judged.each p it.frame v at-f (slice_get-get_or vs p (answer_of records.Close) lt)) in
            let demanded_it = number (records_of (take p vs)) ∙ ap (λ n. sealer.next + n) count in
            let right = accepted_here sealer all (s.are).close_last attempt.receiver (s.tries).has_key first (s.begins) k (now p) it (records_of (take p vs)) sealed fits (agree demanded_it) count (front_here p k count) in
            let same : v ≡ answer_of it.carried =
            unique_verdict opener (demand_after start (records_of (take p vs))) (now p) it.frame v (answer_of it.carried) here right in
            let one : length (accepted_by v) ≡ 1 = ap (λ x. length (accepted_by x)) same in
            omega (arith, count, more, one)
      ]

  -- what is accepted here and before are the first records
  pub accepted_together : take first all ++ records_of vs ≡ take (first + length (records_of vs)) all
  accepted_together =
      let left = accepted_prefix.0 in
      let whole : all ≡ (take first all ++ records_of vs) ++ left =
      sym (take-append-drop first all) ∙ (ap (λ l. take first all ++ l) accepted_prefix.1 ∙ sym (append_assoc (take first all) (records_of vs) left)) in
      front_is (take first all ++ records_of vs) left all (first + length (records_of vs)) whole (omega (arith, length-append (take first all) (records_of vs), length-take-le first all (s.begins).within))

  pub accepted_within : first + length (records_of vs) ≤ length all
  accepted_within =
      omega (arith, ap length (sym (take-append-drop first all)), length-append (take first all) (drop first all), ap length accepted_prefix.1, length-append (records_of vs) accepted_prefix.0, length-take-le first all (s.begins).within)

  -- ---- frames that come in turn

  pub past_each : FitLimits all → (end : ℕ) (turn : TakesInTurn sealer all first end attempt) (k : ℕ) → first ≤ k → k < end → k < first + so_far (suc (turn.place k))
  past_each fits end turn k from lt = by_place k from lt
    where
      here : (k : ℕ) → first ≤ k → k < end → k ≤ first + so_far (turn.place k) → k < first + so_far (suc (turn.place k))
      here k from lt reached =
          let sealed = turn.sealed k from lt in
          past_it k (turn.place k) (turn.its k) sealed (fits k (turn.its k).carried sealed.there) (turn.stands k from lt) (turn.agree k from lt) reached

      by_place : (k : ℕ) → first ≤ k → k < end → k < first + so_far (suc (turn.place k))
      by_place zero from lt = here zero from lt (omega arith)
      by_place (suc k) from lt =
          elim (cases_lt k first) [
            | inl below ↦ here (suc k) from lt (omega (arith, below, from))
            | inr later ↦
                let rises = turn.rises k later lt in
                let before = by_place k later (omega (arith, lt)) in
                here (suc k) from lt (omega (arith, before, fewer accepted_by vs (suc (turn.place k)) (turn.place (suc k)) (omega (arith, rises))))
          ]

  -- so many are accepted at least
  pub accepts_until : FitLimits all → (end : ℕ) → TakesInTurn sealer all first end attempt → end ≤ first + length (records_of vs)
  accepts_until fits zero turn = omega arith
  accepts_until fits (suc k) turn =
      elim (cases_lt k first) [
        | inl below ↦ omega (arith, below)
        | inr from ↦
            let past = past_each fits (suc k) turn k from (omega arith) in
            omega (arith, past, none_more accepted_by vs (suc (turn.place k)))
      ]

  -- and all of the rest, where all of it comes in turn
  pub accepts_rest : FitLimits all → TakesInTurn sealer all first (length all) attempt → records_of vs ≡ drop first all
  accepts_rest fits turn =
      no_rest (records_of vs) accepted_prefix.0 (drop first all) accepted_prefix.1 (omega (arith, accepts_until fits (length all) turn, length-drop first all))

  -- ---- what is delivered together with what was before

  delivered_together : flat_map texts_of (take first all) ++ delivered vs ≡ flat_map texts_of (take (first + length (records_of vs)) all)
  delivered_together =
      ap (λ l. flat_map texts_of (take first all) ++ l) (delivered_texts vs)
      ∙ (sym (flat_map-append texts_of (take first all) (records_of vs)) ∙ ap (λ l. flat_map texts_of l) accepted_together)

  pub texts_prefix : IsPrefix (flat_map texts_of (take first all) ++ delivered vs) (flat_map texts_of all)
  texts_prefix =
      let n = first + length (records_of vs) in (
        flat_map texts_of (drop n all),
        ap (λ l. flat_map texts_of l) (sym (take-append-drop n all))
            ∙ (flat_map-append texts_of (take n all) (drop n all) ∙ ap (λ l. l ++ flat_map texts_of (drop n all)) (sym delivered_together)),
      )

  closed_is : (demand_after start (records_of vs)).closed ≡ list_any is_close (take (first + length (records_of vs)) all)
  closed_is = ap (λ (d : Demand). d.closed) (demanded (records_of vs)) ∙ ap (λ l. list_any is_close l) accepted_together

  pub texts_whole : (demand_after start (records_of vs)).closed ≡ true → flat_map texts_of (take first all) ++ delivered vs ≡ flat_map texts_of all
  texts_whole closed =
      let n = first + length (records_of vs) in
      delivered_together ∙ ap (λ l. flat_map texts_of l) (closed_whole all (s.are).close_last n (sym closed_is ∙ closed))

  pub rest_whole : records_of vs ≡ drop first all → (flat_map texts_of (take first all) ++ delivered vs ≡ flat_map texts_of all) × ((demand_after start (records_of vs)).closed ≡ list_any is_close all)
  rest_whole is =
      let joined : take first all ++ records_of vs ≡ all = ap (λ l. take first all ++ l) is ∙ take-append-drop first all in
      let same : take (first + length (records_of vs)) all ≡ all = sym accepted_together ∙ joined in
      (delivered_together ∙ ap (λ l. flat_map texts_of l) same, closed_is ∙ ap (λ l. list_any is_close l) same)

  -- ---- where nothing else comes

  pub all_accepted : FitLimits all → TakesInTurn sealer all first (first + length took) attempt → length (records_of vs) ≡ length took
  all_accepted fits turn =
      omega (arith, accepts_until fits (first + length took) turn, few_accepted vs, (s.tries).judged.one_each)

  pub first_accepted : length (records_of vs) ≡ length took → records_of vs ≡ take (length took) (drop first all)
  first_accepted count = front_is (records_of vs) accepted_prefix.0 (drop first all) (length took) accepted_prefix.1 count

  pub none_refused : length (records_of vs) ≡ length took → All IsOk vs
  none_refused count = all_ok vs (omega (arith, count, (s.tries).judged.one_each))
