-- A lane whose carrier brings each frame in its turn accepts all, whatever stands between.
use Rattle.std.proofs.Common.{◌≡◌, ℕ, zero, suc, ◌+◌, ◌<◌, ◌≤◌, if◌then◌else◌, Bool, true, false, List, [], ◌∷◌, ◌++◌, length, take, drop, get_or, slice_get, Option, Some, None, refl, sym, ap, ap₂, ◌∙◌, arith, length-append, append_assoc, inl, inr}
use Rattle.std.specs.Prelude.{All, IsOk}
use Rattle.std.specs.List.{list_any, flat_map}
use Rattle.std.proofs.lemmas.Bool.{cases_lt, ltb-true}
use Rattle.std.proofs.lemmas.List.{length-map, take-append-drop}
use Rattle.std.proofs.lemmas.List.Concat.{flat_map-append}
use Rattle.std.proofs.lemmas.Option.{slice_get-get_or, slice_get_within}
use Rattle.krb_record.specs.declared.record.Record.{Record}
use Rattle.krb_record.specs.declared.record.Record.TheVariants as records
use Rattle.krb_record.specs.Record.{texts_of, is_close, record_for}
use Rattle.krb_record.specs.declared.plan.Emit.{Emit}
use Rattle.krb_record.specs.declared.plan.Emit.TheVariants.{Frame}
use Rattle.krb_peers.specs.Attempt.{DemandsAfter, IsAttemptAfter, TakesInTurn}
use Rattle.krb_peers.specs.Ends.{Ends}
use Rattle.krb_peers.specs.Order.{demand_after, first_demand}
use Rattle.krb_peers.specs.Plan.{is_good, is_good_emission, is_planned, emission, emissions, wire, frame_at}
use Rattle.krb_peers.specs.Planned.{attempt_of, is_altered, is_altered_one, altered_at, AlteredAreHonest, StandsAt, ComeInTurn, Carried, AcceptInOrder, GoesOnAfter, AlteredAreHonestAfter, in_order, IsInOrder, Undisturbed}
use Rattle.krb_peers.specs.Planned.{DeliversPrefix, DeliversAll, DeliversWhole}
use Rattle.krb_peers.specs.Run.{Run, IsRun}
use Rattle.krb_peers.specs.Sender.{Source, IsWithinLimits, sealed_groups, records_for, AreFrames}
use Rattle.krb_peers.specs.Sender as sender
use Rattle.krb_peers.specs.Session.{Sealed}
use Rattle.krb_peers.specs.Verdicts.{Verdict, accepted_by, records_of, events_from}
use Rattle.krb_peers.specs.Wire.{IsBad, TakesAll}
use Rattle.krb_peers.proofs.AnswerLemmas.{image, delivered_texts}
use Rattle.krb_peers.proofs.AttemptLemmas.{accepted_prefix, past_each, accepts_rest, all_accepted, first_accepted, none_refused}
use Rattle.krb_peers.proofs.FrameLemmas.{front_is}
use Rattle.krb_peers.proofs.HeadlineLemmas.{delivered_prefix}
use Rattle.krb_peers.proofs.ListLemmas.{slice_get-take, all_pass, length-take}
use Rattle.krb_peers.proofs.LoggedLemmas.{closed_events, or_right}
use Rattle.krb_peers.proofs.SourceLemmas.{texts_of_records, fit_limits, sealed_of, one_of, among, on_wire, run_attempt, paired_attempt}
use Rattle.krb_peers.proofs.UndisturbedLemmas.{length-in_order, in_order-at, good_in_order, none_longer}

-- ---- the wire

-- what is taken where a frame stands is that frame
stands_by : (frames : List (List ℕ)) (plan : List Emit) (k p : ℕ) (frame : List ℕ) (good : Bool) → is_good frames plan ≡ good → slice_get plan p ≡ Some (Frame k)
    → slice_get (if good then emissions frames plan else []) p ≡ Some frame → slice_get frames k ≡ Some frame
stands_by frames plan k p frame true is at h =
    let w = image (emission frames) plan p frame h in
    let its : w.source ≡ Frame k = (let e : Some w.source ≡ Some (Frame k) = sym w.at ∙ at in cc) in
    let good : is_good_emission frames (Frame k) ≡ true = all_pass (is_good_emission frames) plan p (Frame k) is at in
    let from : frame ≡ frame_at frames k = w.is ∙ ap (λ e. emission frames e) its in
    slice_get-get_or frames k [] (ltb-true k (length frames) good) ∙ ap (λ f. Some f) (sym from)
stands_by frames plan k p frame false is at h = absurd (let e = h in cc)

stands_there : (frames : List (List ℕ)) (plan : Option (List Emit)) (k p : ℕ) (frame : List ℕ) → StandsAt plan k p → slice_get (wire frames plan) p ≡ Some frame → slice_get frames k ≡ Some frame
stands_there frames None k p frame at h = ap (λ i. slice_get frames i) (sym at) ∙ h
stands_there frames (Some plan) k p frame at h = stands_by frames plan k p frame (is_good frames plan) refl at h

-- a wire that isn't bad goes as far as its frames stand
stands_within : (frames : List (List ℕ)) (plan : Option (List Emit)) (k p : ℕ) → StandsAt plan k p → k < length frames → is_planned frames plan ≡ true → p < length (wire frames plan)
stands_within frames None k p at lt good = omega (arith, at, lt)
stands_within frames (Some plan) k p at lt good =
    rw good (omega (arith, slice_get_within plan p (Frame k) at, length-map plan (emission frames)))

good_unless_bad : (source : Source) (frames : List (List ℕ)) → ¬ IsBad source → AreFrames source (sender.records source) frames → is_planned frames source.plan ≡ true
good_unless_bad source frames fine sealed = by_test (is_planned frames source.plan) refl
  where
    by_test : (b : Bool) → is_planned frames source.plan ≡ b → is_planned frames source.plan ≡ true
    by_test true is = is
    by_test false is = absurd (fine (record { frames = frames; sealed = sealed; not_planned = is }))

-- where all of the wire is taken, so is each place at which a frame stands
taken_in_turn : (run : Run) (first : ℕ) (turn : ComeInTurn first run.ends) → TakesAll run.ends.source run.took
    → (k : ℕ) → first ≤ k → k < length (sender.records run.ends.source) → turn.place k < length run.took
taken_in_turn run first turn all k from lt =
    let source = run.ends.source in
    let within = stands_within all.frames source.plan k (turn.place k) (turn.stands k from lt) (omega (arith, lt, all.sealed.one_each)) (good_unless_bad source all.frames turn.planned all.sealed) in
    omega (arith, within, ap length all.whole)

-- ---- frames that come in their turn

-- each is placed after those before
placed : (run : Run) (first : ℕ) (turn : ComeInTurn first run.ends) (j k : ℕ) → first ≤ j → j ≤ k → k < length (sender.records run.ends.source) → turn.place j ≤ turn.place k
placed run first turn j zero from le lt =
    let same : j ≡ 0 = omega (arith, le) in
    let e : turn.place j ≡ turn.place 0 = ap turn.place same in
    omega (arith, e)
placed run first turn j (suc k) from le lt =
    elim (cases_lt k j) [
      | inl here ↦
          let same : j ≡ suc k = omega (arith, here, le) in
          let e : turn.place j ≡ turn.place (suc k) = ap turn.place same in
          omega (arith, e)
      | inr later ↦ omega (arith, placed run first turn j k from (omega (arith, later)) (omega (arith, lt)), turn.rises k (omega (arith, from, later)) lt)
    ]

module _ (run : Run) (is : IsRun run) (first : ℕ) (turn : ComeInTurn first run.ends) (end : ℕ) (few : end ≤ length (sender.records run.ends.source)) (inside : (k : ℕ) → first ≤ k → k < end → turn.place k < length run.took) where
  -- where frame k stands, the sender's own frame k is taken
  own_frame : (k : ℕ) → first ≤ k → k < end → (frame : List ℕ) × (slice_get run.took (turn.place k) ≡ Some frame) × (slice_get is.frames k ≡ Some frame)
  own_frame k from lt =
      let frame = get_or run.took (turn.place k) [] in
      let at : slice_get run.took (turn.place k) ≡ Some frame = slice_get-get_or run.took (turn.place k) [] (inside k from lt) in
      (frame, at, stands_there is.frames run.ends.source.plan k (turn.place k) frame (turn.stands k from (omega (arith, lt, few))) (on_wire run is (turn.place k) frame at))

  pub takes_in_turn : TakesInTurn run.ends.source.sealer (sender.records run.ends.source) first end (attempt_of run)
  takes_in_turn =
      let source = run.ends.source in
      let all = sender.records source in
      let some = take is.count all in
      let its : ℕ → Sealed = λ k. sealed_of source k (get_or some k records.Close) (get_or is.frames k []) in
      let at : (k : ℕ) → first ≤ k → k < end → slice_get is.frames k ≡ Some (get_or is.frames k []) =
      λ k from lt. slice_get-get_or is.frames k [] (slice_get_within is.frames k (own_frame k from lt).0 (own_frame k from lt).2) in
      record {
        place = turn.place;
        its = its;
        sealed = λ k from lt. among source.sealer some all k (its k) (λ r there. slice_get-take is.count k all r there) (one_of source some is.frames is.sealed k (get_or is.frames k []) (at k from lt));
        stands = λ k from lt. (own_frame k from lt).1 ∙ (sym (own_frame k from lt).2 ∙ at k from lt);
        rises = λ k from lt. turn.rises k from (omega (arith, lt, few));
        agree = λ k from lt demanded. turn.agree k run from (omega (arith, lt, few)) refl is demanded;
      }

pub takes_all_in_turn : (run : Run) (is : IsRun run) (first : ℕ) → ComeInTurn first run.ends → TakesAll run.ends.source run.took → TakesInTurn run.ends.source.sealer (sender.records run.ends.source) first (length (sender.records run.ends.source)) (attempt_of run)
takes_all_in_turn run is first turn all =
    takes_in_turn run is first turn (length (sender.records run.ends.source)) (omega arith) (taken_in_turn run first turn all)

-- so all of the rest is accepted where all of the wire is taken
rest_accepted : (run : Run) (is : IsRun run) (first : ℕ) → IsAttemptAfter run.ends.source.sealer (sender.records run.ends.source) first (attempt_of run) → ComeInTurn first run.ends → TakesAll run.ends.source run.took
    → records_of run.verdicts ≡ drop first (sender.records run.ends.source)
rest_accepted run is first s turn all =
    let source = run.ends.source in
    let rs = sender.records source in
    accepts_rest source.sealer rs first (attempt_of run) s (fit_limits source all.fits) (takes_all_in_turn run is first turn all)

-- ---- all records are accepted, so all texts are delivered, and the close stands

closes : (groups : List (List (List ℕ))) → list_any is_close (records_for groups) ≡ true
closes [] = refl
closes (g ∷ groups) = or_right (is_close (record_for g)) (list_any is_close (records_for groups)) (closes groups)

delivers_whole : (source : Source) (vs : List Verdict) → records_of vs ≡ sender.records source → DeliversWhole source (events_from vs)
delivers_whole source vs is = (
  delivered_texts vs ∙ (ap (λ l. flat_map texts_of l) is ∙ texts_of_records (sealed_groups source)),
  closed_events vs ∙ (ap (λ l. list_any is_close l) is ∙ closes (sealed_groups source)),
)

-- ---- a receiver that takes from the sender's first frame on

pub carried_demands : (run : Run) (carried : Carried run.ends) → AlteredAreHonest run → IsWithinLimits run.ends.source → IsRun run
    → (k : ℕ) → k < length (sender.records run.ends.source) → carried.in_turn.place k < length run.took
    → k < length (records_of (take (suc (carried.in_turn.place k)) run.verdicts))
unfolding takes_in_turn
carried_demands run carried honest fits is k lt inside =
    let source = run.ends.source in
    let turn = carried.in_turn in
    let in_turn = takes_in_turn run is 0 turn (suc k) (omega (arith, lt)) (λ j from below. omega (arith, inside, placed run 0 turn j k from (omega (arith, below)) lt)) in
    let past : k < 0 + length (records_of (take (suc (turn.place k)) run.verdicts)) = past_each source.sealer (sender.records source) 0 (attempt_of run) (paired_attempt run is carried.paired honest) (fit_limits source fits) (suc k) in_turn k (omega arith) (omega arith) in
    omega (arith, past)

pub carried_whole : (run : Run) → Carried run.ends → AlteredAreHonest run → IsRun run
    → TakesAll run.ends.source run.took → DeliversWhole run.ends.source (events_from run.verdicts)
carried_whole run carried honest is all =
    delivers_whole run.ends.source run.verdicts (rest_accepted run is 0 (paired_attempt run is carried.paired honest) carried.in_turn all)

-- ---- a lane that nothing disturbs

in_order_stands : (plan : Option (List Emit)) (n k : ℕ) → IsInOrder plan n → k < n → StandsAt plan k k
in_order_stands None n k order lt = refl
in_order_stands (Some plan) n k order lt =
    let there = slice_get-get_or (in_order n) k (Frame k) (omega (arith, lt, length-in_order n)) in
    ap (λ p. slice_get p k) order ∙ (there ∙ ap (λ e. Some e) (in_order-at n k (get_or (in_order n) k (Frame k)) there))

in_order_good : (frames : List (List ℕ)) (plan : Option (List Emit)) (n : ℕ) → IsInOrder plan n → n ≤ length frames → is_planned frames plan ≡ true
in_order_good frames None n order le = refl
in_order_good frames (Some plan) n order le = ap (λ p. is_good frames p) order ∙ good_in_order frames n le

pub undisturbed_carried : (ends : Ends) → Undisturbed ends → Carried ends
undisturbed_carried ends calm =
    let n = length (sender.records ends.source) in
    record {
      paired = calm.paired;
      in_turn = record {
        planned = λ bad. absurd (let e : false ≡ true = sym bad.not_planned ∙ in_order_good bad.frames ends.source.plan n calm.plan (omega (arith, bad.sealed.one_each)) in cc);
        place = λ k. k;
        stands = λ k from lt. in_order_stands ends.source.plan n k calm.plan lt;
        rises = λ k from lt. omega arith;
        agree = λ k run from lt same is demanded. calm.agree k lt;
      };
    }

none_altered : (plan : Option (List Emit)) (n place : ℕ) → IsInOrder plan n → altered_at plan place ≡ true → ⊥
none_altered None n place order changed = let e = changed in cc
none_altered (Some plan) n place order changed =
    by_one (slice_get (in_order n) place) refl (ap (λ p. is_altered_one (slice_get p place)) (sym order) ∙ changed)
  where
    by_one : (one : Option Emit) → slice_get (in_order n) place ≡ one → is_altered_one one ≡ true → ⊥
    by_one None at on = let e = on in cc
    by_one (Some emission) at on = let e : false ≡ true = ap is_altered (sym (in_order-at n place emission at)) ∙ on in cc

pub undisturbed_honest : (run : Run) → Undisturbed run.ends → AlteredAreHonest run
undisturbed_honest run calm place frame d changed at-f at = absurd (none_altered run.ends.source.plan (length (sender.records run.ends.source)) place calm.plan changed)

module _ (run : Run) (calm : Undisturbed run.ends) (fits : IsWithinLimits run.ends.source) (is : IsRun run) where
  abbrev all_records : List Record
  all_records = sender.records run.ends.source

  short : length run.took ≤ length all_records
  short =
      let source = run.ends.source in
      let sealed : length is.frames ≤ length all_records = omega (arith, is.sealed.one_each, length-take is.count all_records) in
      let long = none_longer is.frames source.plan (length all_records) calm.plan sealed in
      omega (arith, long, ap length is.taken, length-take is.n (wire is.frames source.plan))

  calm_attempt : IsAttemptAfter run.ends.source.sealer all_records 0 (attempt_of run)
  calm_attempt = paired_attempt run is calm.paired (undisturbed_honest run calm)

  pub as_many : length (records_of run.verdicts) ≡ length run.took
  unfolding undisturbed_carried
  as_many =
      let source = run.ends.source in
      all_accepted source.sealer all_records 0 (attempt_of run) calm_attempt (fit_limits source fits)
      (takes_in_turn run is 0 (undisturbed_carried run.ends calm).in_turn (0 + length run.took) (omega (arith, short)) (λ k from lt. omega (arith, lt)))

  pub calm_records : records_of run.verdicts ≡ take (length run.took) all_records
  calm_records = first_accepted run.ends.source.sealer all_records 0 (attempt_of run) calm_attempt as_many

  pub calm_none_refused : All IsOk run.verdicts
  calm_none_refused = none_refused run.ends.source.sealer all_records 0 (attempt_of run) calm_attempt as_many

pub calm_whole : (run : Run) → Undisturbed run.ends → IsRun run → TakesAll run.ends.source run.took → DeliversAll run.ends.source (events_from run.verdicts)
calm_whole run calm is all = (carried_whole run (undisturbed_carried run.ends calm) (undisturbed_honest run calm) is all).0

-- ---- a receiver that goes on elsewhere

module _ (source : Source) (before : List Verdict) (run : Run) (accepted : AcceptInOrder source before) (goes_on : GoesOnAfter source before run.ends)
    (honest : AlteredAreHonestAfter (length (records_of before)) run) (is : IsRun run) where
  abbrev done : ℕ
  done = length (records_of before)

  same_all : sender.records run.ends.source ≡ sender.records source
  same_all = ap (λ (s : Source). sender.records s) goes_on.sender

  accepted_first : records_of before ≡ take done (sender.records source)
  accepted_first = front_is (records_of before) accepted.0 (sender.records source) done accepted.1 refl

  begins : DemandsAfter run.ends.source.sealer (sender.records run.ends.source) done run.ends.receiver.demand
  begins = record {
    within = omega (arith, ap length accepted.1, length-append (records_of before) accepted.0, ap length same_all);
    is = goes_on.demand
        ∙ (ap (λ rs. demand_after (first_demand source.sealer.next) rs) (accepted_first ∙ ap (λ l. take done l) (sym same_all))
        ∙ ap (λ (s : Source). demand_after (first_demand s.sealer.next) (take done (sender.records run.ends.source))) (sym goes_on.sender));
  }

  its_attempt : IsAttemptAfter run.ends.source.sealer (sender.records run.ends.source) done (attempt_of run)
  its_attempt =
      run_attempt run is done
      (record { etype = goes_on.etype ∙ ap (λ (s : Source). s.sealer.etype) (sym goes_on.sender); key = goes_on.key ∙ ap (λ (s : Source). s.sealer.key) (sym goes_on.sender) })
      begins honest

  together : records_of (before ++ run.verdicts) ≡ records_of before ++ records_of run.verdicts
  together = flat_map-append accepted_by before run.verdicts

  joined : take done (sender.records source) ++ drop done (sender.records run.ends.source) ≡ sender.records source
  joined = ap (λ l. take done (sender.records source) ++ drop done l) same_all ∙ take-append-drop done (sender.records source)

  pub goes_on_in_order : AcceptInOrder source (before ++ run.verdicts)
  goes_on_in_order =
      let rest = accepted_prefix run.ends.source.sealer (sender.records run.ends.source) done (attempt_of run) its_attempt in (
        rest.0,
        sym joined
            ∙ (ap₂ (λ xs ys. xs ++ ys) (sym accepted_first) rest.1
            ∙ (sym (append_assoc (records_of before) (records_of run.verdicts) rest.0) ∙ ap (λ l. l ++ rest.0) (sym together))),
      )

  pub goes_on_whole : ComeInTurn done run.ends → TakesAll run.ends.source run.took → DeliversWhole source (events_from (before ++ run.verdicts))
  goes_on_whole turn all =
      let rest = rest_accepted run is done its_attempt turn all in
      delivers_whole source (before ++ run.verdicts) (together ∙ (ap₂ (λ xs ys. xs ++ ys) accepted_first rest ∙ joined))

pub in_order_prefix : (source : Source) (verdicts : List Verdict) → AcceptInOrder source verdicts → DeliversPrefix source (events_from verdicts)
in_order_prefix source verdicts accepted = delivered_prefix verdicts (sealed_groups source) accepted
