-- What is claimed of a lane.
use Rattle.std.proofs.Common.{◌≡◌, ℕ, ◌+◌, ◌<◌, ◌||◌, true, false, List, [], ◌∷◌, ◌++◌, length, take, get_or, slice_get, Some, Ok, Err, refl, sym, ap, ap₂, subst, ◌∙◌, arith}
use Rattle.std.specs.List.{list_any}
use Rattle.std.proofs.lemmas.Option.{slice_get-get_or, slice_get_within}
use Rattle.krb_base.specs.Prefix.{IsPrefix}
use Rattle.krb_seal.specs.declared.refusal.Refusal.{Refusal}
use Rattle.krb_seal.specs.Opens.{OpenerState}
use Rattle.krb_seal.proofs.SealedFrames.{same_frame}
use Rattle.krb_record.specs.declared.record.Record.{Record}
use Rattle.krb_record.specs.declared.record.Record.TheVariants as records
use Rattle.krb_peers.specs.declared.delivery.Delivery.TheVariants.{Text, Batch, Closed}
use Rattle.krb_peers.specs.declared.log.Event.{Event}
use Rattle.krb_peers.specs.declared.log.Event.TheVariants as events
use Rattle.krb_peers.specs.Demand.{Demand}
use Rattle.krb_record.specs.Record.{bytes_of, is_close}
use Rattle.krb_peers.specs.Log.{texts_in, has_closed}
use Rattle.krb_peers.specs.Sender.{Source, texts_of_groups, records_for, AreFrames}
use Rattle.krb_peers.specs.Moments.{moment_at}
use Rattle.krb_peers.specs.Order.{demand_after}
use Rattle.krb_peers.specs.ReceiverState.{ReceiverState}
use Rattle.krb_peers.specs.Verdicts.{Verdict, records_of, events_from, events_by, accepted_by, delivered, IsVerdict, AreVerdicts}
use Rattle.krb_peers.specs.Claims.{NothingAfterClose, RefusesExactly, RefusalsDeliverNothing}
use Rattle.krb_peers.proofs.VerdictLemmas.{AreVerdicts-after, unique_verdict}
use Rattle.krb_peers.proofs.AcceptedPrefix.{texts_prefix}
use Rattle.krb_peers.proofs.AnswerLemmas.{delivered_texts}
use Rattle.krb_peers.proofs.LoggedLemmas.{texts_in-append, has_closed-append, has_closed-texts, closed_one, or_left, or_right}
use Rattle.krb_peers.proofs.SourceLemmas.{texts_of_records}
use Rattle.krb_peers.proofs.ListLemmas.{same_lists}

-- ---- so the texts are a prefix

pub delivered_prefix : (vs : List Verdict) (groups : List (List (List ℕ))) → IsPrefix (records_of vs) (records_for groups) → IsPrefix (delivered vs) (texts_of_groups groups)
delivered_prefix vs groups h =
    let w = texts_prefix (records_of vs) (records_for groups) h in
    (w.0, sym (texts_of_records groups) ∙ (w.1 ∙ ap (λ l. l ++ w.0) (sym (delivered_texts vs))))

-- ---- nothing after a close

closed_inside : (front back : List Event) → has_closed (front ++ events.Closed ∷ back) ≡ true
closed_inside [] back = refl
closed_inside (events.Text t ∷ front) back = closed_inside front back
closed_inside (events.Closed ∷ front) back = refl
closed_inside (events.Refused r ∷ front) back = closed_inside front back

-- a close among the events of two lists stands in the first, or in the second
data CloseAt (xs ys front back : List Event) : Type 0 where
  first : (between : List Event) → xs ≡ front ++ events.Closed ∷ between → back ≡ between ++ ys → CloseAt xs ys front back
  second : (between : List Event) → ys ≡ between ++ events.Closed ∷ back → CloseAt xs ys front back

close_at : (xs ys front back : List Event) → xs ++ ys ≡ front ++ events.Closed ∷ back → CloseAt xs ys front back
close_at [] ys front back h = second front h
close_at (x ∷ xs) ys [] back h =
    let e : x ∷ (xs ++ ys) ≡ events.Closed ∷ back = h in
    let head : x ≡ events.Closed = cc in
    let tail : xs ++ ys ≡ back = cc in
    first xs (ap (λ z. z ∷ xs) head) (sym tail)
close_at (x ∷ xs) ys (y ∷ front) back h =
    let e : x ∷ (xs ++ ys) ≡ y ∷ (front ++ events.Closed ∷ back) = h in
    let head : x ≡ y = cc in
    let tail : xs ++ ys ≡ front ++ events.Closed ∷ back = cc in
    elim (close_at xs ys front back tail) [
      | first between a b ↦ first between (ap₂ (λ z zs. z ∷ zs) head a) b
      | second between a ↦ second between a
    ]

-- a refusal brings no text and no close
refusal_quiet : (refusal : Refusal) → (texts_in (events_by (Err refusal)) ≡ []) × (has_closed (events_by (Err refusal)) ≡ false)
refusal_quiet refusal = (refl, refl)

-- a verdict brings nothing after a close
none_after : (v : Verdict) (front back : List Event) → events_by v ≡ front ++ events.Closed ∷ back → back ≡ []
none_after (Ok (Text t)) front back h = absurd (let e : false ≡ true = ap has_closed h ∙ closed_inside front back in cc)
none_after (Ok (Batch texts)) front back h =
    absurd (let e : false ≡ true = sym (has_closed-texts texts) ∙ (ap has_closed h ∙ closed_inside front back) in cc)
none_after (Ok Closed) [] back h = let e : events.Closed ∷ [] ≡ events.Closed ∷ back = h in cc
none_after (Ok Closed) (x ∷ front) back h =
    let e : events.Closed ∷ [] ≡ x ∷ (front ++ events.Closed ∷ back) = h in
    let tail : [] ≡ front ++ events.Closed ∷ back = cc in
    absurd (let f : false ≡ true = ap has_closed tail ∙ closed_inside front back in cc)
none_after (Err refusal) front back h = absurd (let e : false ≡ true = ap has_closed h ∙ closed_inside front back in cc)

module _ (opener : OpenerState) (nows : List ℕ) where
  quiet_closed : (start : Demand) (place : ℕ) (took : List (List ℕ)) (vs : List Verdict) → AreVerdicts opener nows start place took vs → start.closed ≡ true
      → (delivered vs ≡ []) × (has_closed (events_from vs) ≡ false)
  quiet_closed start place took [] are closed = (refl, refl)
  quiet_closed start place [] (v ∷ vs) are closed = absurd (let e = are.one_each in omega arith)
  quiet_closed start place (g ∷ took) (Ok d ∷ vs) are closed =
      absurd (let e : start.closed ≡ false = (AreVerdicts-after opener nows start place g took (Ok d) vs are).0.0 in cc)
  quiet_closed start place (g ∷ took) (Err refusal ∷ vs) are closed =
      let v : Verdict = Err refusal in
      let rest = (AreVerdicts-after opener nows start place g took v vs are).1 in
      let w = quiet_closed (demand_after start (accepted_by v)) (place + 1) took vs rest (or_left start.closed (list_any is_close (accepted_by v)) closed) in
      let own = refusal_quiet refusal in (
        texts_in-append (events_by v) (events_from vs) ∙ ap₂ (λ a b. a ++ b) own.0 w.0,
        has_closed-append (events_by v) (events_from vs) ∙ ap₂ (λ a b. a || b) own.1 w.1,
      )

  pub quiet_after : (start : Demand) (place : ℕ) (took : List (List ℕ)) (vs : List Verdict) → AreVerdicts opener nows start place took vs → NothingAfterClose (events_from vs)
  quiet_after start place took [] are [] back h = absurd (let e : [] ≡ events.Closed ∷ back = h in cc)
  quiet_after start place took [] are (x ∷ front) back h = absurd (let e : [] ≡ x ∷ (front ++ events.Closed ∷ back) = h in cc)
  quiet_after start place [] (v ∷ vs) are front back h = absurd (let e = are.one_each in omega arith)
  quiet_after start place (g ∷ took) (v ∷ vs) are front back h =
      let demand = demand_after start (accepted_by v) in
      let rest = (AreVerdicts-after opener nows start place g took v vs are).1 in
      elim (close_at (events_by v) (events_from vs) front back h) [
        | first between a b ↦
            let closes : list_any is_close (accepted_by v) ≡ true = sym (closed_one v) ∙ (ap has_closed a ∙ closed_inside front between) in
            let w = quiet_closed demand (place + 1) took vs rest (or_right start.closed (list_any is_close (accepted_by v)) closes) in
            let is : back ≡ events_from vs = b ∙ ap (λ l. l ++ events_from vs) (none_after v front between a) in
            let P : List Event → Type 0 = λ z. (texts_in z ≡ []) × (has_closed z ≡ false) in
            subst P (sym is) w
        | second between a ↦ quiet_after demand (place + 1) took vs rest between back a
      ]

  -- ---- a frame is refused exactly where it fails a check

  pub refuses : (start : Demand) (took : List (List ℕ)) (vs : List Verdict) → AreVerdicts opener nows start 0 took vs → (let receiver : ReceiverState = record { opener = opener; demand = start } in RefusesExactly receiver nows took vs)
  refuses start took vs are i frame refusal at-f =
      let zero_more : 0 + i ≡ i = omega arith in
      let within : i < length vs = omega (arith, slice_get_within took i frame at-f, are.one_each) in
      let it = get_or vs i (Err refusal) in
      let at-v : slice_get vs i ≡ Some it = slice_get-get_or vs i (Err refusal) within in
      let here : IsVerdict opener (demand_after start (records_of (take i vs))) (moment_at nows i) frame it =
      rw zero_more at (are.each i frame it at-f at-v) in (
        λ at. rw zero_more at (are.each i frame (Err refusal) at-f at),
        λ fails. at-v ∙ ap (λ v. Some v) (unique_verdict opener (demand_after start (records_of (take i vs))) (moment_at nows i) frame it (Err refusal) here fails),
      )

-- ---- a refusal delivers nothing

refusal_by_front : (front back : List Verdict) (refusal : Refusal)
    → (delivered (front ++ Err refusal ∷ back) ≡ delivered (front ++ back)) × (records_of (front ++ Err refusal ∷ back) ≡ records_of (front ++ back))
refusal_by_front [] back refusal = (
  texts_in-append (events_by (Err refusal)) (events_from back) ∙ ap (λ l. l ++ delivered back) (refusal_quiet refusal).0,
  refl,
)
refusal_by_front (v ∷ front) back refusal =
    let w = refusal_by_front front back refusal in (
      texts_in-append (events_by v) (events_from (front ++ Err refusal ∷ back))
          ∙ (ap (λ l. texts_in (events_by v) ++ l) w.0 ∙ sym (texts_in-append (events_by v) (events_from (front ++ back)))),
      ap (λ l. accepted_by v ++ l) w.1,
    )

pub refusal_nothing : (start : Demand) (vs : List Verdict) → RefusalsDeliverNothing start vs (events_from vs)
refusal_nothing start vs front back refusal is =
    let w = refusal_by_front front back refusal in
    (ap delivered is ∙ w.0, ap (λ z. demand_after start (records_of z)) is ∙ ap (λ z. demand_after start z) w.1)

-- ---- the frames of records are one list

pub same_frames : (source : Source) (carried : List Record) (some others : List (List ℕ)) → AreFrames source carried some → AreFrames source carried others → some ≡ others
same_frames source carried some others a b =
    same_lists some others (a.one_each ∙ sym b.one_each) (λ k x y at-x at-y.
    let s = source.sealer in
    let within : k < length carried = omega (arith, slice_get_within some k x at-x, a.one_each) in
    let r = get_or carried k records.Close in
    let at-r : slice_get carried k ≡ Some r = slice_get-get_or carried k records.Close within in
    same_frame s.etype s.key s.session (s.next + k) (bytes_of r) _ _ x y (a.each k r x at-r at-x) (b.each k r y at-r at-y))
