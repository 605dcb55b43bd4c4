-- One verdict for each frame, and no other.
use Rattle.std.proofs.Common.{◌≡◌, ℕ, zero, suc, ◌+◌, ◌≤◌, ◌&&◌, ◌⊎◌, leb, eqb, cond, Bool, true, false, List, [], ◌∷◌, ◌++◌, length, take, slice_get, Option, Some, None, Ok, Err, inl, inr, refl, sym, ap, ap₂, subst, ◌∙◌, arith, length-append, ◌<◌}
use Rattle.std.specs.Result.{MatchResult}
use Rattle.std.proofs.lemmas.Bool.{and_parts, eqb-true, leb-true, le-leb}
use Rattle.std.proofs.lemmas.List.{take-append-le, take_all}
use Rattle.std.proofs.lemmas.Option.{slice_get_within}
use Rattle.krb_base.specs.Limits.{text_limit}
use Rattle.krb_record.specs.Batch.{SpellsBatch, spelling}
use Rattle.krb_record.specs.Reading.{batch_in}
use Rattle.krb_record.proofs.ReadingLemmas.{found_is_spelt, spelt_is_found}
use Rattle.std.specs.Prelude.{option_map}
use Rattle.krb_seal.specs.declared.refusal.Refusal.{Refusal}
use Rattle.krb_seal.specs.declared.refusal.Refusal.TheVariants as refusals
use Rattle.krb_base.specs.Bytes.{AreBytes}
use Rattle.krb_seal.specs.Opens.{OpenerState, Opens}
use Rattle.krb_seal.specs.OpensParts.{Outcome}
use Rattle.krb_seal.specs.Opening.{opens}
use Rattle.krb_seal.proofs.Openings.{one_outcome}
use Rattle.krb_seal.proofs.Outcomes.{Unique, outcomes_unique}
use Rattle.krb_record.specs.declared.record.Record.TheVariants as records
use Rattle.krb_peers.specs.declared.delivery.Delivery.{Delivery}
use Rattle.krb_peers.specs.declared.delivery.Delivery.TheVariants.{Text, Batch, Closed}
use Rattle.krb_peers.specs.Demand.{Demand}
use Rattle.krb_record.specs.Record.{SpellsRecord, is_close}
use Rattle.krb_peers.specs.Moments.{moment_at}
use Rattle.krb_peers.specs.Order.{demand_after}
use Rattle.krb_peers.specs.Verdicts.{Verdict, AllBytes, record_of, accepted_by, records_of, IsVerdict, AreVerdicts, delivery_in, judged, verdict_on, verdict, verdicts}
use Rattle.krb_peers.proofs.Parts.{IsNoRecord}
use Rattle.krb_peers.proofs.OrderLemmas.{demand_after-nil, demand_after-append}
use Rattle.krb_peers.proofs.ListLemmas.{slice_get-front, slice_get-end, lt_or_same}

-- ---- what user data delivers

pub delivery_spelled : (d : Delivery) (user : List ℕ) → SpellsRecord (record_of d) user → delivery_in user ≡ Some d
delivery_spelled (Text text) user h =
    let short : leb (length text) text_limit ≡ true = le-leb (length text) text_limit h.0 in
    rw (h.1, short) refl
delivery_spelled (Batch texts) user h =
    let found : batch_in (spelling texts) ≡ Some texts = spelt_is_found texts (spelling texts) (h.0, refl) in
    rw h.1 (ap (λ o. option_map Batch o) found)
delivery_spelled Closed user h = rw h.1 refl

empty : (rest : List ℕ) → length rest ≡ 0 → rest ≡ []
empty [] h = refl
empty (x ∷ rest) h = absurd (omega arith)

found_by : (is_text is_close : Bool) (batch : Option (List (List ℕ))) (tag : ℕ) (rest : List ℕ) (d : Delivery)
    → (is_text ≡ true → (tag ≡ 0x44) × (length rest ≤ text_limit)) → (is_close ≡ true → (tag ≡ 0x43) × (rest ≡ []))
    → ((texts : List (List ℕ)) → batch ≡ Some texts → SpellsBatch texts (tag ∷ rest))
    → cond is_text (Some (Text rest)) (cond is_close (Some Closed) (option_map Batch batch)) ≡ Some d → SpellsRecord (record_of d) (tag ∷ rest)
found_by true is_close batch tag rest d t c b h =
    let same : Text rest ≡ d = cc in
    let w = t refl in
    let P : Delivery → Type 0 = λ x. SpellsRecord (record_of x) (tag ∷ rest) in
    subst P same (w.1, ap (λ x. x ∷ rest) w.0)
found_by false true batch tag rest d t c b h =
    let same : Closed ≡ d = cc in
    let w = c refl in
    let P : Delivery → Type 0 = λ x. SpellsRecord (record_of x) (tag ∷ rest) in
    subst P same (tt, ap (λ x. x ∷ rest) w.0 ∙ ap (λ x. 0x43 ∷ x) w.1)
found_by false false None tag rest d t c b h = absurd (let e = h in cc)
found_by false false (Some texts) tag rest d t c b h =
    let same : Batch texts ≡ d = cc in
    let P : Delivery → Type 0 = λ x. SpellsRecord (record_of x) (tag ∷ rest) in
    subst P same (b texts refl)

delivery_found : (user : List ℕ) (d : Delivery) → delivery_in user ≡ Some d → SpellsRecord (record_of d) user
delivery_found [] d h = absurd (let e = h in cc)
delivery_found (tag ∷ rest) d h =
    found_by (eqb tag 0x44 && leb (length rest) text_limit) (eqb tag 0x43 && eqb (length rest) 0) (batch_in (tag ∷ rest)) tag rest d
    (λ t. let w = and_parts (eqb tag 0x44) (leb (length rest) text_limit) t in (eqb-true tag 0x44 w.0, leb-true (length rest) text_limit w.1))
    (λ c. let w = and_parts (eqb tag 0x43) (eqb (length rest) 0) c in (eqb-true tag 0x43 w.0, empty rest (eqb-true (length rest) 0 w.1)))
    (λ texts found. found_is_spelt texts (tag ∷ rest) found)
    h

no_delivery : (user : List ℕ) → delivery_in user ≡ None → IsNoRecord user
no_delivery user h (records.Text text) spelled = let e = delivery_spelled (Text text) user spelled in absurd (let f = h in cc)
no_delivery user h (records.Batch texts) spelled = let e = delivery_spelled (Batch texts) user spelled in absurd (let f = h in cc)
no_delivery user h records.Close spelled = let e = delivery_spelled Closed user spelled in absurd (let f = h in cc)

-- ---- one verdict

-- `IsVerdict`, by whether a close was accepted and by what opening gives
abbrev CarriesBy : Bool → (Outcome → Type 0) → Delivery → Type 0
CarriesBy closed Opened delivery = (closed ≡ false) × ((user : List ℕ) × Opened (Ok user) × SpellsRecord (record_of delivery) user)

abbrev FailsBy : Bool → (Outcome → Type 0) → Refusal → Type 0
FailsBy closed Opened refusal =
    ((closed ≡ true) × (refusal ≡ refusals.AfterClose))
    ⊎ ((closed ≡ false) × (Opened (Err refusal)
    ⊎ ((user : List ℕ) × Opened (Ok user) × IsNoRecord user × (refusal ≡ refusals.BadRecord))))

abbrev IsVerdictBy : Bool → (Outcome → Type 0) → Verdict → Type 0
IsVerdictBy closed Opened v = MatchResult v (CarriesBy closed Opened) (FailsBy closed Opened)

right_judged : (Opened : Outcome → Type 0) (user : List ℕ) → Opened (Ok user) → (found : Option Delivery) → delivery_in user ≡ found → IsVerdictBy false Opened (judged found)
right_judged Opened user is (Some d) h = (refl, (user, is, delivery_found user d h))
right_judged Opened user is None h = inr (refl, inr (user, is, no_delivery user h, refl))

right_by : (Opened : Outcome → Type 0) (closed : Bool) (outcome : Outcome) → Opened outcome → IsVerdictBy closed Opened (verdict_on closed outcome)
right_by Opened true outcome is = inl (refl, refl)
right_by Opened false (Err refusal) is = inr (refl, inl is)
right_by Opened false (Ok user) is = right_judged Opened user is (delivery_in user) refl

not_delivered : (user : List ℕ) (found : Option Delivery) → delivery_in user ≡ found → IsNoRecord user → judged found ≡ Err refusals.BadRecord
not_delivered user None h none = refl
not_delivered user (Some d) h none = absurd (none (record_of d) (delivery_found user d h))

alone_by : (Opened : Outcome → Type 0) (closed : Bool) (outcome : Outcome) → ((o : Outcome) → Opened o → o ≡ outcome) → (v : Verdict) → IsVerdictBy closed Opened v → v ≡ verdict_on closed outcome
alone_by Opened closed outcome only (Ok d) h =
    let is : outcome ≡ Ok h.1.0 = sym (only (Ok h.1.0) h.1.1) in
    rw (h.0, is, delivery_spelled d h.1.0 h.1.2) refl
alone_by Opened closed outcome only (Err refusal) (inl h) = rw (h.0, h.1) refl
alone_by Opened closed outcome only (Err refusal) (inr h) =
    elim h.1 [
      | inl refused ↦ let is : outcome ≡ Err refusal = sym (only (Err refusal) refused) in rw (h.0, is) refl
      | inr bad ↦ let is : outcome ≡ Ok bad.0 = sym (only (Ok bad.0) bad.1) in rw (h.0, is, bad.3) (sym (not_delivered bad.0 (delivery_in bad.0) refl bad.2))
    ]

pub right_verdict : (opener : OpenerState) (demand : Demand) (now : ℕ) (frame : List ℕ) → AreBytes frame → IsVerdict opener demand now frame (verdict opener demand now frame)
right_verdict opener demand now frame bytes =
    let outcome = opens opener demand.expected now frame in
    right_by (Opens opener demand.expected now frame) demand.closed outcome ((one_outcome opener demand.expected now frame outcome bytes).1 refl)

pub one_verdict : (opener : OpenerState) (demand : Demand) (now : ℕ) (frame : List ℕ) (v : Verdict) → AreBytes frame → IsVerdict opener demand now frame v → v ≡ verdict opener demand now frame
one_verdict opener demand now frame v bytes is =
    alone_by (Opens opener demand.expected now frame) demand.closed (opens opener demand.expected now frame) (λ o h. (one_outcome opener demand.expected now frame o bytes).0 h) v is

-- there is one verdict, whatever the frame is
closed_alone : (Opened : Outcome → Type 0) (closed : Bool) (v : Verdict) → closed ≡ true → IsVerdictBy closed Opened v → v ≡ Err refusals.AfterClose
closed_alone Opened closed (Ok d) is h = absurd (let e = h.0 in cc)
closed_alone Opened closed (Err refusal) is (inl h) = ap (λ r. Err r) h.1
closed_alone Opened closed (Err refusal) is (inr h) = absurd (let e = h.0 in cc)

outcome_by : (Opened : Outcome → Type 0) (closed : Bool) (v : Verdict) → IsVerdictBy closed Opened v → (closed ≡ true) ⊎ ((o : Outcome) × Opened o)
outcome_by Opened closed (Ok d) h = inr (Ok h.1.0, h.1.1)
outcome_by Opened closed (Err refusal) (inl h) = inl h.0
outcome_by Opened closed (Err refusal) (inr h) = elim h.1 [ inl refused ↦ inr (Err refusal, refused) | inr bad ↦ inr (Ok bad.0, bad.1) ]

unique_by : (Opened : Outcome → Type 0) → Unique Opened → (closed : Bool) (v w : Verdict) → IsVerdictBy closed Opened v → IsVerdictBy closed Opened w → v ≡ w
unique_by Opened unique closed v w is-v is-w =
    elim (outcome_by Opened closed v is-v) [
      | inl shut ↦ closed_alone Opened closed v shut is-v ∙ sym (closed_alone Opened closed w shut is-w)
      | inr one ↦
          let only : (o : Outcome) → Opened o → o ≡ one.0 = λ o h. unique o one.0 h one.1 in
          alone_by Opened closed one.0 only v is-v ∙ sym (alone_by Opened closed one.0 only w is-w)
    ]

pub unique_verdict : (opener : OpenerState) (demand : Demand) (now : ℕ) (frame : List ℕ) (v w : Verdict) → IsVerdict opener demand now frame v → IsVerdict opener demand now frame w → v ≡ w
unique_verdict opener demand now frame v w is-v is-w =
    unique_by (Opens opener demand.expected now frame) (outcomes_unique opener demand.expected now frame) demand.closed v w is-v is-w

-- ---- what is demanded

-- ---- all verdicts

module _ (opener : OpenerState) (nows : List ℕ) where
  follow_each : (demand : Demand) (place : ℕ) (g : List ℕ) (frames : List (List ℕ)) (v : Verdict) (vs : List Verdict) → IsVerdict opener demand (moment_at nows place) g v
      → AreVerdicts opener nows (demand_after demand (accepted_by v)) (place + 1) frames vs
      → (i : ℕ) (frame : List ℕ) (w : Verdict) → slice_get (g ∷ frames) i ≡ Some frame → slice_get (v ∷ vs) i ≡ Some w
      → IsVerdict opener (demand_after demand (records_of (take i (v ∷ vs)))) (moment_at nows (place + i)) frame w
  follow_each demand place g frames v vs is later zero frame w at-f at-v =
      let same-f : g ≡ frame = cc in
      let same-v : v ≡ w = cc in
      let p : place + 0 ≡ place = omega arith in
      rw (← same-f, ← same-v, p, demand_after-nil demand) is
  follow_each demand place g frames v vs is later (suc i) frame w at-f at-v =
      let p : place + suc i ≡ place + 1 + i = omega arith in
      rw (p, ← demand_after-append demand (accepted_by v) (records_of (take i vs))) (later.each i frame w at-f at-v)

  pub verdicts_follow : (demand : Demand) (place : ℕ) (frames : List (List ℕ)) → AllBytes frames → AreVerdicts opener nows demand place frames (verdicts opener nows demand place frames)
  verdicts_follow demand place [] bytes = record { one_each = refl; each = λ i frame w at-f at-v. absurd (let e = at-f in cc) }
  verdicts_follow demand place (g ∷ frames) bytes =
      let v = verdict opener demand (moment_at nows place) g in
      let later = verdicts_follow (demand_after demand (accepted_by v)) (place + 1) frames bytes.1 in
      record {
        one_each = ap suc later.one_each;
        each = follow_each demand place g frames v (verdicts opener nows (demand_after demand (accepted_by v)) (place + 1) frames) (right_verdict opener demand (moment_at nows place) g bytes.0) later;
      }

  -- the verdicts demand_after the first
  pub AreVerdicts-after : (demand : Demand) (place : ℕ) (g : List ℕ) (frames : List (List ℕ)) (v : Verdict) (vs : List Verdict) → AreVerdicts opener nows demand place (g ∷ frames) (v ∷ vs)
      → IsVerdict opener demand (moment_at nows place) g v × AreVerdicts opener nows (demand_after demand (accepted_by v)) (place + 1) frames vs
  AreVerdicts-after demand place g frames v vs h =
      let p : place + 0 ≡ place = omega arith in
      let first : IsVerdict opener demand (moment_at nows place) g v = rw (p, demand_after-nil demand) at (h.each 0 g v refl refl) in
      let rest : AreVerdicts opener nows (demand_after demand (accepted_by v)) (place + 1) frames vs = record {
        one_each = (let e : suc (length vs) ≡ suc (length frames) = h.one_each in omega arith);
        each = λ i frame w at-f at-v.
            let q : place + 1 + i ≡ place + suc i = omega arith in
            rw (q, demand_after-append demand (accepted_by v) (records_of (take i vs))) (h.each (suc i) frame w at-f at-v);
      } in
      (first, rest)

  -- there is one such list
  pub follow_same : (demand : Demand) (place : ℕ) (frames : List (List ℕ)) (vs : List Verdict) → AllBytes frames → AreVerdicts opener nows demand place frames vs → vs ≡ verdicts opener nows demand place frames
  follow_same demand place [] [] bytes h = refl
  follow_same demand place [] (v ∷ vs) bytes h = absurd (let e = h.one_each in omega arith)
  follow_same demand place (g ∷ frames) [] bytes h = absurd (let e = h.one_each in omega arith)
  follow_same demand place (g ∷ frames) (v ∷ vs) bytes h =
      let both = AreVerdicts-after demand place g frames v vs h in
      let head : v ≡ verdict opener demand (moment_at nows place) g = one_verdict opener demand (moment_at nows place) g v bytes.0 both.0 in
      let tail = follow_same (demand_after demand (accepted_by v)) (place + 1) frames vs bytes.1 both.1 in
      let P : Verdict → Type 0 = λ x. v ∷ vs ≡ x ∷ verdicts opener nows (demand_after demand (accepted_by x)) (place + 1) frames in
      subst P head (ap (λ z. v ∷ z) tail)

  -- one verdict for each frame
  pub length-verdicts : (demand : Demand) (place : ℕ) (frames : List (List ℕ)) → length (verdicts opener nows demand place frames) ≡ length frames
  length-verdicts demand place [] = refl
  length-verdicts demand place (frame ∷ frames) =
      let v = verdict opener demand (moment_at nows place) frame in
      ap suc (length-verdicts (demand_after demand (accepted_by v)) (place + 1) frames)

  -- one frame more
  pub verdicts-push : (demand : Demand) (place : ℕ) (frames : List (List ℕ)) (frame : List ℕ)
      → verdicts opener nows demand place (frames ++ frame ∷ [])
      ≡ verdicts opener nows demand place frames ++ verdict opener (demand_after demand (records_of (verdicts opener nows demand place frames))) (moment_at nows (place + length frames)) frame ∷ []
  verdicts-push demand place [] frame =
      sym (ap₂ (λ (d : Demand) (p : ℕ). verdict opener d (moment_at nows p) frame ∷ []) (demand_after-nil demand) (let e : place + 0 ≡ place = omega arith in e))
  verdicts-push demand place (g ∷ frames) frame =
      let v = verdict opener demand (moment_at nows place) g in
      let vs = verdicts opener nows (demand_after demand (accepted_by v)) (place + 1) frames in
      let p : place + 1 + length frames ≡ place + suc (length frames) = omega arith in
      ap (λ z. v ∷ z) (
      verdicts-push (demand_after demand (accepted_by v)) (place + 1) frames frame
      ∙ ap₂ (λ (d : Demand) (n : ℕ). vs ++ verdict opener d (moment_at nows n) frame ∷ []) (demand_after-append demand (accepted_by v) (records_of vs)) p
      )

-- ---- one frame more, by what the verdict is

pub AreVerdicts-push : (opener : OpenerState) (nows : List ℕ) (demand : Demand) (place : ℕ) (frames : List (List ℕ)) (vs : List Verdict) (frame : List ℕ) (v : Verdict)
    → AreVerdicts opener nows demand place frames vs → IsVerdict opener (demand_after demand (records_of vs)) (moment_at nows (place + length frames)) frame v
    → AreVerdicts opener nows demand place (frames ++ frame ∷ []) (vs ++ v ∷ [])
AreVerdicts-push opener nows demand place frames vs frame v are is = record {
  one_each = omega (arith, are.one_each, length-append vs (v ∷ []), length-append frames (frame ∷ []));
  each = λ i f w at-f at-w.
      let small : i < length frames + 1 = omega (arith, slice_get_within (frames ++ frame ∷ []) i f at-f, length-append frames (frame ∷ [])) in
      elim (lt_or_same i (length frames) small) [
        | inl below ↦
            let inside : i < length vs = omega (arith, below, are.one_each) in
            let short : i ≤ length vs = omega (arith, inside) in
            rw (take-append-le i vs (v ∷ []) short)
            (are.each i f w (sym (slice_get-front frames frame i below) ∙ at-f) (sym (slice_get-front vs v i inside) ∙ at-w))
        | inr same ↦
            let long : i ≡ length vs = omega (arith, same, are.one_each) in
            let short : i ≤ length vs = omega (arith, long) in
            let whole : length vs ≤ i = omega (arith, long) in
            let same-f : frame ≡ f = slice_get-end frames frame f i same at-f in
            let same-v : v ≡ w = slice_get-end vs v w i long at-w in
            rw (take-append-le i vs (v ∷ []) short, take_all i vs whole, same, ← same-f, ← same-v) is
      ];
}
