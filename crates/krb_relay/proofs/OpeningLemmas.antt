-- How the frames that wait are opened.
use Rattle.std.proofs.Common.{◌≡◌, ◌≢◌, ◌⊎◌, ℕ, zero, suc, ◌+◌, ◌-◌, ◌<◌, ◌≤◌, List, [], ◌∷◌, ◌++◌, length, take, set, get_or, Option, Some, None, Ok, Err, inl, inr, refl, sym, ap, ap₂, subst, ◌∙◌, arith}
use Rattle.std.proofs.lemmas.List.{length-append, length-set, length-take-le, take_more, get_or_append_left, get_or-append_right, get_or-set_same, get_or-set_other}
use Rattle.std.proofs.lemmas.Bool.Decides.{eqb_tells}
use Rattle.krb_base.specs.Bytes.{AreBytes}
use Rattle.krb_seal.specs.declared.refusal.Refusal.{Refusal}
use Rattle.krb_seal.specs.declared.refusal.Refusal.TheVariants.{Memory}
use Rattle.krb_peers.specs.declared.delivery.Delivery.{Delivery}
use Rattle.krb_peers.specs.declared.receiver.Receiving.{Receiving}
use Rattle.krb_peers.specs.Demand.{Demand}
use Rattle.krb_peers.specs.Moments.{moment_at}
use Rattle.krb_peers.specs.Order.{demand_after}
use Rattle.krb_peers.specs.Receiver.{receiver_after, verdict_by, IsJudgement}
use Rattle.krb_peers.specs.ReceiverState.{ReceiverState}
use Rattle.krb_peers.specs.Verdicts.{Verdict, IsVerdict, accepted_by, records_of, verdict, verdicts}
use Rattle.krb_peers.proofs.LoggedLemmas.{records_of-push}
use Rattle.krb_peers.proofs.OrderLemmas.{demand_after-nil, demand_after-append}
use Rattle.krb_peers.proofs.ReceiveLemmas.{answer_is}
use Rattle.krb_peers.proofs.VerdictLemmas.{verdicts-push}
use Rattle.krb_relay.specs.declared.waiting.Waiting.{Waiting}
use Rattle.krb_relay.specs.Opening.{AreReady, Enters, HasJudged, HasMoment, IsReady, JudgesFirst, JudgesFrame, JudgesNext, Opens, OpensBelow, OpensEach, listed}

-- ---- frames of one lane

pub judged_none : (r : Receiving) (place : ℕ) (frames : List (List ℕ)) → HasJudged r place frames [] r
judged_none r place frames = record {
  verdicts_are = refl;
  receiver_is = ap (λ (d : Demand). let z : ReceiverState = record r.receiver { demand = d } in z) (sym (demand_after-nil r.receiver.demand));
  nows_are = refl;
}

-- the verdict is the next one of the list
next_is : (r : Receiving) (place : ℕ) (frames : List (List ℕ)) (vs : List Verdict) (now : Receiving) (frame : List ℕ) → HasJudged r place frames vs now
    → verdict_by now.receiver (moment_at now.nows.items (place + length vs)) frame
    ≡ verdict r.receiver.opener (demand_after r.receiver.demand (records_of vs)) (moment_at r.nows.items (place + length vs)) frame
unfolding verdict_by
next_is r place frames vs now frame h =
    let at : moment_at now.nows.items (place + length vs) ≡ moment_at r.nows.items (place + length vs) = ap (λ n. moment_at n.items (place + length vs)) h.nows_are in
    ap₂ (λ (z : ReceiverState) (n : ℕ). verdict z.opener z.demand n frame) h.receiver_is at

pub judged_more : (r : Receiving) (place : ℕ) (frames : List (List ℕ)) (vs : List Verdict) (now next : Receiving) (frame : List ℕ) (v : Verdict)
    → length vs < length frames → frame ≡ get_or frames (length vs) frame → HasJudged r place frames vs now → JudgesNext now (place + length vs) frame (Some v) next
    → HasJudged r place frames (vs ++ v ∷ []) next
judged_more r place frames vs now next frame v lt at h j =
    let o = r.receiver.opener in
    let ns : List ℕ = r.nows.items in
    let d = r.receiver.demand in
    let front : List (List ℕ) = take (length vs) frames in
    let len : length front ≡ length vs = length-take-le (length vs) frames (omega (arith, lt)) in
    let more : take (length (vs ++ v ∷ [])) frames ≡ front ++ frame ∷ [] =
    ap (λ n. take n frames) (length-append vs (v ∷ [])) ∙ (take_more frames (length vs) frame lt ∙ ap (λ f. front ++ f ∷ []) (sym at)) in
    let v_is : v ≡ verdict o (demand_after d (records_of (verdicts o ns d place front))) (moment_at ns (place + length front)) frame =
    j.0
    ∙ (next_is r place frames vs now frame h
    ∙ ap₂ (λ ws n. verdict o (demand_after d (records_of ws)) (moment_at ns (place + n)) frame) h.verdicts_are (sym len)) in
    record {
      verdicts_are =
          ap₂ (λ ws w. ws ++ w ∷ []) h.verdicts_are v_is
          ∙ (sym (verdicts-push o ns d place front frame) ∙ ap (λ fs. verdicts o ns d place fs) (sym more));
      receiver_is =
          ap (λ (x : Receiving). x.receiver) j.1
          ∙ (ap (λ z. receiver_after z v) h.receiver_is
          ∙ ap (λ (e : Demand). let z : ReceiverState = record r.receiver { demand = e } in z)
          (demand_after-append d (records_of vs) (accepted_by v) ∙ ap (λ rs. demand_after d rs) (sym (records_of-push vs v))));
      nows_are = ap (λ (x : Receiving). x.nows) j.1 ∙ h.nows_are;
    }

-- what was opened of a lane from the place of its first frame on
pub opens_from : (r : Receiving) (w : Waiting) (now : Receiving) (v : Waiting) (place : ℕ) → v.came ≡ w.came → v.frames.items ≡ w.frames.items → v.last ≡ w.last
    → place + length w.frames.items ≡ w.came → HasJudged r place w.frames.items v.verdicts.items now → Opens r w now v
opens_from r w now v place came frames last at h = record {
  came_is = came;
  frames_are = frames;
  last_is = last;
  judged = λ other is.
      let P : ℕ → Type 0 = λ n. HasJudged r n w.frames.items v.verdicts.items now in
      subst P (let e : place ≡ other = omega (arith, at, is) in e) h;
}

-- ---- the lanes

pub within_default : {X : Type 0} (xs : List X) (k : ℕ) (d e : X) → k < length xs → get_or xs k d ≡ get_or xs k e
within_default [] k d e lt = absurd (omega (arith, lt))
within_default (x ∷ xs) zero d e lt = refl
within_default (x ∷ xs) (suc k) d e lt = within_default xs k d e (omega (arith, lt))

pub side : (k n : ℕ) → (k < n) ⊎ (n ≤ k)
side k zero = inr (omega arith)
side zero (suc n) = inl (omega arith)
side (suc k) (suc n) = elim (side k n) [ inl h ↦ inl (omega (arith, h)) | inr h ↦ inr (omega (arith, h)) ]

-- both halves of the lanes can be opened
module _ (front back all : List Receiving) (first rest both : List Waiting) (cut : all ≡ front ++ back) (split : both ≡ first ++ rest) (even : length front ≡ length first) where
  pub first_ready : AreReady all both → AreReady front first
  first_ready h = record {
    same = even;
    moments = λ lane r lt.
        let at : get_or all lane r ≡ get_or front lane r = ap (λ l. get_or l lane r) cut ∙ get_or_append_left front back r lane lt in
        let n = ap length cut ∙ length-append front back in
        subst HasMoment at (h.moments lane r (omega (arith, n, lt)));
    ready = λ lane w lt.
        let at : get_or both lane w ≡ get_or first lane w = ap (λ l. get_or l lane w) split ∙ get_or_append_left first rest w lane lt in
        let n = ap length split ∙ length-append first rest in
        subst IsReady at (h.ready lane w (omega (arith, n, lt)));
  }

  pub rest_ready : AreReady all both → AreReady back rest
  rest_ready h =
      let n = ap length cut ∙ length-append front back in
      let m = ap length split ∙ length-append first rest in
      let s = h.same in
      record {
        same = omega (arith, n, m, s, even);
        moments = λ lane r lt.
            let k : ℕ = length front + lane in
            let down : k - length front ≡ lane = omega arith in
            let at : get_or all k r ≡ get_or back lane r =
            ap (λ l. get_or l k r) cut ∙ (get_or-append_right front back (length front) k r refl (omega arith) ∙ ap (λ i. get_or back i r) down) in
            subst HasMoment at (h.moments k r (omega (arith, n, lt)));
        ready = λ lane w lt.
            let k : ℕ = length first + lane in
            let down : k - length first ≡ lane = omega arith in
            let at : get_or both k w ≡ get_or rest lane w =
            ap (λ l. get_or l k w) split ∙ (get_or-append_right first rest (length first) k w refl (omega arith) ∙ ap (λ i. get_or rest i w) down) in
            subst IsReady at (h.ready k w (omega (arith, m, lt)));
      }

  -- and what is opened of each half is opened of all
  pub both_open : (front-now back-now : List Receiving) (first-now rest-now : List Waiting) → OpensEach front first front-now first-now → OpensEach back rest back-now rest-now
      → OpensEach all both (front-now ++ back-now) (first-now ++ rest-now)
  both_open front-now back-now first-now rest-now f b =
      let n = ap length cut ∙ length-append front back in
      let m = ap length split ∙ length-append first rest in
      let fr = f.receivers in
      let fl = f.lanes in
      let br = b.receivers in
      let bl = b.lanes in
      record {
        receivers = (let e = length-append front-now back-now in omega (arith, e, n, fr, br));
        lanes = (let e = length-append first-now rest-now in omega (arith, e, m, fl, bl));
        each = λ lane r next w v lt.
            elim (side lane (length front)) [
              | inl below ↦
                  let a : get_or all lane r ≡ get_or front lane r = ap (λ l. get_or l lane r) cut ∙ get_or_append_left front back r lane below in
                  let x : get_or both lane w ≡ get_or first lane w = ap (λ l. get_or l lane w) split ∙ get_or_append_left first rest w lane (omega (arith, even, below)) in
                  let c : get_or (front-now ++ back-now) lane next ≡ get_or front-now lane next = get_or_append_left front-now back-now next lane (omega (arith, fr, below)) in
                  let y : get_or (first-now ++ rest-now) lane v ≡ get_or first-now lane v = get_or_append_left first-now rest-now v lane (omega (arith, even, fl, below)) in
                  rw (a, x, c, y) (f.each lane r next w v below)
              | inr above ↦
                  let k : ℕ = lane - length front in
                  let a : get_or all lane r ≡ get_or back k r = ap (λ l. get_or l lane r) cut ∙ get_or-append_right front back (length front) lane r refl above in
                  let x : get_or both lane w ≡ get_or rest k w = ap (λ l. get_or l lane w) split ∙ get_or-append_right first rest (length front) lane w (sym even) above in
                  let c : get_or (front-now ++ back-now) lane next ≡ get_or back-now k next = get_or-append_right front-now back-now (length front) lane next fr above in
                  let y : get_or (first-now ++ rest-now) lane v ≡ get_or rest-now k v = get_or-append_right first-now rest-now (length front) lane v (fl ∙ sym even) above in
                  rw (a, x, c, y) (b.each k r next w v (omega (arith, n, lt, above)))
            ];
      }

-- ---- the receiver's answer on one frame

module _ (r : Receiving) (place : ℕ) (frame : List ℕ) (now : ℕ) where
  judged_as : (v : Verdict) (after : ReceiverState) → AreBytes frame → now ≡ moment_at r.nows.items place → IsVerdict r.receiver.opener r.receiver.demand now frame v → after ≡ receiver_after r.receiver v
      → JudgesNext r place frame (Some v) (record r { receiver = after })
  judged_as v after bytes at told is =
      let P : ℕ → Type 0 = λ n. IsVerdict r.receiver.opener r.receiver.demand n frame v in (
        answer_is r.receiver (moment_at r.nows.items place) frame v bytes (subst P at told),
        ap (λ (z : ReceiverState). let y : Receiving = record r { receiver = z } in y) is,
      )

  pub judged_delivery : (d : Delivery) (after : ReceiverState) → AreBytes frame → now ≡ moment_at r.nows.items place → IsJudgement r.receiver now frame (Ok d) → after ≡ receiver_after r.receiver (Ok d)
      → JudgesNext r place frame (Some (Ok d)) (record r { receiver = after })
  judged_delivery d after bytes at (inl memory) is = absurd (let e = memory in cc)
  judged_delivery d after bytes at (inr told) is = judged_as (Ok d) after bytes at told is

  pub judged_refusal : (refusal : Refusal) (after : ReceiverState) → AreBytes frame → now ≡ moment_at r.nows.items place → IsJudgement r.receiver now frame (Err refusal)
      → after ≡ receiver_after r.receiver (Err refusal) → refusal ≢ Memory → JudgesNext r place frame (Some (Err refusal)) (record r { receiver = after })
  judged_refusal refusal after bytes at (inl memory) is off = absurd (off (let e = memory in cc))
  judged_refusal refusal after bytes at (inr told) is off = judged_as (Err refusal) after bytes at told is

-- ---- one lane after another

pub opens_first : (receivings : List Receiving) (ws : List Waiting) → OpensBelow 0 receivings ws receivings ws
opens_first receivings ws = record {
  receivers = refl;
  lanes = refl;
  done = λ lane r next w v lt within. absurd (omega (arith, lt));
  rest = λ lane r w le. (refl, refl);
}

pub opens_next : (number : ℕ) (receivings now : List Receiving) (ws opened : List Waiting) (d : Receiving) (e : Waiting) (next : Receiving) (v : Waiting) → length receivings ≡ length ws → number < length receivings
    → OpensBelow number receivings ws now opened → Opens (get_or now number d) (get_or opened number e) next v
    → OpensBelow (number + 1) receivings ws (set now number next) (set opened number v)
opens_next number receivings now ws opened d e next v even lt h o =
    let n = h.receivers in
    let m = h.lanes in
    record {
      receivers = length-set now number next ∙ n;
      lanes = length-set opened number v ∙ m;
      done = λ lane r x w y below within.
          elim (eqb_tells lane number) [
            | inl same ↦
                let P : ℕ → Type 0 = λ k. Opens (get_or receivings k r) (get_or ws k w) (get_or (set now number next) k x) (get_or (set opened number v) k y) in
                let a : get_or now number d ≡ get_or receivings number r = (h.rest number d e (omega arith)).0 ∙ within_default receivings number d r lt in
                let b : get_or opened number e ≡ get_or ws number w = (h.rest number d e (omega arith)).1 ∙ within_default ws number e w (omega (arith, even, lt)) in
                let at : P number =
                rw (get_or-set_same now number next x (omega (arith, n, lt)), get_or-set_same opened number v y (omega (arith, m, even, lt)), sym a, sym b) o in
                subst P (sym same.1) at
            | inr off ↦
                let apart = off.1 in
                rw (get_or-set_other now number lane next x apart, get_or-set_other opened number lane v y apart) (h.done lane r x w y (omega (arith, below, apart)) within)
          ];
      rest = λ lane r w le.
          let apart : lane ≢ number = omega (arith, le) in (
            get_or-set_other now number lane next r apart ∙ (h.rest lane r w (omega (arith, le))).0,
            get_or-set_other opened number lane v w apart ∙ (h.rest lane r w (omega (arith, le))).1,
          );
    }

pub opens_all : (number : ℕ) (receivings now : List Receiving) (ws opened : List Waiting) → OpensBelow number receivings ws now opened → length receivings ≤ number → OpensEach receivings ws now opened
opens_all number receivings now ws opened h past = record {
  receivers = h.receivers;
  lanes = h.lanes;
  each = λ lane r next w v lt. h.done lane r next w v (omega (arith, lt, past)) lt;
}

-- ---- where opening a lane begins and ends

pub none_judged : (r : Receiving) (place : ℕ) (frames : List (List ℕ)) (vs : List Verdict) → vs ≡ [] → HasJudged r place frames vs r
none_judged r place frames vs none = let P : List Verdict → Type 0 = λ us. HasJudged r place frames us r in subst P (sym none) (judged_none r place frames)

pub opens_none : (r : Receiving) (w v : Waiting) → v.came ≡ w.came → v.frames.items ≡ w.frames.items → v.last ≡ w.last → v.verdicts.items ≡ [] → Opens r w r v
opens_none r w v came frames last_is none =
    record { came_is = came; frames_are = frames; last_is = last_is; judged = λ place at. none_judged r place w.frames.items v.verdicts.items none }

pub opens_at : (r : Receiving) (w : Waiting) (now next : Receiving) (v : Waiting) (count : ℕ) → v.came ≡ w.came → v.frames ≡ w.frames → v.last ≡ w.last → count ≡ length w.frames.items → length w.frames.items ≤ w.came
    → HasJudged r (w.came - count) w.frames.items v.verdicts.items now → next ≡ now → Opens r w next v
opens_at r w now next v count came frames last_is n le h same =
    let P : Receiving → Type 0 = λ x. HasJudged r (w.came - count) w.frames.items v.verdicts.items x in
    opens_from r w next v (w.came - count) came (ap (λ q. q.items) frames) last_is (omega (arith, n, le)) (subst P (sym same) h)

-- a frame more
pub one_opened : (r : Receiving) (place k : ℕ) (frames so_far : List (List ℕ)) (vs all : List Verdict) (now next : Receiving) (frame bytes : List ℕ) (v : Verdict)
    → k < length frames → length vs ≡ k → so_far ≡ frames → frame ≡ bytes → bytes ≡ get_or so_far k bytes → HasJudged r place frames vs now → JudgesNext now (place + k) frame (Some v) next → all ≡ vs ++ v ∷ []
    → HasJudged r place frames all next
one_opened r place k frames so_far vs all now next frame bytes v lt count same is at h j pushed =
    let P : ℕ → Type 0 = λ n. JudgesNext now (place + n) frame (Some v) next in
    let Q : List Verdict → Type 0 = λ us. HasJudged r place frames us next in
    let stands : frame ≡ get_or frames (length vs) frame = is ∙ (at ∙ (ap (λ y. get_or so_far k y) (sym is) ∙ ap₂ (λ l n. get_or l n frame) same (sym count))) in
    subst Q (sym pushed) (judged_more r place frames vs now next frame v (omega (arith, lt, count)) stands h (subst P (sym count) j))

-- ---- the first frame of a lane

first_judged : (r : Receiving) (place : ℕ) (frames : List (List ℕ)) (v : Option Verdict) (now : Receiving) → JudgesFrame r place frames v now → HasJudged r place frames (listed v) now
first_judged r place [] v now h =
    let P : Option Verdict → Receiving → Type 0 = λ u x. HasJudged r place [] (listed u) x in
    subst (λ u. P u now) (sym h.0) (subst (λ x. P None x) (sym h.1) (judged_none r place []))
first_judged r place (frame ∷ rest) None now h =
    let P : Receiving → Type 0 = λ x. HasJudged r place (frame ∷ rest) [] x in
    subst P (sym h) (judged_none r place (frame ∷ rest))
first_judged r place (frame ∷ rest) (Some v) now h =
    let P : ℕ → Type 0 = λ n. JudgesNext r n frame (Some v) now in
    let at : place ≡ place + 0 = omega arith in
    judged_more r place (frame ∷ rest) [] r now frame v (omega arith) refl (judged_none r place (frame ∷ rest)) (subst P at h)

-- its verdict is entered
pub opens_entered : (r : Receiving) (w : Waiting) (v : Option Verdict) (now : Receiving) (x : Waiting) → JudgesFirst r w v now → Enters w v x → Opens r w now x
opens_entered r w v now x judged e = record {
  came_is = e.came_is;
  frames_are = e.frames_are;
  last_is = e.last_is;
  judged = λ place at.
      let P : List Verdict → Type 0 = λ us. HasJudged r place w.frames.items us now in
      subst P (sym e.verdicts_are) (first_judged r place w.frames.items v now (judged place at));
}

-- a list that isn't empty begins with its first element
pub begins_with : {X : Type 0} (xs : List X) (x : X) → 0 < length xs → x ≡ get_or xs 0 x → (rest : List X) × (xs ≡ x ∷ rest)
begins_with [] x lt is = absurd (omega (arith, lt))
begins_with (y ∷ ys) x lt is = (ys, ap (λ z. z ∷ ys) (sym is))

-- the verdict on it is that on the first frame
pub judges_frame : (r : Receiving) (place other : ℕ) (frames rest : List (List ℕ)) (frame bytes : List ℕ) (v : Option Verdict) (now : Receiving) → frames ≡ frame ∷ rest → bytes ≡ frame → place ≡ other
    → JudgesNext r place bytes v now → JudgesFrame r other frames v now
judges_frame r place other frames rest frame bytes v now is same at h =
    let P : List (List ℕ) → Type 0 = λ fs. JudgesFrame r other fs v now in
    let Q : List ℕ → ℕ → Type 0 = λ f n. JudgesNext r n f v now in
    subst P (sym is) (subst (λ n. Q frame n) at (subst (λ f. Q f place) same h))
