-- The first frames of all lanes: judged one lane after another, and then entered.
use Rattle.std.proofs.Common.{◌≡◌, ◌≢◌, ℕ, ◌+◌, ◌<◌, ◌≤◌, List, length, set, get_or, Option, None, inl, inr, refl, sym, subst, ◌∙◌, arith}
use Rattle.std.specs.Option.{ForSome}
use Rattle.std.proofs.lemmas.List.{length-set, get_or-set_same, get_or-set_other}
use Rattle.std.proofs.lemmas.Bool.Decides.{eqb_tells}
use Rattle.krb_seal.specs.declared.coded.Coded.{Coded}
use Rattle.krb_peers.specs.declared.receiver.Receiving.{Receiving}
use Rattle.krb_peers.specs.Verdicts.{Verdict}
use Rattle.krb_relay.specs.declared.waiting.Waiting.{Waiting}
use Rattle.krb_relay.specs.Codes.{IsCodedFirst}
use Rattle.krb_relay.specs.Opening.{Enters, EntersEach, JudgesFirst, OpensEach}
use Rattle.krb_relay.proofs.OpeningLemmas.{opens_entered, within_default}

-- the lanes below this one were judged, and the codes of the others are there
pub record JudgedBelow (number : ℕ) (rs : List Receiving) (ws : List Waiting) (now : List Receiving) (coded : List (Option Coded)) (verdicts : List (Option Verdict)) : Type 0 where
  pub receivers : length now ≡ length rs
  pub codes : length coded ≡ 8
  pub told : length verdicts ≡ 8
  pub done :
      (lane : ℕ) (r n : Receiving) (w : Waiting) → lane < number → lane < length rs
      → JudgesFirst (get_or rs lane r) (get_or ws lane w) (get_or verdicts lane None) (get_or now lane n)
  pub rest : (lane : ℕ) (r : Receiving) → number ≤ lane → get_or now lane r ≡ get_or rs lane r
  pub left :
      (lane : ℕ) (r : Receiving) (w : Waiting) → number ≤ lane → lane < length rs
      → ForSome (get_or coded lane None) (IsCodedFirst (get_or rs lane r) (get_or ws lane w))

pub judged_first : (rs : List Receiving) (ws : List Waiting) (coded : List (Option Coded)) (verdicts : List (Option Verdict)) → length coded ≡ 8 → length verdicts ≡ 8
    → ((lane : ℕ) (r : Receiving) (w : Waiting) → lane < length rs → ForSome (get_or coded lane None) (IsCodedFirst (get_or rs lane r) (get_or ws lane w)))
    → JudgedBelow 0 rs ws rs coded verdicts
judged_first rs ws coded verdicts n m all = record {
  receivers = refl;
  codes = n;
  told = m;
  done = λ lane r x w below within. absurd (omega (arith, below));
  rest = λ lane r le. refl;
  left = λ lane r w le within. all lane r w within;
}

pub judged_next : (number : ℕ) (rs : List Receiving) (ws : List Waiting) (now : List Receiving) (coded : List (Option Coded)) (verdicts : List (Option Verdict))
    (d next : Receiving) (e : Waiting) (v : Option Verdict) → length rs ≡ length ws → length rs ≤ 8 → number < length rs → JudgedBelow number rs ws now coded verdicts
    → JudgesFirst (get_or now number d) (get_or ws number e) v next
    → JudgedBelow (number + 1) rs ws (set now number next) (set coded number None) (set verdicts number v)
judged_next number rs ws now coded verdicts d next e v even few lt h j =
    let n = h.receivers in
    let c = h.codes in
    let m = h.told in
    record {
      receivers = length-set now number next ∙ n;
      codes = length-set coded number None ∙ c;
      told = length-set verdicts number v ∙ m;
      done = λ lane r x w below within.
          elim (eqb_tells lane number) [
            | inl same ↦
                let P : ℕ → Type 0 = λ k. JudgesFirst (get_or rs k r) (get_or ws k w) (get_or (set verdicts number v) k None) (get_or (set now number next) k x) in
                let a : get_or now number d ≡ get_or rs number r = h.rest number d (omega arith) ∙ within_default rs number d r lt in
                let b : get_or ws number e ≡ get_or ws number w = within_default ws number e w (omega (arith, even, lt)) in
                let at : P number =
                rw (get_or-set_same now number next x (omega (arith, n, lt)), get_or-set_same verdicts number v None (omega (arith, m, few, lt)), sym a, sym b) j in
                subst P (sym same.1) at
            | inr off ↦
                let apart = off.1 in
                rw (get_or-set_other now number lane next x apart, get_or-set_other verdicts number lane v None apart) (h.done lane r x w (omega (arith, below, apart)) within)
          ];
      rest = λ lane r le.
          let apart : lane ≢ number = omega (arith, le) in
          get_or-set_other now number lane next r apart ∙ h.rest lane r (omega (arith, le));
      left = λ lane r w le within.
          let apart : lane ≢ number = omega (arith, le) in
          rw (get_or-set_other coded number lane None None apart) (h.left lane r w (omega (arith, le)) within);
    }

-- the code of the next lane is that of its first frame, whose receiver is as it was
pub code_left : (number : ℕ) (rs : List Receiving) (ws : List Waiting) (now : List Receiving) (coded : List (Option Coded)) (verdicts : List (Option Verdict)) (d : Receiving) (e : Waiting) (o : Option Coded)
    → number < length rs → length rs ≤ 8 → JudgedBelow number rs ws now coded verdicts → ForSome (get_or coded number o) (IsCodedFirst (get_or now number d) (get_or ws number e))
code_left number rs ws now coded verdicts d e o lt few h =
    let n = h.codes in
    let P : Option Coded → Receiving → Type 0 = λ p r. ForSome p (IsCodedFirst r (get_or ws number e)) in
    subst (λ p. P p (get_or now number d)) (within_default coded number None o (omega (arith, n, few, lt)))
    (subst (λ r. P (get_or coded number None) r) (sym (h.rest number d (omega arith))) (h.left number d e (omega arith) lt))

-- the verdicts on the lanes below this one were entered
pub record EnteredBelow (number : ℕ) (ws : List Waiting) (verdicts : List (Option Verdict)) (now : List Waiting) (left : List (Option Verdict)) : Type 0 where
  pub lanes : length now ≡ length ws
  pub told : length left ≡ 8
  pub done :
      (lane : ℕ) (w v : Waiting) → lane < number → lane < length ws
      → Enters (get_or ws lane w) (get_or verdicts lane None) (get_or now lane v)
  pub rest : (lane : ℕ) (w : Waiting) → number ≤ lane → get_or now lane w ≡ get_or ws lane w
  pub same : (lane : ℕ) → number ≤ lane → get_or left lane None ≡ get_or verdicts lane None

pub entered_first : (ws : List Waiting) (verdicts : List (Option Verdict)) → length verdicts ≡ 8 → EnteredBelow 0 ws verdicts ws verdicts
entered_first ws verdicts n = record {
  lanes = refl;
  told = n;
  done = λ lane w v below within. absurd (omega (arith, below));
  rest = λ lane w le. refl;
  same = λ lane le. refl;
}

pub entered_next : (number : ℕ) (ws : List Waiting) (verdicts : List (Option Verdict)) (now : List Waiting) (left : List (Option Verdict)) (e next : Waiting) (o : Option Verdict)
    → number < length ws → length ws ≤ 8 → EnteredBelow number ws verdicts now left → Enters (get_or now number e) (get_or left number o) next
    → EnteredBelow (number + 1) ws verdicts (set now number next) (set left number None)
entered_next number ws verdicts now left e next o lt few h enters =
    let n = h.lanes in
    let m = h.told in
    record {
      lanes = length-set now number next ∙ n;
      told = length-set left number None ∙ m;
      done = λ lane w v below within.
          elim (eqb_tells lane number) [
            | inl same ↦
                let P : ℕ → Type 0 = λ k. Enters (get_or ws k w) (get_or verdicts k None) (get_or (set now number next) k v) in
                let a : get_or now number e ≡ get_or ws number w = h.rest number e (omega arith) ∙ within_default ws number e w lt in
                let b : get_or left number o ≡ get_or verdicts number None = within_default left number o None (omega (arith, m, few, lt)) ∙ h.same number (omega arith) in
                let at : P number = rw (get_or-set_same now number next v (omega (arith, n, lt)), sym a, sym b) enters in
                subst P (sym same.1) at
            | inr off ↦ rw (get_or-set_other now number lane next v off.1) (h.done lane w v (omega (arith, below, off.1)) within)
          ];
      rest = λ lane w le.
          let apart : lane ≢ number = omega (arith, le) in
          get_or-set_other now number lane next w apart ∙ h.rest lane w (omega (arith, le));
      same = λ lane le.
          let apart : lane ≢ number = omega (arith, le) in
          get_or-set_other left number lane None None apart ∙ h.same lane (omega (arith, le));
    }

-- what was judged and entered is opened
pub opens_together : (rs now : List Receiving) (ws opened : List Waiting) (verdicts : List (Option Verdict)) → length rs ≡ length ws → length now ≡ length rs
    → ((lane : ℕ) (r n : Receiving) (w : Waiting) → lane < length rs → JudgesFirst (get_or rs lane r) (get_or ws lane w) (get_or verdicts lane None) (get_or now lane n))
    → EntersEach ws verdicts opened → OpensEach rs ws now opened
opens_together rs now ws opened verdicts even same judged entered = record {
  receivers = same;
  lanes = entered.lanes;
  each = λ lane r next w v lt.
      opens_entered (get_or rs lane r) (get_or ws lane w) (get_or verdicts lane None) (get_or now lane next) (get_or opened lane v) (judged lane r next w lt)
      (entered.each lane w v (omega (arith, even, lt)));
}
