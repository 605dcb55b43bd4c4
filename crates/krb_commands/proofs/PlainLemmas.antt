-- The outcomes of the frames that were opened, and the next one.
use Rattle.std.proofs.Common.{◌≡◌, ℕ, ◌+◌, ◌<◌, ◌≤◌, List, [], ◌∷◌, ◌++◌, length, take, get_or, Ok, inl, inr, refl, sym, ap, subst, ◌∙◌, arith, length-take-le}
use Rattle.std.proofs.lemmas.List.{take_more}
use Rattle.krb_base.specs.Limits.{last_number}
use Rattle.krb_seal.specs.Opens.{OpenerState, Opens}
use Rattle.krb_seal.specs.OpensParts.{Outcome}
use Rattle.krb_seal.specs.Unseals.{OrMemory}
use Rattle.krb_peers.specs.Moments.{moment_at}
use Rattle.krb_peers.proofs.NumberLemmas.{opens_in_range}
use Rattle.krb_commands.specs.Plain.{AreOutcomes, number_after}

-- a message that is opened has a number
pub opened_in_range : (o : OpenerState) (number now : ℕ) (frame user : List ℕ) → OrMemory (Opens o number now frame) (Ok user) → number ≤ last_number
opened_in_range o number now frame user (inl h) = absurd (let e = h in cc)
opened_in_range o number now frame user (inr h) = opens_in_range o number now frame user h

-- the number that is demanded after the outcomes
abbrev pub number_of : ℕ → List Outcome → ℕ
number_of number [] = number
number_of number (outcome ∷ outcomes) = number_of (number_after number outcome) outcomes

number_more : (number : ℕ) (outcomes : List Outcome) (outcome : Outcome) → number_of number (outcomes ++ outcome ∷ []) ≡ number_after (number_of number outcomes) outcome
number_more number [] outcome = refl
number_more number (o ∷ os) outcome = number_more (number_after number o) os outcome

module _ (opener : OpenerState) (nows : List ℕ) where
  outcomes_more : (number place : ℕ) (frames : List (List ℕ)) (outcomes : List Outcome) (frame : List ℕ) (outcome : Outcome) → AreOutcomes opener nows number place frames outcomes
      → Opens opener (number_of number outcomes) (moment_at nows (place + length frames)) frame outcome
      → AreOutcomes opener nows number place (frames ++ frame ∷ []) (outcomes ++ outcome ∷ [])
  outcomes_more number place [] [] frame outcome are opens =
      let same : place + 0 ≡ place = omega arith in
      (subst (λ p. Opens opener number (moment_at nows p) frame outcome) same opens, tt)
  outcomes_more number place [] (o ∷ os) frame outcome are opens = absurd are
  outcomes_more number place (f ∷ fs) [] frame outcome are opens = absurd are
  outcomes_more number place (f ∷ fs) (o ∷ os) frame outcome are opens =
      let same : place + length (f ∷ fs) ≡ (place + 1) + length fs = omega arith in
      let next = subst (λ p. Opens opener (number_of (number_after number o) os) (moment_at nows p) frame outcome) same opens in
      (are.0, outcomes_more (number_after number o) (place + 1) fs os frame outcome are.1 next)

  -- these are the outcomes of the frames, and this is the number that is demanded after them
  abbrev pub HaveOutcomes : ℕ → List (List ℕ) → List Outcome → ℕ → Type 0
  HaveOutcomes first frames outcomes number = AreOutcomes opener nows first 0 frames outcomes × (number ≡ number_of first outcomes)

  pub opened_more : (first : ℕ) (frames : List (List ℕ)) (place : ℕ) (outcomes : List Outcome) (number : ℕ) → HaveOutcomes first (take place frames) outcomes number
      → (frame : List ℕ) (now : ℕ) (outcome : Outcome) (number-now : ℕ) → place < length frames → frame ≡ get_or frames place frame → now ≡ moment_at nows place
      → Opens opener number now frame outcome → number-now ≡ number_after number outcome → HaveOutcomes first (take (place + 1) frames) (outcomes ++ outcome ∷ []) number-now
  opened_more first frames place outcomes number have frame now outcome number-now lt is at opens after =
      let count : place ≡ 0 + length (take place frames) = omega (arith, length-take-le place frames (omega arith)) in
      let numbered = subst (λ n. Opens opener n now frame outcome) have.1 opens in
      let timed = subst (λ t. Opens opener (number_of first outcomes) t frame outcome) (at ∙ ap (moment_at nows) count) numbered in
      let more : AreOutcomes opener nows first 0 (take place frames ++ frame ∷ []) (outcomes ++ outcome ∷ []) =
      outcomes_more first 0 (take place frames) outcomes frame outcome have.0 timed in
      let P : List (List ℕ) → Type 0 = λ l. AreOutcomes opener nows first 0 l (outcomes ++ outcome ∷ []) in (
        subst P (ap (λ f. take place frames ++ f ∷ []) is ∙ sym (take_more frames place frame lt)) more,
        after ∙ ap (λ n. number_after n outcome) have.1 ∙ sym (number_more first outcomes outcome),
      )
