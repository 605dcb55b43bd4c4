-- The answers to a list of offers.
use Rattle.std.proofs.Common.{◌≡◌, ℕ, zero, suc, List, [], ◌∷◌, ◌++◌, length, take, slice_get, Some, None, Ok, Err, refl, sym, ap, subst, ◌∙◌, arith, append_assoc, append-nil}
use Rattle.krb_record.specs.declared.record.Record.{Record}
use Rattle.krb_peers.specs.Demand.{Demand}
use Rattle.krb_peers.specs.Order.{Offer, Answer, answer_to, carried_by, first_demand, demand_after, answers_to}
use Rattle.krb_peers.specs.Accepted.{accepted_of, IsAnswer, Accepted, HasAnswered}
use Rattle.krb_peers.proofs.OrderLemmas.{right_answer, one_answer, demand_next}

-- the first offer, then the others
accepted_of-cons : (offer : Offer) (answer : Answer) (offers : List Offer) (answers : List Answer) → accepted_of (offer ∷ offers) (answer ∷ answers) ≡ accepted_of (offer ∷ []) (answer ∷ []) ++ accepted_of offers answers
accepted_of-cons offer (Ok x) offers answers = refl
accepted_of-cons offer (Err e) offers answers = refl

-- `Accepted` by recursion, from records accepted before on
abbrev pub AcceptedFrom : ℕ → List Record → List Offer → List Answer → Type 0
AcceptedFrom first before [] [] = Unit {0}
AcceptedFrom first before [] (answer ∷ answers) = ⊥
AcceptedFrom first before (offer ∷ offers) [] = ⊥
AcceptedFrom first before (offer ∷ offers) (answer ∷ answers) =
    IsAnswer first before offer answer × AcceptedFrom first (before ++ accepted_of (offer ∷ []) (answer ∷ [])) offers answers

-- an answer for each place, from records accepted before on
abbrev EachAnswer : ℕ → List Record → List Offer → List Answer → Type 0
EachAnswer first before offers answers =
    (i : ℕ) (offer : Offer) (answer : Answer) → slice_get offers i ≡ Some offer → slice_get answers i ≡ Some answer
    → IsAnswer first (before ++ accepted_of (take i offers) (take i answers)) offer answer

module _ (first : ℕ) where
  from_each : (before : List Record) (offers : List Offer) (answers : List Answer) → length answers ≡ length offers → EachAnswer first before offers answers → AcceptedFrom first before offers answers
  from_each before [] [] long each = tt
  from_each before [] (answer ∷ answers) long each = absurd (let e = long in omega arith)
  from_each before (offer ∷ offers) [] long each = absurd (let e = long in omega arith)
  from_each before (offer ∷ offers) (answer ∷ answers) long each =
      let here : IsAnswer first (before ++ []) offer answer = each 0 offer answer refl refl in
      let front = before ++ accepted_of (offer ∷ []) (answer ∷ []) in
      let later : EachAnswer first front offers answers = λ i o a at-o at-a.
      let joined : before ++ accepted_of (offer ∷ take i offers) (answer ∷ take i answers) ≡ front ++ accepted_of (take i offers) (take i answers) =
      ap (λ z. before ++ z) (accepted_of-cons offer answer (take i offers) (take i answers)) ∙ sym (append_assoc before (accepted_of (offer ∷ []) (answer ∷ [])) (accepted_of (take i offers) (take i answers))) in
      let P : List Record → Type 0 = λ z. IsAnswer first z o a in
      subst P joined (each (suc i) o a at-o at-a) in
      ((let P : List Record → Type 0 = λ z. IsAnswer first z offer answer in subst P (append-nil before) here), from_each front offers answers (let e = long in omega arith) later)

  to_each : (before : List Record) (offers : List Offer) (answers : List Answer) → AcceptedFrom first before offers answers → EachAnswer first before offers answers
  to_each before [] answers all i offer answer at-o at-a = absurd (let e : None ≡ Some offer = at-o in cc)
  to_each before (o ∷ offers) [] all i offer answer at-o at-a = absurd all
  to_each before (o ∷ offers) (a ∷ answers) all zero offer answer at-o at-a =
      let same-o : o ≡ offer = (let e = at-o in cc) in
      let same-a : a ≡ answer = (let e = at-a in cc) in
      rw (← same-o, ← same-a, append-nil before) all.0
  to_each before (o ∷ offers) (a ∷ answers) all (suc i) offer answer at-o at-a =
      let front = before ++ accepted_of (o ∷ []) (a ∷ []) in
      let joined : before ++ accepted_of (o ∷ take i offers) (a ∷ take i answers) ≡ front ++ accepted_of (take i offers) (take i answers) =
      ap (λ z. before ++ z) (accepted_of-cons o a (take i offers) (take i answers)) ∙ sym (append_assoc before (accepted_of (o ∷ []) (a ∷ [])) (accepted_of (take i offers) (take i answers))) in
      let P : List Record → Type 0 = λ z. IsAnswer first z offer answer in
      subst P (sym joined) (to_each front offers answers all.1 i offer answer at-o at-a)

  same_length : (before : List Record) (offers : List Offer) (answers : List Answer) → AcceptedFrom first before offers answers → length answers ≡ length offers
  same_length before [] [] all = refl
  same_length before [] (answer ∷ answers) all = absurd all
  same_length before (offer ∷ offers) [] all = absurd all
  same_length before (offer ∷ offers) (answer ∷ answers) all = ap suc (same_length _ offers answers all.1)

  pub accepted_from : (offers : List Offer) (answers : List Answer) → Accepted first offers answers → AcceptedFrom first [] offers answers
  accepted_from offers answers all = from_each [] offers answers all.one_each all.each

  pub accepted_by : (offers : List Offer) (answers : List Answer) → AcceptedFrom first [] offers answers → Accepted first offers answers
  accepted_by offers answers all = record { one_each = same_length [] offers answers all; each = to_each [] offers answers all }

  -- the recursion gives such answers
  pub follows : (before : List Record) (offers : List Offer) → AcceptedFrom first before offers (answers_to (demand_after (first_demand first) before) offers)
  follows before [] = tt
  follows before (offer ∷ offers) =
      let answer = answer_to (demand_after (first_demand first) before) offer in
      let is : IsAnswer first before offer answer = right_answer first before offer in
      let front = before ++ accepted_of (offer ∷ []) (answer ∷ []) in
      let P : Demand → Type 0 = λ d. AcceptedFrom first front offers (answers_to d offers) in
      (is, subst P (sym (demand_next (first_demand first) before offer answer)) (follows front offers))

  -- and there are no others
  pub follows_alone : (before : List Record) (offers : List Offer) (answers : List Answer) → AcceptedFrom first before offers answers → answers ≡ answers_to (demand_after (first_demand first) before) offers
  follows_alone before [] [] all = refl
  follows_alone before [] (answer ∷ answers) all = absurd all
  follows_alone before (offer ∷ offers) [] all = absurd all
  follows_alone before (offer ∷ offers) (answer ∷ answers) all =
      let head : answer ≡ answer_to (demand_after (first_demand first) before) offer = one_answer first before offer answer _ all.0 (right_answer first before offer) in
      let tail = follows_alone (before ++ accepted_of (offer ∷ []) (answer ∷ [])) offers answers all.1 in
      let next = demand_next (first_demand first) before offer answer in
      let tail' : answers ≡ answers_to (demand_after (demand_after (first_demand first) before) (carried_by offer answer)) offers = (let P : Demand → Type 0 = λ d. answers ≡ answers_to d offers in subst P (sym next) tail) in
      let P : Answer → Type 0 = λ a. answer ∷ answers ≡ a ∷ answers_to (demand_after (demand_after (first_demand first) before) (carried_by offer a)) offers in
      subst P head (ap (λ z. answer ∷ z) tail')

  -- one offer more
  snoc : (before : List Record) (offers : List Offer) (answers : List Answer) (offer : Offer) (answer : Answer) → AcceptedFrom first before offers answers → IsAnswer first (before ++ accepted_of offers answers) offer answer
      → AcceptedFrom first before (offers ++ offer ∷ []) (answers ++ answer ∷ [])
  snoc before [] [] offer answer all is = ((let P : List Record → Type 0 = λ z. IsAnswer first z offer answer in subst P (append-nil before) is), tt)
  snoc before [] (a ∷ answers) offer answer all is = absurd all
  snoc before (o ∷ offers) [] offer answer all is = absurd all
  snoc before (o ∷ offers) (a ∷ answers) offer answer all is =
      let front = before ++ accepted_of (o ∷ []) (a ∷ []) in
      let joined : before ++ accepted_of (o ∷ offers) (a ∷ answers) ≡ front ++ accepted_of offers answers =
      ap (λ z. before ++ z) (accepted_of-cons o a offers answers) ∙ sym (append_assoc before (accepted_of (o ∷ []) (a ∷ [])) (accepted_of offers answers)) in
      let P : List Record → Type 0 = λ z. IsAnswer first z offer answer in
      (all.0, snoc front offers answers offer answer all.1 (subst P joined is))

  accepted_of-snoc : (before : List Record) (offers : List Offer) (answers : List Answer) (offer : Offer) (answer : Answer) → AcceptedFrom first before offers answers
      → accepted_of (offers ++ offer ∷ []) (answers ++ answer ∷ []) ≡ accepted_of offers answers ++ accepted_of (offer ∷ []) (answer ∷ [])
  accepted_of-snoc before [] [] offer answer all = refl
  accepted_of-snoc before [] (a ∷ answers) offer answer all = absurd all
  accepted_of-snoc before (o ∷ offers) [] offer answer all = absurd all
  accepted_of-snoc before (o ∷ offers) (a ∷ answers) offer answer all =
      let rest = accepted_of-snoc (before ++ accepted_of (o ∷ []) (a ∷ [])) offers answers offer answer all.1 in
      let one = accepted_of (o ∷ []) (a ∷ []) in
      accepted_of-cons o a (offers ++ offer ∷ []) (answers ++ answer ∷ []) ∙ ap (λ z. one ++ z) rest
      ∙ sym (append_assoc one (accepted_of offers answers) (accepted_of (offer ∷ []) (answer ∷ []))) ∙ ap (λ z. z ++ accepted_of (offer ∷ []) (answer ∷ [])) (sym (accepted_of-cons o a offers answers))

  -- an order answers one offer more
  pub answered_next : (offers : List Offer) (answers : List Answer) (demand : Demand) (offer : Offer) → HasAnswered first offers answers demand
      → HasAnswered first (offers ++ offer ∷ []) (answers ++ answer_to demand offer ∷ []) (demand_after demand (carried_by offer (answer_to demand offer)))
  answered_next offers answers demand offer has =
      let before = accepted_of offers answers in
      let all = accepted_from offers answers has.accepted in
      let answer = answer_to (demand_after (first_demand first) before) offer in
      let is : IsAnswer first before offer answer = right_answer first before offer in
      let next : HasAnswered first (offers ++ offer ∷ []) (answers ++ answer ∷ []) (demand_after (demand_after (first_demand first) before) (carried_by offer answer)) = record {
        accepted = accepted_by (offers ++ offer ∷ []) (answers ++ answer ∷ []) (snoc [] offers answers offer answer all is);
        state = demand_next (first_demand first) before offer answer ∙ ap (demand_after (first_demand first)) (sym (accepted_of-snoc [] offers answers offer answer all));
      } in
      let P : Demand → Type 0 = λ d. HasAnswered first (offers ++ offer ∷ []) (answers ++ answer_to d offer ∷ []) (demand_after d (carried_by offer (answer_to d offer))) in
      subst P (sym has.state) next

-- the same, by what was answered and what is demanded then
pub answered_with : (first : ℕ) (offers : List Offer) (answers : List Answer) (demand : Demand) (offer : Offer) (answer : Answer) (new : Demand) → HasAnswered first offers answers demand
    → answer ≡ answer_to demand offer → new ≡ demand_after demand (carried_by offer answer) → HasAnswered first (offers ++ offer ∷ []) (answers ++ answer ∷ []) new
answered_with first offers answers demand offer answer new has is after =
    let after' : new ≡ demand_after demand (carried_by offer (answer_to demand offer)) = after ∙ ap (λ a. demand_after demand (carried_by offer a)) is in
    let P : Demand → Type 0 = λ d. HasAnswered first (offers ++ offer ∷ []) (answers ++ answer ∷ []) d in
    let Q : Answer → Type 0 = λ a. HasAnswered first (offers ++ offer ∷ []) (answers ++ a ∷ []) (demand_after demand (carried_by offer (answer_to demand offer))) in
    subst P (sym after') (subst Q (sym is) (answered_next first offers answers demand offer has))
