-- One answer of an order: there is one. What is demanded next.
use Rattle.std.proofs.Common.{◌≡◌, ℕ, ◌+◌, ◌≤◌, ◌==◌, ◌&&◌, ◌||◌, nat_le, Bool, true, false, cond, zero, suc, List, [], ◌∷◌, ◌++◌, length, Ok, Err, refl, sym, ap, ap₂, ◌∙◌, arith, length-append}
use Rattle.std.specs.List.{Contains, list_any}
use Rattle.std.proofs.lemmas.List.Folds.{list_any-append}
use Rattle.std.proofs.lemmas.Bool.Decides.{nat_tests}
use Rattle.krb_record.specs.declared.record.Record.{Record}
use Rattle.krb_record.specs.declared.record.Record.TheVariants.{Text, Batch, Close}
use Rattle.krb_peers.specs.declared.order.OrderRefusal.TheVariants.{AfterClose, BadOrder}
use Rattle.krb_base.specs.Limits.{last_number}
use Rattle.krb_peers.specs.Demand.{Demand}
use Rattle.krb_peers.specs.Order.{Offer, Answer, answer_to, carried_by, first_demand, demand_after, next_demand}
use Rattle.krb_peers.specs.Accepted.{accepted_of, IsAnswer}
use Rattle.krb_record.specs.Record.{is_close}
use Rattle.std.proofs.Math.Bool.{or-false, or_assoc}

-- the test for a close is right
contains_from_any : (records : List Record) → list_any is_close records ≡ true → Contains records Close
contains_from_any [] any = absurd (let e : false ≡ true = any in cc)
contains_from_any (Text text ∷ records) any =
    let rest = contains_from_any records any in (suc rest.0, omega (arith, rest.1), rest.2)
contains_from_any (Batch texts ∷ records) any =
    let rest = contains_from_any records any in (suc rest.0, omega (arith, rest.1), rest.2)
contains_from_any (Close ∷ records) any = (0, omega arith, refl)

pub any_from_contains : (records : List Record) → Contains records Close → list_any is_close records ≡ true
any_from_contains [] (k, below, is) = absurd (omega (arith, below))
any_from_contains (Text text ∷ records) (zero, below, is) = absurd (let e : Text text ≡ Close = is in cc)
any_from_contains (Text text ∷ records) (suc k, below, is) = any_from_contains records (k, omega (arith, below), is)
any_from_contains (Batch texts ∷ records) (zero, below, is) = absurd (let e : Batch texts ≡ Close = is in cc)
any_from_contains (Batch texts ∷ records) (suc k, below, is) = any_from_contains records (k, omega (arith, below), is)
any_from_contains (Close ∷ records) contains = refl

pub any_from_none : (records : List Record) → (Contains records Close → ⊥) → list_any is_close records ≡ false
any_from_none records none =
    let by_test : (b : Bool) → list_any is_close records ≡ b → list_any is_close records ≡ false = λ b. elim b as (λ v. list_any is_close records ≡ v → list_any is_close records ≡ false) [
      | true ↦ λ is. absurd (none (contains_from_any records is))
      | false ↦ λ is. is
    ] in
    by_test (list_any is_close records) refl

-- the test for the demanded number is right
number_from_test : (number expected : ℕ) → ((number == expected) && nat_le number last_number) ≡ true → (number ≡ expected) × (number ≤ last_number)
number_from_test number expected test = grind (arith, nat_tests)

test_from_number : (number expected : ℕ) → number ≡ expected → number ≤ last_number → ((number == expected) && nat_le number last_number) ≡ true
test_from_number number expected is below = grind (arith, nat_tests)

module _ (first : ℕ) (before : List Record) (offer : Offer) where
  answer_by_tests : (closed next : Bool) → list_any is_close before ≡ closed → ((offer.number == first + length before) && nat_le offer.number last_number) ≡ next
      → IsAnswer first before offer (cond closed (Err AfterClose) (cond next (Ok tt) (Err BadOrder)))
  answer_by_tests true next closed_is next_is = record {
    accepted = (λ ok. absurd (let e : false ≡ true = ok in cc), λ comes. absurd (comes.not_closed (contains_from_any before closed_is)));
    after_close = (λ is. contains_from_any before closed_is, λ contains. refl);
  }
  answer_by_tests false true closed_is next_is =
      let number = number_from_test offer.number (first + length before) next_is in
      let none : Contains before Close → ⊥ = λ contains. let e = sym closed_is ∙ any_from_contains before contains in cc in
      record {
        accepted = (λ ok. record { not_closed = none; in_range = number.1; demanded = number.0 }, λ comes. refl);
        after_close = (λ is. absurd (let e = is in cc), λ contains. absurd (none contains));
      }
  answer_by_tests false false closed_is next_is =
      let none : Contains before Close → ⊥ = λ contains. let e = sym closed_is ∙ any_from_contains before contains in cc in
      record {
        accepted = (λ ok. absurd (let e : false ≡ true = ok in cc), λ comes. absurd (let e = sym next_is ∙ test_from_number offer.number (first + length before) comes.demanded comes.in_range in cc));
        after_close = (λ is. absurd (let e = is in cc), λ contains. absurd (none contains));
      }

  -- what `answer_to` gives is the answer
  pub right_answer : IsAnswer first before offer (answer_to (demand_after (first_demand first) before) offer)
  right_answer = answer_by_tests (list_any is_close before) ((offer.number == first + length before) && nat_le offer.number last_number) refl refl

  -- there is one answer
  pub one_answer : (a b : Answer) → IsAnswer first before offer a → IsAnswer first before offer b → a ≡ b
  one_answer (Ok x) (Ok y) is-a is-b = refl
  one_answer (Ok x) (Err e) is-a is-b = absurd (let no : false ≡ true = is-b.accepted.1 (is-a.accepted.0 refl) in cc)
  one_answer (Err e) (Ok y) is-a is-b = absurd (let no : false ≡ true = is-a.accepted.1 (is-b.accepted.0 refl) in cc)
  one_answer (Err AfterClose) (Err e) is-a is-b = sym (is-b.after_close.1 (is-a.after_close.0 refl))
  one_answer (Err BadOrder) (Err AfterClose) is-a is-b = is-a.after_close.1 (is-b.after_close.0 refl)
  one_answer (Err BadOrder) (Err BadOrder) is-a is-b = refl

-- ---- what is demanded

same_demand : (a b : ℕ) (c d : Bool) → a ≡ b → c ≡ d → (let x : Demand = record { expected = a; closed = c } in x) ≡ record { expected = b; closed = d }
same_demand a b c d e f = ap₂ (λ (x : ℕ) (y : Bool). let z : Demand = record { expected = x; closed = y } in z) e f

pub demand_after-nil : (demand : Demand) → demand_after demand [] ≡ demand
demand_after-nil demand = same_demand (demand.expected + 0) demand.expected (demand.closed || false) demand.closed (omega arith) (or-false demand.closed)

pub demand_after-append : (demand : Demand) (xs ys : List Record) → demand_after (demand_after demand xs) ys ≡ demand_after demand (xs ++ ys)
demand_after-append demand xs ys =
    same_demand (demand.expected + length xs + length ys) (demand.expected + length (xs ++ ys)) ((demand.closed || list_any is_close xs) || list_any is_close ys) (demand.closed || list_any is_close (xs ++ ys))
    (omega (arith, length-append xs ys))
    (or_assoc demand.closed (list_any is_close xs) (list_any is_close ys) ∙ ap (λ b. demand.closed || b) (sym (list_any-append is_close xs ys)))

-- after an answer, by the records accepted until then
pub demand_next : (demand : Demand) (before : List Record) (offer : Offer) (answer : Answer)
    → demand_after (demand_after demand before) (carried_by offer answer) ≡ demand_after demand (before ++ accepted_of (offer ∷ []) (answer ∷ []))
demand_next demand before offer (Ok x) = demand_after-append demand before (offer.carried ∷ [])
demand_next demand before offer (Err e) = demand_after-append demand before []

-- after one record that is accepted, which was the close or wasn't
pub demand_one : (demand : Demand) (carried : Record) → demand.closed ≡ false → next_demand demand (is_close carried) ≡ demand_after demand (carried ∷ [])
demand_one demand carried live =
    same_demand (demand.expected + 1) (demand.expected + 1) (is_close carried) (demand.closed || (is_close carried || false)) refl (rw live (sym (or-false (is_close carried))))
