-- Which offers are accepted.
use Rattle.std.specs.Prelude.{◌≡◌, ◌↔◌, ℕ, ◌+◌, ◌≤◌, List, [], ◌∷◌, ◌++◌, length, take, slice_get}
use Rattle.std.specs.Prelude.{Some, Ok, Err, IsOk}
use Rattle.std.specs.List.{All, Contains}
use Rattle.krb_record.specs.declared.record.Record.{Record}
use Rattle.krb_record.specs.declared.record.Record.TheVariants.{Close}
use Rattle.krb_peers.specs.declared.order.OrderRefusal.TheVariants.{AfterClose}
use Rattle.krb_peers.specs.Demand.{Demand}
use Rattle.krb_base.specs.Limits.{last_number}
use Rattle.krb_peers.specs.Order.{Offer, Answer, first_demand, demand_after}

-- the records that were accepted, in order
abbrev pub accepted_of : List Offer → List Answer → List Record
accepted_of [] answers = []
accepted_of (offer ∷ offers) [] = []
accepted_of (offer ∷ offers) (Ok accepted ∷ answers) = offer.carried ∷ accepted_of offers answers
accepted_of (offer ∷ offers) (Err refusal ∷ answers) = accepted_of offers answers

-- an offer comes next if no close was accepted before, and its number is at most the last one and
-- is the first number plus the count of the records accepted before
pub record ComesNext (first : ℕ) (before : List Record) (offer : Offer) : Type 0 where
  pub not_closed : ¬ Contains before Close
  pub in_range : offer.number ≤ last_number
  pub demanded : offer.number ≡ first + length before

-- an offer is accepted if and only if it comes next, and refused as after the close if and only if
-- a close was accepted before; any other is out of order
pub record IsAnswer (first : ℕ) (before : List Record) (offer : Offer)
    (answer : Answer) : Type 0 where
  pub accepted : IsOk answer ↔ ComesNext first before offer
  pub after_close : (answer ≡ Err AfterClose) ↔ Contains before Close

-- each offer has one answer, by the records accepted before it
pub record Accepted (first : ℕ) (offers : List Offer) (answers : List Answer) : Type 0 where
  pub one_each : length answers ≡ length offers
  pub each :
      (i : ℕ) (offer : Offer) (answer : Answer) → slice_get offers i ≡ Some offer
      → slice_get answers i ≡ Some answer
      → IsAnswer first (accepted_of (take i offers) (take i answers)) offer answer

-- an order in this state gave these answers to these offers
pub record HasAnswered (first : ℕ) (offers : List Offer) (answers : List Answer)
    (demand : Demand) : Type 0 where
  pub accepted : Accepted first offers answers
  pub state : demand ≡ demand_after (first_demand first) (accepted_of offers answers)

-- an offer numbered `first + k` carries record k of the list
abbrev pub IsNumbered : ℕ → List Record → Offer → Type 0
IsNumbered first records offer =
    (k : ℕ) → offer.number ≡ first + k → slice_get records k ≡ Some offer.carried

-- each offer does
abbrev pub AreNumbered : ℕ → List Record → List Offer → Type 0
AreNumbered first records offers = All (IsNumbered first records) offers

-- the list has one close, which is last
abbrev pub EndsWithItsClose : List Record → Type 0
EndsWithItsClose records =
    (front : List Record) × (¬ Contains front Close) × (records ≡ front ++ Close ∷ [])
