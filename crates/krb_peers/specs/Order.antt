-- What an order demands, and its answer to an offer.
use Rattle.std.specs.Prelude.{ℕ, Bool, false, ◌+◌, ◌==◌, ◌&&◌, ◌||◌, nat_le, List, [], ◌∷◌, length}
use Rattle.std.specs.Prelude.{codes, Result, Ok, Err, ⊤, if◌then◌else◌}
use Rattle.std.specs.List.{list_any}
use Rattle.krb_record.specs.declared.record.Record.{Record}
use Rattle.krb_peers.specs.declared.order.OrderRefusal.{OrderRefusal}
use Rattle.krb_peers.specs.declared.order.OrderRefusal.TheVariants.{AfterClose, BadOrder}
use Rattle.krb_peers.specs.Demand.{Demand}
use Rattle.krb_base.specs.Limits.{last_number}
use Rattle.krb_record.specs.Record.{is_close}

-- a record that is offered under a number
pub record Offer : Type 0 where
  pub number : ℕ
  pub carried : Record

abbrev pub offer : ℕ → Record → Offer
offer number carried = record { number = number; carried = carried }

-- a record is accepted, or refused by name
abbrev pub Answer : Type 0
Answer = Result ⊤ OrderRefusal

-- the answer to one offer
abbrev pub answer_to : Demand → Offer → Answer
answer_to demand offer =
    if demand.closed then Err AfterClose
    else (if (offer.number == demand.expected) && nat_le offer.number last_number then Ok tt
    else Err BadOrder)

-- the record that an answer accepts
abbrev pub carried_by : Offer → Answer → List Record
carried_by offer (Ok accepted) = offer.carried ∷ []
carried_by offer (Err refusal) = []

-- ---- what is demanded

-- before anything was accepted: this number
abbrev pub first_demand : ℕ → Demand
first_demand first = record { expected = first; closed = false }

-- what is demanded after these records were accepted
abbrev pub demand_after : Demand → List Record → Demand
demand_after demand accepted =
    record {
      expected = demand.expected + length accepted;
      closed = demand.closed
          || list_any is_close accepted;
    }

-- the same after one record that may be accepted, which was the close or wasn't
abbrev pub next_demand : Demand → Bool → Demand
next_demand demand close = record { expected = demand.expected + 1; closed = close }

-- the answers to offers, one after another
abbrev pub answers_to : Demand → List Offer → List Answer
answers_to demand [] = []
answers_to demand (offer ∷ offers) =
    let answer = answer_to demand offer in
    answer ∷ answers_to (demand_after demand (carried_by offer answer)) offers

-- the number of a refusal
abbrev pub code_of : OrderRefusal → ℕ
code_of AfterClose = 903
code_of BadOrder = 42

-- what is printed of it
abbrev pub words_of : OrderRefusal → List ℕ
words_of AfterClose = codes "a close was accepted before"
words_of BadOrder = codes "the number isn't the demanded one"
