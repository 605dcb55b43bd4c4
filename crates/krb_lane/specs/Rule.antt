-- The rule of a running lane: at each step, its queue and what its passes know are a state of
-- krb_base's lane.
use Rattle.std.specs.Prelude.{◌≡◌, ◌++◌, ℕ, Bool, true, false, List, [], ◌∷◌}
use mathlib.Core.Option.{some}
use lib.ListN.{get_elem?}
use Rattle.krb_base.specs.Lane.{Lane, frames, IsReached}
use Rattle.krb_lane.specs.Items.{Numbered, items, IsNumbered}
use Rattle.krb_lane.specs.declared.item.Item.{Item}
use Rattle.krb_lane.specs.declared.rule.Hand.{Hand}

abbrev pub hand : Bool → Bool → ℕ → List Item → List Item → Hand
hand sends takes capacity sent got =
    record { sends = sends; takes = takes; capacity = capacity; sent = sent; got = got }

-- the pass of a new channel, which may do both
abbrev pub uncut : Hand
uncut = hand true true 0 [] []

-- a pass that was joined with another
abbrev pub spent : Hand
spent = hand false false 0 [] []

-- what a pass knows after it sent or took an item
abbrev pub puts : Hand → Item → Hand
puts v x = record v { sent = v.sent ++ x ∷ [] }

abbrev pub pulls : Hand → Item → Hand
pulls v x = record v { got = v.got ++ x ∷ [] }

-- the pass at this place knows v
abbrev pub Knows : List Hand → ℕ → Hand → Type 0
Knows views pass v = get_elem? views pass ≡ some v

-- the lane of krb_base with this queue
abbrev pub running : ℕ → List Item → List Item → List Item → Lane Numbered
running capacity sent got queue =
    record { capacity = capacity; sent = items sent; got = items got; queue = items queue }

-- the one pass that sends knows what was sent, and the one that takes knows what was got
abbrev pub Fits : ℕ → ℕ → ℕ → List Item → List Item → ℕ → Hand → Type 0
Fits capacity sender receiver sent got pass v =
    (v.sends ≡ true → (pass ≡ sender) × (v.capacity ≡ capacity) × (v.sent ≡ sent))
    × (v.takes ≡ true → (pass ≡ receiver) × (v.capacity ≡ capacity) × (v.got ≡ got))

-- some events of an empty lane leave what was sent, got and is queued, and frame i has index i;
-- a spent pass knows nothing
pub record IsLane (queue : List Item) (views : List Hand) : Type 0 where
  pub capacity : ℕ
  pub sender : ℕ
  pub receiver : ℕ
  pub sent : List Item
  pub got : List Item
  pub state : IsReached (running capacity sent got queue)
  pub numbered : IsNumbered 0 (frames (items sent))
  pub each :
      (pass : ℕ) (v : Hand) → Knows views pass v → Fits capacity sender receiver sent got pass v

abbrev pub state_of : {queue : List Item} {views : List Hand} → IsLane queue views → Lane Numbered
state_of {queue} {views} h = running h.capacity h.sent h.got queue
