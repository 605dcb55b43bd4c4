-- A lane from one sender to one receiver, as a state machine over plain lists.
use Rattle.std.specs.Prelude.{◌≡◌, ◌++◌, ℕ, Bool, true, false, not, cond, nat_lt, ◌&&◌, List}
use Rattle.std.specs.Prelude.{[], ◌∷◌, length}

-- what goes through a lane: frames, and End
pub data Item (F : Type 0) : Type 0 where
  Frame : F → Item F
  End : Item F

-- what was sent and what was got, oldest first, and what is queued between them
pub record Lane (F : Type 0) : Type 0 where
  pub capacity : ℕ
  pub sent : List (Item F)
  pub got : List (Item F)
  pub queue : List (Item F)

pub data Event (F : Type 0) : Type 0 where
  Send : Item F → Event F
  Take : Event F

module _ {F : Type 0} where
  -- a lane through which nothing went
  abbrev pub empty : ℕ → Lane F
  empty capacity = record { capacity = capacity; sent = []; got = []; queue = [] }

  -- End is among the items
  abbrev pub has_end : List (Item F) → Bool
  has_end [] = false
  has_end (Frame f ∷ items) = has_end items
  has_end (End ∷ items) = true

  -- the frames among the items, in order
  abbrev pub frames : List (Item F) → List F
  frames [] = []
  frames (Frame f ∷ items) = f ∷ frames items
  frames (End ∷ items) = frames items

  -- a Send is possible if the queue is below the capacity and End was not sent, a Take if something
  -- is queued
  abbrev pub is_possible : Lane F → Event F → Bool
  is_possible lane (Send item) = nat_lt (length lane.queue) lane.capacity && not (has_end lane.sent)
  is_possible lane Take = nat_lt 0 (length lane.queue)

  -- Take moves the first item of the queue to the end of got
  abbrev pub taken : Lane F → List (Item F) → Lane F
  taken lane [] = lane
  taken lane (front ∷ rest) = record lane { got = lane.got ++ front ∷ []; queue = rest }

  -- Send appends to sent and to the queue
  abbrev pub moved : Lane F → Event F → Lane F
  moved lane (Send item) =
      record lane { sent = lane.sent ++ item ∷ []; queue = lane.queue ++ item ∷ [] }
  moved lane Take = taken lane lane.queue

  -- what one event leaves; an impossible one changes nothing
  abbrev pub after_event : Lane F → Event F → Lane F
  after_event lane event = cond (is_possible lane event) (moved lane event) lane

  -- what a list of events leaves
  abbrev pub after : Lane F → List (Event F) → Lane F
  after lane [] = lane
  after lane (event ∷ events) = after (after_event lane event) events

  -- the lane is what some events leave of the empty one
  abbrev pub IsReached : Lane F → Type 0
  IsReached lane = (events : List (Event F)) × (after (empty lane.capacity) events ≡ lane)

  -- nothing follows an End, so it is last and occurs at most once
  abbrev pub IsEndLast : List (Item F) → Type 0
  IsEndLast [] = Unit {0}
  IsEndLast (Frame f ∷ items) = IsEndLast items
  IsEndLast (End ∷ items) = items ≡ []

-- it holds of each lane that events leave of an empty one
abbrev pub Always : (F : Type 0) → (Lane F → Type 0) → Type 0
Always F P = (capacity : ℕ) (events : List (Event F)) → P (after (empty capacity) events)
