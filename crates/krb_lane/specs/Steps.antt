-- Each kind of step of a running lane, in any state and any schedule, and the event of krb_base's
-- lane that it is.
use Rattle.std.specs.Prelude.{◌≡◌, ◌≢◌, ◌<◌, ◌^◌, ◌++◌, ℕ, true, false, List, [], ◌∷◌, length, set}
use Rattle.krb_base.specs.Lane.{Lane, Send, Take, empty, after_event}
use Rattle.krb_lane.specs.Items.{Numbered, item_of, frames_of, has_end}
use Rattle.krb_lane.specs.Rule.{hand, uncut, spent, puts, pulls, Knows, IsLane, state_of}
use Rattle.krb_lane.specs.declared.item.Item.{Item}
use Rattle.krb_lane.specs.declared.item.Item.TheVariants.{Frame, End}
use Rattle.krb_lane.specs.declared.rule.Hand.{Hand}

-- this queue and these views are a lane in this state
abbrev pub Leaves : Lane Numbered → List Item → List Hand → Type 0
Leaves state queue views = (now : IsLane queue views) × (state_of now ≡ state)

pub record KeepsLane : Type 0 where
  -- `lane` makes the channel with one pass: the empty lane
  pub make : Leaves (empty 0) [] (uncut ∷ [])
  -- `lane` cuts that pass into the sender's and the receiver's: no event, and the capacity is the
  -- channel's
  pub cut :
      (capacity : ℕ) (queue : List Item) (views : List Hand) (pass : ℕ) → IsLane queue views
      → Knows views pass uncut
      → Leaves (empty capacity) queue
      (set views pass (hand true false capacity [] []) ++ hand false true capacity [] [] ∷ [])
  -- a send puts a frame at the back of a queue with room: Send of the frame
  pub send_frame :
      (queue : List Item) (views : List Hand) (pass : ℕ) (v : Hand) (i : ℕ) (b : List ℕ)
      (h : IsLane queue views) → Knows views pass v → v.sends ≡ true
      → length queue < v.capacity → has_end v.sent ≡ false → i ≡ length (frames_of v.sent)
      → i < 2 ^ 63
      → Leaves (after_event (state_of h) (Send (item_of (Frame i b))))
      (queue ++ Frame i b ∷ []) (set views pass (puts v (Frame i b)))
  -- a send by `end` puts End at the back of a queue with room: Send of End
  pub send_end :
      (queue : List Item) (views : List Hand) (pass : ℕ) (v : Hand) (h : IsLane queue views)
      → Knows views pass v → v.sends ≡ true
      → length queue < v.capacity → has_end v.sent ≡ false
      → Leaves (after_event (state_of h) (Send (item_of End)))
      (queue ++ End ∷ []) (set views pass (puts v End))
  -- a receive takes the first item, a frame: Take, and the frame's index is the number of frames
  -- got before
  pub take_frame :
      (queue : List Item) (views : List Hand) (pass : ℕ) (v : Hand) (i : ℕ) (b : List ℕ)
      (h : IsLane (Frame i b ∷ queue) views) → Knows views pass v → v.takes ≡ true
      → Leaves (after_event (state_of h) Take) queue (set views pass (pulls v (Frame i b)))
      × (i ≡ length (frames_of v.got))
  -- a receive takes End: Take, and nothing is queued after it
  pub take_end :
      (queue : List Item) (views : List Hand) (pass : ℕ) (v : Hand)
      (h : IsLane (End ∷ queue) views) → Knows views pass v → v.takes ≡ true
      → Leaves (after_event (state_of h) Take) queue (set views pass (pulls v End)) × (queue ≡ [])
  -- a look finds no room or no item, or the other end gone: no event
  pub refused :
      (queue : List Item) (views : List Hand) (pass : ℕ) (v : Hand) (h : IsLane queue views)
      → Knows views pass v → Leaves (state_of h) queue (set views pass v)
  -- `meet` joins the receiver's pass to the sender's and spends it: no event
  pub meet :
      (queue : List Item) (views : List Hand) (pass : ℕ) (v : Hand) (other : ℕ) (u : Hand)
      (h : IsLane queue views) → Knows views pass v → Knows views other u
      → other ≢ pass → v.sends ≡ true → u.takes ≡ true
      → Leaves (state_of h) queue
      (set (set views pass (hand true true v.capacity v.sent u.got)) other spent)
