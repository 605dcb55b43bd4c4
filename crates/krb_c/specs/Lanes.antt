-- A shard of a sender that C holds.
use Rattle.std.specs.Prelude.{◌≡◌, ℕ, ◌+◌, ◌-◌, ◌<◌, ◌^◌, ◌==◌, ◌∷◌, ◌++◌, List, [], length, Option, Some, None, IsSome, if◌then◌else◌}
use Rattle.krb_carry.specs.declared.receipt.Receipt.{Receipt}
use Rattle.krb_carrier_structs.specs.declared.lane.KrbStored.{KrbStored}
use Rattle.krb_carrier_structs.specs.declared.lane.KrbServed.{KrbServed}
use Rattle.krb_carrier_structs.specs.declared.receipt.KrbReceipt.{KrbReceipt}
use Rattle.krb_carrier_structs.specs.Lane.{lane_heard_number, own_of, served_told, told_row}
use Rattle.krb_carrier_structs.specs.Numbers.{says}
use Rattle.krb_carrier_structs.specs.Receipt.{told_receipt}
use Rattle.krb_engine.specs.declared.sending.Asks.{Asks}
use Rattle.krb_sender.specs.declared.lane.Served.{Served}
use Rattle.krb_sender.specs.declared.session.Heard.{Heard}
use Rattle.krb_sender.specs.declared.session.Own.{Own}
use Rattle.krb_sender.specs.Lane.{LaneState, Hears, Turns, Was, no_sessions}
use Rattle.krb_sender.specs.Session.{loaded}
use Rattle.krb_sender.specs.Times.{time_of}
use Rattle.krb_c.specs.declared.held_lane.HeldLane.{HeldLane}

-- the shard of a handle: where it holds nothing, one with no session and no list
abbrev pub lane_of : Option HeldLane → LaneState
lane_of None = no_sessions
lane_of (Some held) = held.lane

-- it has a session at this place
abbrev pub HasPlace : Option HeldLane → ℕ → Type 0
HasPlace held place = place < length (lane_of held).sessions

-- the shard has one session more, of which the outbox has this, at this place
pub record Adds (old : LaneState) (row : KrbStored) (opens place : ℕ) (new : LaneState) : Type 0 where
  pub at_the_end : place ≡ length old.sessions
  pub added : new.sessions ≡ old.sessions ++ loaded (told_row row) (says opens) old.clock ∷ []
  pub list : new.list ≡ old.list
  pub clock : new.clock ≡ old.clock

-- its sessions, its list and its clock are as they were
abbrev pub StaysAsItWas : LaneState → LaneState → Type 0
StaysAsItWas old new = (new.sessions ≡ old.sessions) × (new.list ≡ old.list) × (new.clock ≡ old.clock)

-- it has a session at this place, and so many frames more of it have numbers
pub record CanSealAt (held : Option HeldLane) (place count : ℕ) : Type 0 where
  pub there : HasPlace held place
  pub fits : Was (lane_of held) place (λ it. it.end.progress.next + count < 2 ^ 64)

-- a session was served, and is looked at again later than now
pub record TurnsTold (old : LaneState) (told : KrbServed) (new : LaneState) : Type 0 where
  pub served : Served
  pub answer : told ≡ served_told served
  pub turns : Turns old served new
  pub later : new.clock < 2 ^ 64 - 1 → new.clock < time_of new.times served.place

-- it has a session at this place, there is a receipt, and it is said what the own digest is
pub record CanHear (held : Option HeldLane) (place : ℕ) (r : KrbReceipt) (own_is : ℕ) (own : List ℕ) : Type 0 where
  pub there : HasPlace held place
  pub receipt : IsSome (told_receipt r)
  pub is_own : IsSome (own_of own_is own)

-- a session hears a receipt
pub record HearsTold (old : LaneState) (place : ℕ) (r : KrbReceipt) (own_is : ℕ) (history : List ℕ) (now number : ℕ)
    (new : LaneState) : Type 0 where
  pub receipt : Receipt
  pub asks : Asks
  pub own : Own
  pub heard : Heard
  pub said : told_receipt r ≡ Some (receipt, asks)
  pub is_own : own_of own_is history ≡ Some own
  pub answer : number ≡ lane_heard_number heard
  pub hears : Hears old place receipt own asks now heard new

-- a list, if the flag says so
abbrev pub told_list : ℕ → ℕ → Option ℕ
told_list has_list list = if has_list == 0 then None else Some list
