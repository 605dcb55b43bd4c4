-- One session's outbox that is restored and copied, and what takes effect of all its copies.
use Rattle.std.specs.Prelude.{◌≡◌, ◌⊎◌, ℕ, ◌+◌, ◌<◌, Bool, true, false, List, [], ◌∷◌, ◌++◌, length}
use Rattle.std.specs.Prelude.{slice_get, slice_set, Option, Some, None}
use Rattle.std.specs.List.{Contains, list_any}
use Rattle.krb_record.specs.Record.{is_close}
use Rattle.krb_seal.specs.Sealer.{SealerState}
use Rattle.krb_peers.specs.Session.{Sealed, frames_in}
use Rattle.krb_carry.specs.Outbox.{Kept, Outbox, new_outbox, sealed_in, records_in}
use Rattle.krb_carry.specs.Outbox.{Act, Insert, Seal, IsAct, Acts}
use Rattle.krb_carry.specs.declared.receipt.Finding.{Finding}
use Rattle.krb_carry.specs.declared.receipt.Finding.TheVariants.{Repeat, Delivered, Older, Forked}
use Rattle.krb_carry.specs.declared.receipt.Receipt.{Receipt}
use Rattle.krb_carry.specs.Receipt.{history_below, IsTrue, Finds}

-- ---- a copy

-- what a copy has, below which number it took all texts for delivered, and whether it is stopped
pub record Copy : Type 0 where
  pub outbox : Outbox
  pub done : ℕ
  pub is_stopped : Bool

abbrev pub new_copy : SealerState → Copy
new_copy sealer = record { outbox = new_outbox sealer; done = sealer.next; is_stopped = false }

-- its own frames, from the first number on
abbrev pub own_frames : Copy → List (List ℕ)
own_frames copy = frames_in (sealed_in copy.outbox)

abbrev pub stopped : Copy → Copy
stopped copy = record copy { is_stopped = true }

-- a stopped one seals nothing more
abbrev pub MayDo : Copy → Act → Type 0
MayDo copy (Insert put) = Unit {0}
MayDo copy (Seal sealing) = copy.is_stopped ≡ false

-- ---- what happens

-- the copies that are used, every state that one of them was ever in, the oldest first, and what took
-- effect, in order
pub record World : Type 0 where
  pub copies : List Copy
  pub states : List Copy
  pub took : List Sealed

abbrev pub new_world : SealerState → World
new_world sealer =
    record { copies = new_copy sealer ∷ []; states = new_copy sealer ∷ []; took = [] }

-- A copy does what an outbox does. It is restored: it becomes a state that one was in. A copy of such a
-- state is used beside the others. A frame takes effect. A receipt comes to a copy. A sender begins on
-- a copy, and sees the frames of the session that the carrier has, or can't.
pub data Event : Type 0 where
  Does : ℕ → Act → Event
  Restores : ℕ → ℕ → Event
  Copies : ℕ → Event
  Takes : Sealed → Event
  Hears : ℕ → Receipt → Event
  Begins : ℕ → Option (List Kept) → Event

-- the copy at this place comes into this state
abbrev pub with_state : World → ℕ → Copy → World
with_state world place copy =
    record world {
      copies = slice_set world.copies place copy;
      states = world.states ++ copy ∷ [];
    }

-- it was sealed by one of them under this number
abbrev pub IsSealedByOne : List Copy → ℕ → Sealed → Type 0
IsSealedByOne states number it = (state : Copy) × Contains states state
    × Contains state.outbox.frames (record { number = number; it = it })

-- what a copy does about what it finds by a receipt for this number
abbrev pub after_finding : Copy → ℕ → Finding → Copy
after_finding copy number Repeat = copy
after_finding copy number Delivered = record copy { done = number }
after_finding copy number Older = stopped copy
after_finding copy number Forked = stopped copy

-- all that the carrier has are below the number that it seals next
abbrev pub IsAbove : Outbox → List Kept → Type 0
IsAbove outbox seen = (kept : Kept) → Contains seen kept → kept.number < outbox.next

-- It goes on if it is above all that was seen. If it isn't, or the carrier couldn't be asked, it is
-- stopped.
abbrev pub After : Copy → Option (List Kept) → Copy → Type 0
After old (Some seen) new =
    (IsAbove old.outbox seen × (new ≡ old)) ⊎ ((¬ IsAbove old.outbox seen) × (new ≡ stopped old))
After old None new = new ≡ stopped old

-- Frames of any of them take effect, whenever the carrier brings them: in the order of their numbers,
-- each number once, and none after a close.
abbrev pub Steps : SealerState → World → Event → World → Type 0
Steps sealer old (Does place act) new =
    (copy : Copy) × (slice_get old.copies place ≡ Some copy) × MayDo copy act × IsAct sealer act
    × ((outbox : Outbox) × Acts copy.outbox act outbox
    × (new ≡ with_state old place (record copy { outbox = outbox })))
Steps sealer old (Restores place from) new =
    (state : Copy) × (slice_get old.states from ≡ Some state)
    × (new ≡ record old { copies = slice_set old.copies place state })
Steps sealer old (Copies from) new =
    (state : Copy) × (slice_get old.states from ≡ Some state)
    × (new ≡ record old { copies = old.copies ++ state ∷ [] })
Steps sealer old (Takes it) new =
    IsSealedByOne old.states (sealer.next + length old.took) it
    × (list_any is_close (records_in old.took) ≡ false)
    × (new ≡ record old { took = old.took ++ it ∷ [] })
Steps sealer old (Hears place receipt) new =
    (copy : Copy) × (slice_get old.copies place ≡ Some copy) × (copy.is_stopped ≡ false)
    × IsTrue sealer.next (frames_in old.took) receipt
    × ((finding : Finding)
    × Finds copy.done copy.outbox.next (history_below sealer.next (own_frames copy) receipt.number) receipt finding
    × (new ≡ with_state old place (after_finding copy receipt.number finding)))
Steps sealer old (Begins place seen) new =
    (copy : Copy) × (slice_get old.copies place ≡ Some copy)
    × ((after : Copy) × After copy seen after × (new ≡ with_state old place after))

abbrev pub LeadsCopies : SealerState → World → List Event → World → Type 0
LeadsCopies sealer old [] new = new ≡ old
LeadsCopies sealer old (event ∷ events) new =
    (between : World) × Steps sealer old event between × LeadsCopies sealer between events new
