-- An outbox that becomes an earlier state of itself, as when its file is restored.
use Rattle.std.specs.Prelude.{◌≡◌, ◌<◌, ◌≤◌, ℕ, suc, ◌+◌, Bool, true, false, List, [], ◌∷◌, ◌++◌, length, drop, slice_get, Some}
use Rattle.krb_peers.specs.Session.{Sealed}
use Rattle.krb_carry.specs.Outbox.{Kept, numbered}

abbrev pub Has : List Kept → Kept → Type 0
Has keeps kept = (place : ℕ) × (slice_get keeps place ≡ Some kept)

-- the number that is sealed next, and all that was sealed and stored
pub record State : Type 0 where
  pub next : ℕ
  pub keeps : List Kept

-- the outbox as it is and as it was, the newest first, all that ever left it, and whether a sender
-- has begun since it was restored
pub record World : Type 0 where
  pub now : State
  pub past : List State
  pub left : List Kept
  pub has_begun : Bool

abbrev pub new_world : ℕ → World
new_world first =
    record { now = record { next = first; keeps = [] }; past = []; left = []; has_begun = true }

-- A sender that has begun seals. A frame leaves as it is stored. The outbox becomes the state at a
-- place of its past. A sender begins at a number, after it looked at all that the carrier has.
pub data WorldStep : Type 0 where
  SealsMore : List Sealed → WorldStep
  Leaves : Kept → WorldStep
  Restores : ℕ → WorldStep
  Begins : List Kept → ℕ → WorldStep

-- It has seen what left, and begins above the highest number that it has seen, and not only above the
-- last one: the carrier may have frames in any order, and again.
pub record MayBegin (world : World) (carrier : List Kept) (next : ℕ) : Type 0 where
  pub seen : (kept : Kept) → Has world.left kept → Has carrier kept
  pub highest : (kept : Kept) → Has carrier kept → kept.number < next
  pub own : world.now.next ≤ next

abbrev pub Steps : World → WorldStep → World → Type 0
Steps old (SealsMore sealed) new =
    (old.has_begun ≡ true)
    × (new ≡ record old {
      now = record {
        next = old.now.next + length sealed;
        keeps = old.now.keeps ++ numbered old.now.next sealed;
      };
      past = old.now ∷ old.past;
    })
Steps old (Leaves kept) new =
    Has old.now.keeps kept × (new ≡ record old { left = old.left ++ kept ∷ [] })
Steps old (Restores place) new =
    (state : State) × (slice_get old.past place ≡ Some state)
    × (new ≡ record old { now = state; past = drop (suc place) old.past; has_begun = false })
Steps old (Begins carrier next) new =
    MayBegin old carrier next
    × (new ≡ record old { now = record { next = next; keeps = old.now.keeps }; has_begun = true })

abbrev pub LeadsWorld : World → List WorldStep → World → Type 0
LeadsWorld old [] new = new ≡ old
LeadsWorld old (event ∷ events) new =
    (between : World) × Steps old event between × LeadsWorld between events new
