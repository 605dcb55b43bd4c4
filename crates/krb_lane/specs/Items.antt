-- The items of a running lane, as the lane of krb_base has them.
use Rattle.std.specs.Prelude.{◌≡◌, ◌<◌, ◌^◌, ℕ, suc, Bool, List, [], ◌∷◌, map}
use Rattle.krb_base.specs.Lane.{frames}
use Rattle.krb_base.specs.Lane as base
use Rattle.krb_lane.specs.declared.item.Item.{Item}
use Rattle.krb_lane.specs.declared.item.Item.TheVariants.{Frame, End}

-- a frame, with its index
pub record Numbered : Type 0 where
  pub index : ℕ
  pub bytes : List ℕ

abbrev pub item_of : Item → base.Item Numbered
item_of (Frame i b) = base.Frame (record { index = i; bytes = b })
item_of End = base.End

abbrev pub items : List Item → List (base.Item Numbered)
items xs = map item_of xs

-- the bytes of the frames, in order
abbrev pub bytes_of : List (base.Item Numbered) → List (List ℕ)
bytes_of xs = map (λ (f : Numbered). f.bytes) (frames xs)

abbrev pub frames_of : List Item → List (List ℕ)
frames_of xs = bytes_of (items xs)

-- End is among the items
abbrev pub has_end : List Item → Bool
has_end xs = base.has_end (items xs)

-- the frame at place i has index k + i, which is below 2 ^ 63
abbrev pub IsNumbered : ℕ → List Numbered → Type 0
IsNumbered k [] = Unit {0}
IsNumbered k (f ∷ fs) = (f.index ≡ k) × (k < 2 ^ 63) × IsNumbered (suc k) fs

-- after k frames, a frame has index k
abbrev pub IsNext : ℕ → Item → Type 0
IsNext k (Frame i b) = (i ≡ k) × (k < 2 ^ 63)
IsNext k End = Unit {0}
