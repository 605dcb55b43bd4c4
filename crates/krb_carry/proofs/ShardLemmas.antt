-- Where the frames of a session stand among those that a receiver takes.
use Rattle.std.proofs.Common.{◌≡◌, ℕ, zero, suc, ◌+◌, ◌-◌, ◌<◌, ◌≤◌, ◌==◌, cond, true, false, List, [], ◌∷◌, length, take, drop, slice_get, Some, refl, ap, subst, arith}
use Rattle.std.proofs.lemmas.Bool.{eq-eqb}
use Rattle.krb_peers.proofs.ListLemmas.{take-below}
use Rattle.krb_carry.specs.Shard.{Item, frames_of}

abbrev pub item_of : ℕ → List ℕ → Item
item_of session frame = record { session = session; frame = frame }

module _ (session : ℕ) where
  -- so many frames of the session stand before a place
  abbrev pub count_before : ℕ → List Item → ℕ
  count_before place shard = length (frames_of session (take place shard))

  pub own_item : (frame : List ℕ) (items : List Item) → frames_of session (item_of session frame ∷ items) ≡ frame ∷ frames_of session items
  own_item frame items = rw (eq-eqb session session refl) refl

  pub frame_there : (shard : List Item) (place : ℕ) (frame : List ℕ) → slice_get shard place ≡ Some (item_of session frame) → slice_get (frames_of session shard) (count_before place shard) ≡ Some frame
  frame_there [] place frame at = absurd (let e = at in cc)
  frame_there (item ∷ items) zero frame at =
      let is : item_of session frame ≡ item = (let e = at in cc) in
      subst (λ it. slice_get (frames_of session (it ∷ items)) 0 ≡ Some frame) is (ap (λ frames. slice_get frames 0) (own_item frame items))
  frame_there (item ∷ items) (suc place) frame at =
      let later = frame_there items place frame at in
      let here = take place items in
      elim (item.session == session) as (λ b. slice_get (cond b (item.frame ∷ frames_of session items) (frames_of session items)) (length (cond b (item.frame ∷ frames_of session here) (frames_of session here))) ≡ Some frame) [
        | true ↦ later
        | false ↦ later
      ]

  -- further places come later
  pub count_rises : (shard : List Item) (place later : ℕ) (frame : List ℕ) → place < later → slice_get shard place ≡ Some (item_of session frame) → count_before place shard < count_before later shard
  count_rises [] place later frame lt at = absurd (let e = at in cc)
  count_rises (item ∷ items) place zero frame lt at = absurd (omega (arith, lt))
  count_rises (item ∷ items) zero (suc later) frame lt at =
      let is : item_of session frame ≡ item = (let e = at in cc) in
      subst (λ it. 0 < length (frames_of session (it ∷ take later items))) is (rw (own_item frame (take later items)) (omega arith))
  count_rises (item ∷ items) (suc place) (suc later) frame lt at =
      let rest = count_rises items place later frame (omega (arith, lt)) at in
      let here = take place items in
      let there = take later items in
      elim (item.session == session) as (λ b. length (cond b (item.frame ∷ frames_of session here) (frames_of session here)) < length (cond b (item.frame ∷ frames_of session there) (frames_of session there))) [
        | true ↦ omega (arith, rest)
        | false ↦ rest
      ]

-- ---- a part of a shard

slice_get-drop : {X : Type 0} (xs : List X) (from place : ℕ) (x : X) → from ≤ place → slice_get xs place ≡ Some x → slice_get (drop from xs) (place - from) ≡ Some x
slice_get-drop xs zero place x le at = let same : place - 0 ≡ place = omega arith in rw same at
slice_get-drop [] (suc from) place x le at = absurd (let e = at in cc)
slice_get-drop (y ∷ xs) (suc from) zero x le at = absurd (omega (arith, le))
slice_get-drop (y ∷ xs) (suc from) (suc place) x le at =
    let same : suc place - suc from ≡ place - from = omega arith in
    rw same (slice_get-drop xs from place x (omega (arith, le)) at)

pub slice_get-part : {X : Type 0} (xs : List X) (from count place : ℕ) (x : X) → from ≤ place → place < from + count → slice_get xs place ≡ Some x → slice_get (take count (drop from xs)) (place - from) ≡ Some x
slice_get-part xs from count place x le lt at =
    take-below count (place - from) (drop from xs) x (omega (arith, le, lt)) (slice_get-drop xs from place x le at)
