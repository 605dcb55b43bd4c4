-- Lists and tests that several proofs speak of.
use Rattle.std.proofs.Common.{◌≡◌, ℕ, zero, suc, ◌+◌, ◌<◌, ◌≤◌, ◌⊎◌, min, Bool, true, List, [], ◌∷◌, ◌++◌, length, take, drop, get_or, slice_get, Some, inl, inr, refl, sym, ap, ap₂, subst, ◌∙◌, arith}
use Rattle.std.proofs.lemmas.Bool.{and_parts}
use Rattle.std.proofs.lemmas.List.{take_more, take_all}
use Rattle.std.proofs.lemmas.List.Elements.{All-push}
use Rattle.std.specs.Prelude.{All}
use Rattle.std.specs.List.{list_all}
use Rattle.krb_base.specs.Bytes.{AreBytes}
use Rattle.krb_peers.specs.Verdicts.{AllBytes}

pub slice_get-front : {X : Type 0} (xs : List X) (y : X) (j : ℕ) → j < length xs → slice_get (xs ++ y ∷ []) j ≡ slice_get xs j
slice_get-front [] y j h = absurd (omega arith)
slice_get-front (x ∷ xs) y zero h = refl
slice_get-front (x ∷ xs) y (suc j) h = slice_get-front xs y j (omega arith)

pub slice_get-end : {X : Type 0} (xs : List X) (y z : X) (j : ℕ) → j ≡ length xs → slice_get (xs ++ y ∷ []) j ≡ Some z → y ≡ z
slice_get-end [] y z zero e h = cc
slice_get-end [] y z (suc j) e h = absurd (omega arith)
slice_get-end (x ∷ xs) y z zero e h = absurd (omega arith)
slice_get-end (x ∷ xs) y z (suc j) e h = slice_get-end xs y z j (omega arith) h

pub lt_or_same : (j k : ℕ) → j < k + 1 → (j < k) ⊎ (j ≡ k)
lt_or_same zero zero h = inr refl
lt_or_same zero (suc k) h = inl (omega arith)
lt_or_same (suc j) zero h = absurd (omega arith)
lt_or_same (suc j) (suc k) h = elim (lt_or_same j k (omega arith)) [ inl below ↦ inl (omega (arith, below)) | inr same ↦ inr (ap suc same) ]

pub slice_get-take : {X : Type 0} (n i : ℕ) (xs : List X) (x : X) → slice_get (take n xs) i ≡ Some x → slice_get xs i ≡ Some x
slice_get-take zero i xs x h = absurd (let e = h in cc)
slice_get-take (suc n) i [] x h = absurd (let e = h in cc)
slice_get-take (suc n) zero (y ∷ xs) x h = h
slice_get-take (suc n) (suc i) (y ∷ xs) x h = slice_get-take n i xs x h

pub take-below : {X : Type 0} (n i : ℕ) (xs : List X) (x : X) → i < n → slice_get xs i ≡ Some x → slice_get (take n xs) i ≡ Some x
take-below zero i xs x h at = absurd (omega arith)
take-below (suc n) i [] x h at = absurd (let e = at in cc)
take-below (suc n) zero (y ∷ xs) x h at = at
take-below (suc n) (suc i) (y ∷ xs) x h at = take-below n i xs x (omega arith) at

pub drop_get : {X : Type 0} (xs : List X) (k : ℕ) (x : X) → slice_get xs k ≡ Some x → drop k xs ≡ x ∷ drop (suc k) xs
drop_get [] k x h = absurd (let e = h in cc)
drop_get (y ∷ xs) zero x h = let e : y ≡ x = cc in ap (λ z. z ∷ xs) e
drop_get (y ∷ xs) (suc k) x h = drop_get xs k x h

-- within a list something stands
pub there_is : {X : Type 0} (k : ℕ) (xs : List X) → k < length xs → (x : X) × (slice_get xs k ≡ Some x)
there_is k [] lt = absurd (omega (arith, lt))
there_is zero (x ∷ xs) lt = (x, refl)
there_is (suc k) (x ∷ xs) lt = there_is k xs (omega (arith, lt))

-- what stands in a list, at the place of one that passes too
pub all_pass : {X : Type 0} (p : X → Bool) (xs : List X) (i : ℕ) (x : X) → list_all p xs ≡ true → slice_get xs i ≡ Some x → p x ≡ true
all_pass p [] i x all h = absurd (let e = h in cc)
all_pass p (y ∷ xs) zero x all h = let e : y ≡ x = cc in ap p (sym e) ∙ (and_parts (p y) (list_all p xs) all).0
all_pass p (y ∷ xs) (suc i) x all h = all_pass p xs i x (and_parts (p y) (list_all p xs) all).1 h

pub same_lists : {X : Type 0} (xs ys : List X) → length xs ≡ length ys → ((k : ℕ) (x y : X) → slice_get xs k ≡ Some x → slice_get ys k ≡ Some y → x ≡ y) → xs ≡ ys
same_lists [] [] long each = refl
same_lists [] (y ∷ ys) long each = absurd (let e = long in omega arith)
same_lists (x ∷ xs) [] long each = absurd (let e = long in omega arith)
same_lists (x ∷ xs) (y ∷ ys) long each =
    let e : suc (length xs) ≡ suc (length ys) = long in
    ap₂ (λ a b. a ∷ b) (each 0 x y refl refl) (same_lists xs ys (let f = e in omega arith) (λ k v w. each (suc k) v w))

pub length-take : {X : Type 0} (n : ℕ) (xs : List X) → length (take n xs) ≡ min n (length xs)
length-take zero xs = omega arith
length-take (suc n) [] = omega arith
length-take (suc n) (x ∷ xs) = omega (arith, length-take n xs)

pub get_or-take : {X : Type 0} (n k : ℕ) (xs : List X) (d : X) → k < n → get_or (take n xs) k d ≡ get_or xs k d
get_or-take zero k xs d h = absurd (omega arith)
get_or-take (suc n) k [] d h = refl
get_or-take (suc n) zero (x ∷ xs) d h = refl
get_or-take (suc n) (suc k) (x ∷ xs) d h = get_or-take n k xs d (omega arith)

pub AllBytes-push : (frames : List (List ℕ)) (frame : List ℕ) → AllBytes frames → AreBytes frame → AllBytes (frames ++ frame ∷ [])
AllBytes-push [] frame all bytes = (bytes, tt)
AllBytes-push (f ∷ frames) frame all bytes = (all.0, AllBytes-push frames frame all.1 bytes)

-- what holds of each element so far, and of the next one
pub All-more : {X : Type 0} (P : X → Type 0) (xs : List X) (i : ℕ) (x : X) → i < length xs → All P (take i xs) → x ≡ get_or xs i x → P x → All P (take (i + 1) xs)
All-more P xs i x lt h is p = rw (take_more xs i x lt) (All-push P (take i xs) (get_or xs i x) h (subst P is p))

pub All-whole : {X : Type 0} (P : X → Type 0) (xs : List X) (i : ℕ) → All P (take i xs) → length xs ≤ i → All P xs
All-whole P xs i h le = subst (λ l. All P l) (take_all i xs le) h
