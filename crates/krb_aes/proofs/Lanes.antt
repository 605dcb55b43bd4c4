-- Vectors of 16 bytes, lane by lane.
use Rattle.std.proofs.Common.{◌≡◌, ℕ, suc, ◌+◌, ◌*◌, ◌/◌, ◌<◌, ◌≤◌, Bool, true, cond, leb, T, List, [], ◌∷◌, map, length, get_or, bit_xor, refl, ap, ◌∙◌, arith, w8, Fits}
use Rattle.std.proofs.lemmas.Simd.{map-map, swz_l, SwzOk, SwzOk-from_Each1, zip2_of_maps}
use lib.Lanes.{zip2, Each1}
use Rattle.krb_aes.specs.Nibbles.{is_place, ArePlaces, entry}
use Rattle.krb_aes.proofs.Mixing.{all_below, all_below_at}

-- 16 bytes
abbrev pub AreLanes : List ℕ → Type 0
AreLanes v = (length v ≡ 16) × Each1 (Fits w8) v

each_map : (P : ℕ → Type 0) (g : ℕ → ℕ) → ((b : ℕ) → b < 256 → P (g b)) → (v : List ℕ) → Each1 (Fits w8) v → Each1 P (map g v)
each_map P g h [] f = tt
each_map P g h (x ∷ xs) f = (h x f.0.fits, each_map P g h xs f.1)

pub map_same : (f g : ℕ → ℕ) → ((b : ℕ) → b < 256 → f b ≡ g b) → (v : List ℕ) → Each1 (Fits w8) v → map f v ≡ map g v
map_same f g h [] k = refl
map_same f g h (x ∷ xs) k = λ i. h x k.0.fits i ∷ map_same f g h xs k.1 i

holds : (t : Bool) → t ≡ true → T t
holds t e = rw e tt

-- places that were computed of bytes
pub places_of_bytes : (g : ℕ → ℕ) (v js : List ℕ) → Each1 (Fits w8) v → js ≡ map g v → all_below (λ b. is_place (g b)) 256 ≡ true → ArePlaces js
places_of_bytes g v js f e h =
    record { each = rw e (each_map (λ j. T (is_place j)) g (λ b lt. holds (is_place (g b)) (all_below_at (λ b. is_place (g b)) 256 b h lt)) v f) }

pub places_of : (g : ℕ → ℕ) (v js : List ℕ) → AreLanes v → js ≡ map g v → all_below (λ b. is_place (g b)) 256 ≡ true → ArePlaces js
places_of g v js f e h = places_of_bytes g v js f.1 e h

pub places_ok : (js : List ℕ) → AreLanes js → ArePlaces js → SwzOk w8 16 16 0 js
places_ok js f p = SwzOk-from_Each1 w8 16 1 16 0 js refl (omega (arith, f.0)) p.each

looked_from : (t : List ℕ) (i : ℕ) (js : List ℕ) → i + length js ≤ 16 → swz_l w8 16 t i js ≡ map (entry t) js
looked_from t i [] h = refl
looked_from t i (j ∷ js) h =
    let e : 16 * (i / 16) + j ≡ j = omega arith in
    λ n. cond (leb 128 j) 0 (get_or t (e n) 0) ∷ looked_from t (suc i) js (omega arith) n

pub looked : (t js : List ℕ) → AreLanes js → swz_l w8 16 t 0 js ≡ map (entry t) js
looked t js f = looked_from t 0 js (omega (arith, f.0))

-- what a look-up gives at places that were computed lane by lane
pub looked_of : (t : List ℕ) (g : ℕ → ℕ) (v : List ℕ) {r js : List ℕ} → r ≡ map (entry t) js → js ≡ map g v → r ≡ map (λ b. entry t (g b)) v
looked_of t g v e f = e ∙ ap (map (entry t)) f ∙ map-map (entry t) g v

-- a sum lane by lane
pub sum_of : (g h : ℕ → ℕ) (v : List ℕ) {xs ys : List ℕ} → xs ≡ map g v → ys ≡ map h v → zip2 bit_xor xs ys ≡ map (λ b. bit_xor (g b) (h b)) v
sum_of g h v e f = zip2_of_maps bit_xor g h v e f
