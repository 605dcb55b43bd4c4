-- Vectors of two blocks, lane by lane.
use Rattle.std.proofs.Common.{◌≡◌, ℕ, zero, suc, ◌+◌, ◌-◌, ◌*◌, ◌/◌, ◌<◌, ◌≤◌, Bool, true, false, cond, leb, ltb, ◌||◌, T, List, [], ◌∷◌, ◌++◌, map, length, get_or, refl, sym, ap, ◌∙◌, arith, w8}
use Rattle.std.proofs.lemmas.List.{get_or_append_left, get_or-append_right}
use lib.Dec.{ltb→lt}
use Rattle.std.proofs.lemmas.Simd.{swz_l, SwzOk, SwzOk-from_Each1}
use lib.Lanes.{zip2, Each1, pick_l}
use Rattle.krb_base.specs.Bytes.{AreBytes}
use Rattle.krb_aes.specs.Nibbles.{is_place, ArePlaces, entry}
use Rattle.krb_aes.specs.Pairs.{pair, twice}
use Rattle.krb_aes.proofs.Inverse.{cells_16}
use Rattle.krb_aes.proofs.Opening.{AreBytes-append}

pub twice_picked : (t : List ℕ) → length t ≡ 16 → pick_l 0 (t ++ t) (0 ∷ 1 ∷ 2 ∷ 3 ∷ 4 ∷ 5 ∷ 6 ∷ 7 ∷ 8 ∷ 9 ∷ 10 ∷ 11 ∷ 12 ∷ 13 ∷ 14 ∷ 15 ∷ 0 ∷ 1 ∷ 2 ∷ 3 ∷ 4 ∷ 5 ∷ 6 ∷ 7 ∷ 8 ∷ 9 ∷ 10 ∷ 11 ∷ 12 ∷ 13 ∷ 14 ∷ 15 ∷ []) ≡ twice t
twice_picked t e = ap (λ (x : List ℕ). pick_l 0 (x ++ x) (0 ∷ 1 ∷ 2 ∷ 3 ∷ 4 ∷ 5 ∷ 6 ∷ 7 ∷ 8 ∷ 9 ∷ 10 ∷ 11 ∷ 12 ∷ 13 ∷ 14 ∷ 15 ∷ 0 ∷ 1 ∷ 2 ∷ 3 ∷ 4 ∷ 5 ∷ 6 ∷ 7 ∷ 8 ∷ 9 ∷ 10 ∷ 11 ∷ 12 ∷ 13 ∷ 14 ∷ 15 ∷ [])) (sym (cells_16 t e)) ∙ ap twice (cells_16 t e)

pub preceding_picked : (s a b : List ℕ) → length s ≡ 16 → length a ≡ 16 → length b ≡ 16 → pick_l 0 (twice s ++ pair a b) (0 ∷ 1 ∷ 2 ∷ 3 ∷ 4 ∷ 5 ∷ 6 ∷ 7 ∷ 8 ∷ 9 ∷ 10 ∷ 11 ∷ 12 ∷ 13 ∷ 14 ∷ 15 ∷ 32 ∷ 33 ∷ 34 ∷ 35 ∷ 36 ∷ 37 ∷ 38 ∷ 39 ∷ 40 ∷ 41 ∷ 42 ∷ 43 ∷ 44 ∷ 45 ∷ 46 ∷ 47 ∷ []) ≡ pair s a
preceding_picked s a b es ea eb =
    (λ i. pick_l 0 (twice (sym (cells_16 s es) i) ++ pair (sym (cells_16 a ea) i) (sym (cells_16 b eb) i)) (0 ∷ 1 ∷ 2 ∷ 3 ∷ 4 ∷ 5 ∷ 6 ∷ 7 ∷ 8 ∷ 9 ∷ 10 ∷ 11 ∷ 12 ∷ 13 ∷ 14 ∷ 15 ∷ 32 ∷ 33 ∷ 34 ∷ 35 ∷ 36 ∷ 37 ∷ 38 ∷ 39 ∷ 40 ∷ 41 ∷ 42 ∷ 43 ∷ 44 ∷ 45 ∷ 46 ∷ 47 ∷ []))
    ∙ (λ i. pair (cells_16 s es i) (cells_16 a ea i))

pub between_picked : (a b c d : List ℕ) → length a ≡ 16 → length b ≡ 16 → length c ≡ 16 → length d ≡ 16 → pick_l 0 (pair a b ++ pair c d) (16 ∷ 17 ∷ 18 ∷ 19 ∷ 20 ∷ 21 ∷ 22 ∷ 23 ∷ 24 ∷ 25 ∷ 26 ∷ 27 ∷ 28 ∷ 29 ∷ 30 ∷ 31 ∷ 32 ∷ 33 ∷ 34 ∷ 35 ∷ 36 ∷ 37 ∷ 38 ∷ 39 ∷ 40 ∷ 41 ∷ 42 ∷ 43 ∷ 44 ∷ 45 ∷ 46 ∷ 47 ∷ []) ≡ pair b c
between_picked a b c d ea eb ec ed =
    (λ i. pick_l 0 (pair (sym (cells_16 a ea) i) (sym (cells_16 b eb) i) ++ pair (sym (cells_16 c ec) i) (sym (cells_16 d ed) i)) (16 ∷ 17 ∷ 18 ∷ 19 ∷ 20 ∷ 21 ∷ 22 ∷ 23 ∷ 24 ∷ 25 ∷ 26 ∷ 27 ∷ 28 ∷ 29 ∷ 30 ∷ 31 ∷ 32 ∷ 33 ∷ 34 ∷ 35 ∷ 36 ∷ 37 ∷ 38 ∷ 39 ∷ 40 ∷ 41 ∷ 42 ∷ 43 ∷ 44 ∷ 45 ∷ 46 ∷ 47 ∷ []))
    ∙ (λ i. pair (cells_16 b eb i) (cells_16 c ec i))

twice_at : (t : List ℕ) (q j : ℕ) → length t ≡ 16 → q < 2 → j < 16 → get_or (twice t) (16 * q + j) 0 ≡ get_or t j 0
twice_at t zero j e h k = ap (λ (n : ℕ). get_or (twice t) n 0) {x = 16 * 0 + j} {y = j} (omega arith) ∙ get_or_append_left t t 0 j (omega (arith, e))
twice_at t (suc zero) j e h k =
    get_or-append_right t t 16 (16 * 1 + j) 0 e (omega arith)
    ∙ ap (λ (n : ℕ). get_or t n 0) {x = 16 * 1 + j - 16} {y = j} (omega arith)
twice_at t (suc (suc q)) j e h k = absurd (omega arith)

place_at : (t : List ℕ) (q j : ℕ) (far : Bool) → length t ≡ 16 → q < 2 → T (far || ltb j 16)
    → cond far 0 (get_or (twice t) (16 * q + j) 0) ≡ cond far 0 (get_or t j 0)
place_at t q j true e h p = refl
place_at t q j false e h p = twice_at t q j e h (near j p)
  where
    near : (j : ℕ) → T (ltb j 16) → j < 16
    near j p = ltb→lt j 16 p

looked_from : (t : List ℕ) (i : ℕ) (js : List ℕ) → length t ≡ 16 → i + length js ≤ 32 → Each1 (λ j. T (is_place j)) js → swz_l w8 16 (twice t) i js ≡ map (entry t) js
looked_from t i [] e h p = refl
looked_from t i (j ∷ js) e h p = λ n. place_at t (i / 16) j (leb 128 j) e (omega arith) p.0 n ∷ looked_from t (suc i) js e (omega arith) p.1 n

pub looked : (t js : List ℕ) → length t ≡ 16 → length js ≡ 32 → ArePlaces js → swz_l w8 16 (twice t) 0 js ≡ map (entry t) js
looked t js e l p = looked_from t 0 js e (omega (arith, l)) p.each

pub places_ok : (js : List ℕ) → length js ≡ 32 → ArePlaces js → SwzOk w8 16 32 0 js
places_ok js l p = SwzOk-from_Each1 w8 16 2 32 0 js refl (omega (arith, l)) p.each

pub AreBytes-pair : (a b : List ℕ) → AreBytes a → AreBytes b → AreBytes (pair a b)
AreBytes-pair a b ha hb = AreBytes-append a b ha hb

pub zip2-append : (f : ℕ → ℕ → ℕ) (a b c d : List ℕ) → length a ≡ length c → zip2 f (a ++ b) (c ++ d) ≡ zip2 f a c ++ zip2 f b d
zip2-append f [] b [] d e = refl
zip2-append f [] b (y ∷ ys) d e = absurd (omega arith)
zip2-append f (x ∷ xs) b [] d e = absurd (omega arith)
zip2-append f (x ∷ xs) b (y ∷ ys) d e = ap (λ (r : List ℕ). f x y ∷ r) (zip2-append f xs b ys d (omega arith))
