-- What operators on vectors of eight lanes do to each lane.
use Rattle.std.proofs.Common.{◌≡◌, ℕ, zero, suc, ◌+◌, ◌-◌, ◌*◌, ◌/◌, ◌%◌, ◌^◌, ◌<◌, List, [], ◌∷◌, length, map, slice_index, slice_index_or, slice_set, bit_and, bit_or, bit_xor, replicate, arith, refl, ◌∙◌, ◌≢◌}
use Rattle.std.specs.Int.{w32, bit_not, rotate_left}
use Rattle.std.specs.Simd.Lanes.{zip2}
use Rattle.std.proofs.lemmas.List.{get_or-map, length-map, map-set, get_or-set_same, get_or-set_other}
use Rattle.std.proofs.lemmas.Simd.{get_or-zip2, length-zip2, get_or-replicate}
use Rattle.sha1.specs.Sha1.{ch, parity, maj, window_word}
use Rattle.krb_digests.specs.Lanes.{lane}

abbrev Long : List ℕ → Type 0
Long xs = length xs ≡ 8

-- an operator gives eight lanes
zip_long : (f : ℕ → ℕ → ℕ) (xs ys : List ℕ) → Long xs → Long ys → Long (zip2 f xs ys)
zip_long f xs ys a b = length-zip2 f xs ys (omega arith) ∙ a

-- and each lane is its result there
zip_at : (f : ℕ → ℕ → ℕ) (xs ys : List ℕ) (j : ℕ) → Long xs → Long ys → j < 8
    → slice_index (zip2 f xs ys) j ≡ f (slice_index xs j) (slice_index ys j)
zip_at f xs ys j a b h = get_or-zip2 f xs ys j 0 0 0 (omega arith) (omega arith)

not_long : (xs : List ℕ) → Long xs → Long (map (bit_not w32) xs)
not_long xs a = length-map xs (bit_not w32) ∙ a

not_at : (xs : List ℕ) (j : ℕ) → Long xs → j < 8 → slice_index (map (bit_not w32) xs) j ≡ bit_not w32 (slice_index xs j)
not_at xs j a h = get_or-map (bit_not w32) xs j 0 0 (omega arith)

pub parity_at : (x y z : List ℕ) → Long x → Long y → Long z → (j : ℕ) → j < 8
    → slice_index (zip2 bit_xor (zip2 bit_xor x y) z) j ≡ parity (slice_index x j) (slice_index y j) (slice_index z j)
parity_at x y z a b d j h =
    zip_at bit_xor (zip2 bit_xor x y) z j (zip_long bit_xor x y a b) d h ∙ rw (zip_at bit_xor x y j a b h) refl

pub choose_at : (x y z : List ℕ) → Long x → Long y → Long z → (j : ℕ) → j < 8
    → slice_index (zip2 bit_xor (zip2 bit_and x y) (zip2 bit_and (map (bit_not w32) x) z)) j
    ≡ ch (slice_index x j) (slice_index y j) (slice_index z j)
choose_at x y z a b d j h =
    let n = map (bit_not w32) x in
    zip_at bit_xor (zip2 bit_and x y) (zip2 bit_and n z) j (zip_long bit_and x y a b) (zip_long bit_and n z (not_long x a) d) h
    ∙ rw (zip_at bit_and x y j a b h, zip_at bit_and n z j (not_long x a) d h, not_at x j a h) refl

pub majority_at : (x y z : List ℕ) → Long x → Long y → Long z → (j : ℕ) → j < 8
    → slice_index (zip2 bit_xor (zip2 bit_xor (zip2 bit_and x y) (zip2 bit_and x z)) (zip2 bit_and y z)) j
    ≡ maj (slice_index x j) (slice_index y j) (slice_index z j)
majority_at x y z a b d j h =
    parity_at (zip2 bit_and x y) (zip2 bit_and x z) (zip2 bit_and y z) (zip_long bit_and x y a b) (zip_long bit_and x z a d)
    (zip_long bit_and y z b d) j h
    ∙ rw (zip_at bit_and x y j a b h, zip_at bit_and x z j a d h, zip_at bit_and y z j b d h) refl

-- two shifts of each lane and an or are a rotation
abbrev lifted : ℕ → List ℕ → List ℕ
lifted k xs = zip2 (λ x n. x * 2 ^ n % 2 ^ 32) xs (replicate 8 k)

abbrev lowered : ℕ → List ℕ → List ℕ
lowered k xs = zip2 (λ x n. x / 2 ^ n) xs (replicate 8 (32 - k))

pub rotated_at : (k : ℕ) → 0 < k → k < 32 → (xs : List ℕ) → Long xs → (j : ℕ) → j < 8
    → slice_index (zip2 bit_or (lifted k xs) (lowered k xs)) j ≡ rotate_left w32 (slice_index xs j) k
rotated_at k low high xs a j h =
    let left : k % 32 ≡ k = omega arith in
    let right : (32 - k) % 32 ≡ 32 - k = omega arith in
    zip_at bit_or (lifted k xs) (lowered k xs) j (zip_long _ xs (replicate 8 k) a refl) (zip_long _ xs (replicate 8 (32 - k)) a refl) h
    ∙ rw (
      zip_at (λ x n. x * 2 ^ n % 2 ^ 32) xs (replicate 8 k) j a refl h,
      zip_at (λ x n. x / 2 ^ n) xs (replicate 8 (32 - k)) j a refl h,
      get_or-replicate 8 j k 0 h,
      get_or-replicate 8 j (32 - k) 0 h,
      left,
      right,
    ) refl

-- word k of message j
pub lane_word : (x : List (List ℕ)) (j k : ℕ) → k < length x → slice_index (lane j x) k ≡ slice_index (slice_index_or x k []) j
lane_word x j k h = get_or-map (λ v. slice_index v j) x k [] 0 h

pub lane_long : (x : List (List ℕ)) (j : ℕ) → length (lane j x) ≡ length x
lane_long x j = length-map x (λ v. slice_index v j)

-- a vector is written
pub lane_set : (x : List (List ℕ)) (y : List ℕ) (j i : ℕ) → lane j (slice_set x i y) ≡ slice_set (lane j x) i (slice_index y j)
lane_set x y j i = map-set (λ v. slice_index v j) x i y

pub lane_set_same : (x : List (List ℕ)) (y : List ℕ) (j i : ℕ) → i < length x
    → slice_index (lane j (slice_set x i y)) i ≡ slice_index y j
lane_set_same x y j i h = rw (lane_set x y j i) (get_or-set_same (lane j x) i (slice_index y j) 0 (omega (arith, lane_long x j)))

pub lane_set_other : (x : List (List ℕ)) (y : List ℕ) (j i k : ℕ) → k ≢ i
    → slice_index (lane j (slice_set x i y)) k ≡ slice_index (lane j x) k
lane_set_other x y j i k h = rw (lane_set x y j i) (get_or-set_other (lane j x) i k (slice_index y j) 0 h)

-- the sum from which the next word of the schedule comes
pub summed_at : (a b d f : List ℕ) → Long a → Long b → Long d → Long f → (j : ℕ) → j < 8
    → slice_index (zip2 bit_xor (zip2 bit_xor (zip2 bit_xor a b) d) f) j
    ≡ bit_xor (bit_xor (bit_xor (slice_index a j) (slice_index b j)) (slice_index d j)) (slice_index f j)
summed_at a b d f la lb ld lf j h =
    let lab = zip_long bit_xor a b la lb in
    zip_at bit_xor (zip2 bit_xor (zip2 bit_xor a b) d) f j (zip_long bit_xor (zip2 bit_xor a b) d lab ld) lf h
    ∙ rw (zip_at bit_xor (zip2 bit_xor a b) d j lab ld h, zip_at bit_xor a b j la lb h) refl

pub window_word_of : (w : List (List ℕ)) (j t word : ℕ) → length w ≡ 16
    → word ≡ rotate_left w32 (bit_xor (bit_xor (bit_xor (slice_index (slice_index_or w ((t + 13) % 16) []) j)
    (slice_index (slice_index_or w ((t + 8) % 16) []) j)) (slice_index (slice_index_or w ((t + 2) % 16) []) j))
    (slice_index (slice_index_or w (t % 16) []) j)) 1
    → word ≡ window_word (lane j w) t
window_word_of w j t word size e =
    e ∙ rw (
      lane_word w j ((t + 13) % 16) (omega arith),
      lane_word w j ((t + 8) % 16) (omega arith),
      lane_word w j ((t + 2) % 16) (omega arith),
      lane_word w j (t % 16) (omega arith),
    ) refl

-- a function of the working variables b, c and d, in each lane
pub of_variables : (f : ℕ → ℕ → ℕ → ℕ) (v : List (List ℕ)) (j x : ℕ) → length v ≡ 5
    → x ≡ f (slice_index (slice_index_or v 1 []) j) (slice_index (slice_index_or v 2 []) j) (slice_index (slice_index_or v 3 []) j)
    → x ≡ f (slice_index (lane j v) 1) (slice_index (lane j v) 2) (slice_index (lane j v) 3)
of_variables f v j x size e =
    e ∙ rw (lane_word v j 1 (omega arith), lane_word v j 2 (omega arith), lane_word v j 3 (omega arith)) refl

-- what holds of each of the sixteen words
pub each_word : (P : ℕ → Type 0) → P 0 → P 1 → P 2 → P 3 → P 4 → P 5 → P 6 → P 7 → P 8 → P 9 → P 10 → P 11 → P 12 → P 13 → P 14 → P 15 → (k : ℕ) → k < 16 → P k
each_word P p0 p1 p2 p3 p4 p5 p6 p7 p8 p9 p10 p11 p12 p13 p14 p15 zero h = p0
each_word P p0 p1 p2 p3 p4 p5 p6 p7 p8 p9 p10 p11 p12 p13 p14 p15 (suc zero) h = p1
each_word P p0 p1 p2 p3 p4 p5 p6 p7 p8 p9 p10 p11 p12 p13 p14 p15 (suc (suc zero)) h = p2
each_word P p0 p1 p2 p3 p4 p5 p6 p7 p8 p9 p10 p11 p12 p13 p14 p15 (suc (suc (suc zero))) h = p3
each_word P p0 p1 p2 p3 p4 p5 p6 p7 p8 p9 p10 p11 p12 p13 p14 p15 (suc (suc (suc (suc zero)))) h = p4
each_word P p0 p1 p2 p3 p4 p5 p6 p7 p8 p9 p10 p11 p12 p13 p14 p15 (suc (suc (suc (suc (suc zero))))) h = p5
each_word P p0 p1 p2 p3 p4 p5 p6 p7 p8 p9 p10 p11 p12 p13 p14 p15 (suc (suc (suc (suc (suc (suc zero)))))) h = p6
each_word P p0 p1 p2 p3 p4 p5 p6 p7 p8 p9 p10 p11 p12 p13 p14 p15 (suc (suc (suc (suc (suc (suc (suc zero))))))) h = p7
each_word P p0 p1 p2 p3 p4 p5 p6 p7 p8 p9 p10 p11 p12 p13 p14 p15 (suc (suc (suc (suc (suc (suc (suc (suc zero)))))))) h = p8
each_word P p0 p1 p2 p3 p4 p5 p6 p7 p8 p9 p10 p11 p12 p13 p14 p15 (suc (suc (suc (suc (suc (suc (suc (suc (suc zero))))))))) h = p9
each_word P p0 p1 p2 p3 p4 p5 p6 p7 p8 p9 p10 p11 p12 p13 p14 p15 (suc (suc (suc (suc (suc (suc (suc (suc (suc (suc zero)))))))))) h = p10
each_word P p0 p1 p2 p3 p4 p5 p6 p7 p8 p9 p10 p11 p12 p13 p14 p15 (suc (suc (suc (suc (suc (suc (suc (suc (suc (suc (suc zero))))))))))) h = p11
each_word P p0 p1 p2 p3 p4 p5 p6 p7 p8 p9 p10 p11 p12 p13 p14 p15 (suc (suc (suc (suc (suc (suc (suc (suc (suc (suc (suc (suc zero)))))))))))) h = p12
each_word P p0 p1 p2 p3 p4 p5 p6 p7 p8 p9 p10 p11 p12 p13 p14 p15 (suc (suc (suc (suc (suc (suc (suc (suc (suc (suc (suc (suc (suc zero))))))))))))) h = p13
each_word P p0 p1 p2 p3 p4 p5 p6 p7 p8 p9 p10 p11 p12 p13 p14 p15 (suc (suc (suc (suc (suc (suc (suc (suc (suc (suc (suc (suc (suc (suc zero)))))))))))))) h = p14
each_word P p0 p1 p2 p3 p4 p5 p6 p7 p8 p9 p10 p11 p12 p13 p14 p15 (suc (suc (suc (suc (suc (suc (suc (suc (suc (suc (suc (suc (suc (suc (suc zero))))))))))))))) h = p15
each_word P p0 p1 p2 p3 p4 p5 p6 p7 p8 p9 p10 p11 p12 p13 p14 p15 (suc (suc (suc (suc (suc (suc (suc (suc (suc (suc (suc (suc (suc (suc (suc (suc n)))))))))))))))) h = absurd (omega arith)

-- what holds of each of the eight messages
pub each_message : (P : ℕ → Type 0) → P 0 → P 1 → P 2 → P 3 → P 4 → P 5 → P 6 → P 7 → (j : ℕ) → j < 8 → P j
each_message P p0 p1 p2 p3 p4 p5 p6 p7 zero h = p0
each_message P p0 p1 p2 p3 p4 p5 p6 p7 (suc zero) h = p1
each_message P p0 p1 p2 p3 p4 p5 p6 p7 (suc (suc zero)) h = p2
each_message P p0 p1 p2 p3 p4 p5 p6 p7 (suc (suc (suc zero))) h = p3
each_message P p0 p1 p2 p3 p4 p5 p6 p7 (suc (suc (suc (suc zero)))) h = p4
each_message P p0 p1 p2 p3 p4 p5 p6 p7 (suc (suc (suc (suc (suc zero))))) h = p5
each_message P p0 p1 p2 p3 p4 p5 p6 p7 (suc (suc (suc (suc (suc (suc zero)))))) h = p6
each_message P p0 p1 p2 p3 p4 p5 p6 p7 (suc (suc (suc (suc (suc (suc (suc zero))))))) h = p7
each_message P p0 p1 p2 p3 p4 p5 p6 p7 (suc (suc (suc (suc (suc (suc (suc (suc n)))))))) h = absurd (omega arith)

-- a hash value has five words
pub five_are : (x : List ℕ) → length x ≡ 5
    → slice_index x 0 ∷ slice_index x 1 ∷ slice_index x 2 ∷ slice_index x 3 ∷ slice_index x 4 ∷ [] ≡ x
five_are (a ∷ b ∷ c ∷ d ∷ e ∷ []) h = refl
five_are [] h = absurd (omega (arith, h))
five_are (a ∷ []) h = absurd (omega (arith, h))
five_are (a ∷ b ∷ []) h = absurd (omega (arith, h))
five_are (a ∷ b ∷ c ∷ []) h = absurd (omega (arith, h))
five_are (a ∷ b ∷ c ∷ d ∷ []) h = absurd (omega (arith, h))
five_are (a ∷ b ∷ c ∷ d ∷ e ∷ f ∷ g) h = absurd (omega (arith, h))
