-- Whole numbers as bytes, the most significant first.
use Rattle.std.proofs.Common.{◌≡◌, ℕ, zero, suc, ◌+◌, ◌-◌, ◌*◌, ◌/◌, ◌%◌, ◌^◌, ◌<◌, ◌≤◌, List, [], ◌∷◌, length, get_or, take, drop, refl, ap, subst, ◌∙◌, arith, inl, inr, nat_lt, if◌then◌else◌, lit<, lit≤, sym}
use Rattle.std.proofs.Math.Nat.{pow-le-pow_right, pow-succ', mod-lt, mod-eq_of_lt, mul-add-mod_self_right, mul-le-mul_right, mul-add, div-lt_iff_lt-mul, one-le-pow}
use Rattle.std.proofs.lemmas.Nat.{div-mul-add, div-add-mod'}
use Rattle.std.proofs.lemmas.Bool.{cases_lt, lt-ltb, le-ltb}
use Rattle.std.proofs.lemmas.List.{drop-map, length-map, get_or-drop, get_or-take, get_or_past, length-take, length-take-le}
use Rattle.krb_base.specs.Bytes.{AreBytes}
use Rattle.krb_tlv.specs.Length.{big_endian}
use Rattle.krb_tlv.specs.Reading.{be_value}
use Rattle.krb_tlv.specs.Integer.{width}
use Rattle.krb_tlv.specs.Reading.{complement}

pub AreBytes-drop : (n : ℕ) (bytes : List ℕ) → AreBytes bytes → AreBytes (drop n bytes)
AreBytes-drop n bytes h = record { small = λ i. rw get_or-drop (h.small (n + i)) }

pub AreBytes-take : (n : ℕ) (bytes : List ℕ) → AreBytes bytes → AreBytes (take n bytes)
AreBytes-take n bytes h =
    record {
      small =
          λ i. elim (cases_lt i n) [
            | inl lt ↦ rw (get_or-take n bytes i 0 lt) (h.small i)
            | inr le ↦ rw (get_or_past (take n bytes) i 0 (omega (arith, length-take n bytes))) (omega arith)
          ];
    }

pub AreBytes-rest : (b : ℕ) (bytes : List ℕ) → AreBytes (b ∷ bytes) → AreBytes bytes
AreBytes-rest b bytes h = record { small = λ i. h.small (suc i) }

small_cons : (b : ℕ) (bytes : List ℕ) → b < 256 → AreBytes bytes → (i : ℕ) → get_or (b ∷ bytes) i 0 < 256
small_cons b bytes lt h zero = lt
small_cons b bytes lt h (suc i) = h.small i

pub AreBytes-cons : (b : ℕ) (bytes : List ℕ) → b < 256 → AreBytes bytes → AreBytes (b ∷ bytes)
AreBytes-cons b bytes lt h = record { small = small_cons b bytes lt h }

pub power_pos : (k : ℕ) → 0 < 256 ^ k
power_pos k = omega (arith, one-le-pow k 256 (omega arith))

pub length-big_endian : (k n : ℕ) → length (big_endian k n) ≡ k
length-big_endian zero n = refl
length-big_endian (suc k) n = ap suc (length-big_endian k (n % 256 ^ k))

pub be_value-below : (bs : List ℕ) → AreBytes bs → be_value bs < 256 ^ length bs
be_value-below [] h = lit< tt
be_value-below (b ∷ bs) h =
    let low : be_value bs < 256 ^ length bs = be_value-below bs (AreBytes-rest b bs h) in
    let high : b * 256 ^ length bs ≤ 255 * 256 ^ length bs = mul-le-mul_right (256 ^ length bs) (omega (arith, h.small 0)) in
    rw (pow-succ' 256 (length bs)) (omega arith)

-- an octet more at the end
pub be_value-next : (bs : List ℕ) (i : ℕ) → i < length bs → be_value (take (suc i) bs) ≡ be_value (take i bs) * 256 + get_or bs i 0
be_value-next [] i lt = absurd (omega arith)
be_value-next (b ∷ bs) zero lt = omega arith
be_value-next (b ∷ bs) (suc i) lt =
    let long : length (take (suc i) bs) ≡ suc i = length-take-le (suc i) bs (omega arith) in
    let short : length (take i bs) ≡ i = length-take-le i bs (omega arith) in
    rw (long, short, pow-succ' 256 i, be_value-next bs i (omega arith)) (omega arith)

-- no more than four of five octets make a number of four
pub be_value-four : (bs : List ℕ) (i : ℕ) → AreBytes bs → length bs ≤ 5 → i < length bs → be_value (take i bs) < 256 ^ 4
be_value-four bs i h five lt =
    let below = be_value-below (take i bs) (AreBytes-take i bs h) in
    let short : length (take i bs) ≡ i = length-take-le i bs (omega arith) in
    let most : 256 ^ i ≤ 256 ^ 4 = pow-le-pow_right (lit< tt) {i = i} {j = 4} (omega arith) in
    omega (arith, subst (λ (n : ℕ). be_value (take i bs) < 256 ^ n) short below, most)

pub be_value-again : (k n : ℕ) → n < 256 ^ k → be_value (big_endian k n) ≡ n
be_value-again zero n lt = omega arith
be_value-again (suc k) n lt =
    rw (length-big_endian k (n % 256 ^ k), be_value-again k (n % 256 ^ k) (mod-lt n (power_pos k))) (div-add-mod' n (256 ^ k))

pub big_endian-back : (bs : List ℕ) → AreBytes bs → big_endian (length bs) (be_value bs) ≡ bs
big_endian-back [] h = refl
big_endian-back (b ∷ bs) h =
    let low : be_value bs < 256 ^ length bs = be_value-below bs (AreBytes-rest b bs h) in
    let top : (b * 256 ^ length bs + be_value bs) / 256 ^ length bs ≡ b = div-mul-add b (256 ^ length bs) (be_value bs) low in
    let rest : (b * 256 ^ length bs + be_value bs) % 256 ^ length bs ≡ be_value bs = mul-add-mod_self_right b (256 ^ length bs) (be_value bs) ∙ mod-eq_of_lt low in
    rw (top, rest, big_endian-back bs (AreBytes-rest b bs h)) refl

pub AreBytes-big_endian : (k n : ℕ) → n < 256 ^ k → AreBytes (big_endian k n)
AreBytes-big_endian zero n lt = record { small = λ i. lit< tt }
AreBytes-big_endian (suc k) n lt =
    let bound : n < 256 * 256 ^ k = rw (← pow-succ' 256 k) lt in
    AreBytes-cons (n / 256 ^ k) (big_endian k (n % 256 ^ k)) ((div-lt_iff_lt-mul (power_pos k)).1 bound) (AreBytes-big_endian k (n % 256 ^ k) (mod-lt n (power_pos k)))

-- ---- complements

pub length-complement : (bs : List ℕ) → length (complement bs) ≡ length bs
length-complement bs = length-map bs (λ b. 255 - b)

pub complement-twice : (bs : List ℕ) → AreBytes bs → complement (complement bs) ≡ bs
complement-twice [] h = refl
complement-twice (b ∷ bs) h =
    let same : 255 - (255 - b) ≡ b = omega (arith, h.small 0) in
    rw (same, complement-twice bs (AreBytes-rest b bs h)) refl

pub AreBytes-complement : (bs : List ℕ) → AreBytes (complement bs)
AreBytes-complement [] = record { small = λ i. lit< tt }
AreBytes-complement (b ∷ bs) = AreBytes-cons (255 - b) (complement bs) (omega arith) (AreBytes-complement bs)

-- the complements of octets are what is left to the most that they can be
pub be_value-complement : (bs : List ℕ) → AreBytes bs → be_value (complement bs) + be_value bs + 1 ≡ 256 ^ length bs
be_value-complement [] h = refl
be_value-complement (b ∷ bs) h =
    let p : ℕ = 256 ^ length bs in
    let rest = be_value-complement bs (AreBytes-rest b bs h) in
    let whole : (255 - b) + b ≡ 255 = omega (arith, h.small 0) in
    let both : p * 255 ≡ p * (255 - b) + p * b = ap (λ (z : ℕ). p * z) (sym whole) ∙ mul-add p (255 - b) b in
    rw (length-complement bs, pow-succ' 256 (length bs)) (omega (arith, rest, both))

-- ---- widths

pub if_case : {A : Type 0} (P : A → Type 0) (a b : ℕ) (x y : A) → (a < b → P x) → (b ≤ a → P y) → P (if nat_lt a b then x else y)
if_case P a b x y p q =
    elim (cases_lt a b) [
      | inl lt ↦ rw (lt-ltb a b lt) (p lt)
      | inr le ↦ rw (le-ltb a b le) (q le)
    ]

-- what a width is for
pub record IsWidth (n k : ℕ) : Type 0 where
  pub fits : n < 256 ^ k
  pub short : k ≤ 5
  pub free : get_or (big_endian k n) 0 0 < 128
  pub some : 0 < k

top_free : (k n : ℕ) → n < 128 * 256 ^ k → get_or (big_endian (suc k) n) 0 0 < 128
top_free k n lt = (div-lt_iff_lt-mul (power_pos k)).1 lt

is_width : (k n : ℕ) → k ≤ 4 → n < 128 * 256 ^ k → IsWidth n (suc k)
is_width k n le lt = record { fits = rw (pow-succ' 256 k) (omega arith); short = omega arith; free = top_free k n lt; some = omega arith }

pub width_is : (n : ℕ) → n < 2 ^ 39 → IsWidth n (width n)
width_is n lt =
    if_case (IsWidth n) n (2 ^ 7) 1 _ (λ h. is_width 0 n (lit≤ tt) h) (λ _.
    if_case (IsWidth n) n (2 ^ 15) 2 _ (λ h. is_width 1 n (lit≤ tt) h) (λ _.
    if_case (IsWidth n) n (2 ^ 23) 3 _ (λ h. is_width 2 n (lit≤ tt) h) (λ _.
    if_case (IsWidth n) n (2 ^ 31) 4 5 (λ h. is_width 3 n (lit≤ tt) h) (λ _. is_width 4 n (lit≤ tt) lt))))

-- ---- the last of five octets

same_mod : (k n : ℕ) → n < 256 ^ k → (j : ℕ) → n % 256 ^ (j + k) ≡ n
same_mod k n lt j =
    let bigger : 256 ^ k ≤ 256 ^ (j + k) = pow-le-pow_right {n = 256} (omega arith) (omega arith) in
    mod-eq_of_lt (omega arith)

pub drop-big_endian : (j k n : ℕ) → n < 256 ^ k → drop j (big_endian (j + k) n) ≡ big_endian k n
drop-big_endian zero k n lt = ap (λ (i : ℕ). big_endian i n) (omega arith)
drop-big_endian (suc j) k n lt =
    let step : suc j + k ≡ suc (j + k) = omega arith in
    rw (step, same_mod k n lt j) (drop-big_endian j k n lt)

pub width-octets : (n : ℕ) → n < 2 ^ 32 → drop (5 - width n) (big_endian 5 n) ≡ big_endian (width n) n
width-octets n lt =
    let w = width_is n (omega arith) in
    let five : 5 - width n + width n ≡ 5 = omega (arith, w.short) in
    subst (λ (k : ℕ). drop (5 - width n) (big_endian k n) ≡ big_endian (width n) n) five (drop-big_endian (5 - width n) (width n) n w.fits)

pub width-complement : (n : ℕ) → n < 2 ^ 32 → drop (5 - width n) (complement (big_endian 5 n)) ≡ complement (big_endian (width n) n)
width-complement n lt = drop-map (λ b. 255 - b) (5 - width n) (big_endian 5 n) ∙ ap complement (width-octets n lt)
