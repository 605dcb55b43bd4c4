-- Bytes in the basis in which they are held between rounds.
use Rattle.std.proofs.Common.{◌≡◌, ℕ, suc, ◌/◌, ◌%◌, ◌<◌, Bool, true, eqb, ◌&&◌, List, [], ◌∷◌, map, get_or, bit_and, bit_xor, refl, sym, ap, ap₂, ◌∙◌, arith, w8, Fits}
use Rattle.std.proofs.lemmas.Bool.{and_parts, eqb-true}
use Rattle.std.proofs.lemmas.Nat.{and_mask}
use Rattle.std.proofs.lemmas.Simd.{map-map}
use lib.Bits.{xor_assoc, xor_comm, xor_self, xor_zero_r, xor_shr, xor_mod, xor_lt}
use lib.Lanes.{Each1}
use Rattle.krb_aes.specs.Field.{times, product, remainder, affine, sbox}
use Rattle.krb_aes.specs.Cipher.{mixed}
use Rattle.krb_base.specs.Bytes.{AreBytes}
use Rattle.krb_aes.specs.Nibbles.{entry, first_place, second_place, nibbles_of_high, nibbles_of_low, nibbles_of, bare_nibbles, bare_doubled}
use Rattle.krb_aes.specs.declared.sbox.TheConstants.{SBOX_FIRST, SBOX_SECOND, DOUBLED_FIRST, DOUBLED_SECOND, BARE_FIRST, BARE_SECOND}
use Rattle.krb_aes.proofs.Mixing.{all_below, all_below_at, small}
use Rattle.krb_aes.proofs.FieldFacts.{times-xor}
use Rattle.krb_aes.proofs.Inverses.{inverse_in_table, sbox_by_table, sbox_is}
use Rattle.krb_aes.proofs.Xor.{xor_swap}
use Rattle.krb_aes.proofs.Lanes.{map_same}

-- ---- what the tables give

unfoldable pub at_places : List ℕ → List ℕ → ℕ → ℕ
at_places t u b = bit_xor (entry t (first_place b)) (entry u (second_place b))

is_substituted_at : ℕ → ℕ → Bool
is_substituted_at b s =
    eqb (at_places SBOX_FIRST SBOX_SECOND (nibbles_of b)) (bare_nibbles s) && eqb (at_places DOUBLED_FIRST DOUBLED_SECOND (nibbles_of b)) (bare_doubled s)
    && eqb (at_places BARE_FIRST BARE_SECOND (nibbles_of b)) (bit_xor s 0x63)

substituted_all : all_below (λ b. is_substituted_at b (sbox_by_table b)) 256 ≡ true
unfolding is_substituted_at at_places first_place second_place nibbles_of bare_nibbles bare_doubled times product remainder affine sbox_by_table inverse_in_table
substituted_all = refl

substituted : (b : ℕ) → b < 256 → is_substituted_at b (sbox b) ≡ true
substituted b h = ap (is_substituted_at b) (sbox_is b h) ∙ all_below_at (λ b. is_substituted_at b (sbox_by_table b)) 256 b substituted_all h

parts_at : (b : ℕ) → b < 256 → (at_places SBOX_FIRST SBOX_SECOND (nibbles_of b) ≡ bare_nibbles (sbox b)) × (at_places DOUBLED_FIRST DOUBLED_SECOND (nibbles_of b) ≡ bare_doubled (sbox b))
    × (at_places BARE_FIRST BARE_SECOND (nibbles_of b) ≡ bit_xor (sbox b) 0x63)
unfolding is_substituted_at
parts_at b h =
    let t = and_parts (eqb (at_places SBOX_FIRST SBOX_SECOND (nibbles_of b)) (bare_nibbles (sbox b)) && eqb (at_places DOUBLED_FIRST DOUBLED_SECOND (nibbles_of b)) (bare_doubled (sbox b))) _
    (substituted b h) in
    let u = and_parts (eqb (at_places SBOX_FIRST SBOX_SECOND (nibbles_of b)) (bare_nibbles (sbox b))) _ t.0 in
    (eqb-true _ _ u.0, eqb-true _ _ u.1, eqb-true _ _ t.1)

pub each_from : (s : List ℕ) → ((i : ℕ) → get_or s i 0 < 256) → Each1 (Fits w8) s
each_from [] h = tt
each_from (x ∷ xs) h = (record { fits = h 0 }, each_from xs (λ i. h (suc i)))

-- from what the tables give of a vector to the S-box of its bytes
sub_lanes : (t u : List ℕ) (f : ℕ → ℕ) → ((b : ℕ) → b < 256 → at_places t u (nibbles_of b) ≡ f b) → (s x r : List ℕ) → AreBytes s → x ≡ map nibbles_of s
    → r ≡ map (λ b. bit_xor (entry t (first_place b)) (entry u (second_place b))) x → r ≡ map f s
unfolding at_places
sub_lanes t u f same s x r h e g =
    g ∙ ap (map (λ b. bit_xor (entry t (first_place b)) (entry u (second_place b)))) e
    ∙ map-map (λ b. bit_xor (entry t (first_place b)) (entry u (second_place b))) nibbles_of s
    ∙ map_same (λ b. bit_xor (entry t (first_place (nibbles_of b))) (entry u (second_place (nibbles_of b)))) f same s (each_from s h.small)

pub bare_lanes : (s x r : List ℕ) → AreBytes s → x ≡ map nibbles_of s → r ≡ map (λ b. bit_xor (entry SBOX_FIRST (first_place b)) (entry SBOX_SECOND (second_place b))) x → r ≡ map (λ b. bare_nibbles (sbox b)) s
bare_lanes = sub_lanes SBOX_FIRST SBOX_SECOND (λ b. bare_nibbles (sbox b)) (λ b h. (parts_at b h).0)

pub doubled_lanes : (s x r : List ℕ) → AreBytes s → x ≡ map nibbles_of s → r ≡ map (λ b. bit_xor (entry DOUBLED_FIRST (first_place b)) (entry DOUBLED_SECOND (second_place b))) x → r ≡ map (λ b. bare_doubled (sbox b)) s
doubled_lanes = sub_lanes DOUBLED_FIRST DOUBLED_SECOND (λ b. bare_doubled (sbox b)) (λ b h. (parts_at b h).1)

pub plain_lanes : (s x r : List ℕ) → AreBytes s → x ≡ map nibbles_of s → r ≡ map (λ b. bit_xor (entry BARE_FIRST (first_place b)) (entry BARE_SECOND (second_place b))) x → r ≡ map (λ b. bit_xor (sbox b) 0x63) s
plain_lanes = sub_lanes BARE_FIRST BARE_SECOND (λ b. bit_xor (sbox b) 0x63) (λ b h. (parts_at b h).2)

-- ---- holding is additive

unfoldable pub additive_at : List ℕ → ℕ → Bool
additive_at t x = all_below (λ y. eqb (get_or t (bit_xor x y) 0) (bit_xor (get_or t x 0) (get_or t y 0))) 16

high_all : all_below (additive_at nibbles_of_high) 16 ≡ true
unfolding additive_at
high_all = refl

low_all : all_below (additive_at nibbles_of_low) 16 ≡ true
unfolding additive_at
low_all = refl

pub additive : (t : List ℕ) → all_below (additive_at t) 16 ≡ true → (x y : ℕ) → x < 16 → y < 16 → get_or t (bit_xor x y) 0 ≡ bit_xor (get_or t x 0) (get_or t y 0)
unfolding additive_at
additive t all x y h k = eqb-true _ _ (all_below_at (λ y. eqb (get_or t (bit_xor x y) 0) (bit_xor (get_or t x 0) (get_or t y 0))) 16 y (all_below_at (additive_at t) 16 x all h) k)

pub nibbles_of-xor : (a b : ℕ) → a < 256 → b < 256 → nibbles_of (bit_xor a b) ≡ bit_xor (nibbles_of a) (nibbles_of b)
unfolding nibbles_of
nibbles_of-xor a b h k =
    let high : get_or nibbles_of_high (bit_xor a b / 16) 0 ≡ bit_xor (get_or nibbles_of_high (a / 16) 0) (get_or nibbles_of_high (b / 16) 0) =
    ap (λ (n : ℕ). get_or nibbles_of_high n 0) (xor_shr a b 4) ∙ additive nibbles_of_high high_all (a / 16) (b / 16) (omega arith) (omega arith) in
    let low : get_or nibbles_of_low (bit_and (bit_xor a b) 15) 0 ≡ bit_xor (get_or nibbles_of_low (bit_and a 15) 0) (get_or nibbles_of_low (bit_and b 15) 0) =
    ap (λ (n : ℕ). get_or nibbles_of_low n 0) (and_mask (bit_xor a b) 4 ∙ xor_mod a b 4)
    ∙ additive nibbles_of_low low_all (a % 16) (b % 16) (omega arith) (omega arith)
    ∙ ap₂ (λ (p q : ℕ). bit_xor (get_or nibbles_of_low p 0) (get_or nibbles_of_low q 0)) (sym (and_mask a 4)) (sym (and_mask b 4)) in
    ap₂ (λ (p q : ℕ). bit_xor p q) high low ∙ xor_swap (get_or nibbles_of_high (a / 16) 0) (get_or nibbles_of_high (b / 16) 0) (get_or nibbles_of_low (bit_and a 15) 0) (get_or nibbles_of_low (bit_and b 15) 0)

-- ---- the sums of a round

-- what stands on both sides of a sum goes out
pub xor_both : (a b p : ℕ) → bit_xor (bit_xor a p) (bit_xor b p) ≡ bit_xor a b
xor_both a b p = xor_swap a p b p ∙ ap (bit_xor (bit_xor a b)) (xor_self p) ∙ xor_zero_r (bit_xor a b)

thrice_test : ℕ → Bool
thrice_test x = eqb (bit_xor (times 2 x) x) (times 3 x)

thrice_all : all_below thrice_test 256 ≡ true
unfolding thrice_test times product remainder
thrice_all = refl

thrice : (x : ℕ) → x < 256 → bit_xor (times 2 x) x ≡ times 3 x
unfolding thrice_test
thrice x h = eqb-true _ _ (all_below_at thrice_test 256 x thrice_all h)

-- the parts of a mixed byte and its key, in the order in which they are added
regroup : (a b c d k b2 : ℕ) → bit_xor (bit_xor d k) (bit_xor (bit_xor b a) (bit_xor c b2)) ≡ bit_xor (bit_xor (bit_xor a (bit_xor b2 b)) (bit_xor c d)) k
regroup a b c d k b2 =
    xor_comm (bit_xor d k) (bit_xor (bit_xor b a) (bit_xor c b2))
    ∙ sym (xor_assoc (bit_xor (bit_xor b a) (bit_xor c b2)) d k)
    ∙ ap (λ (x : ℕ). bit_xor x k)
    (ap (λ (x : ℕ). bit_xor x d) (ap₂ (λ (p q : ℕ). bit_xor p q) (xor_comm b a) (xor_comm c b2) ∙ xor_swap a b b2 c)
    ∙ xor_assoc (bit_xor a b2) (bit_xor b c) d
    ∙ ap (bit_xor (bit_xor a b2)) (xor_assoc b c d)
    ∙ sym (xor_assoc (bit_xor a b2) b (bit_xor c d))
    ∙ ap (λ (x : ℕ). bit_xor x (bit_xor c d)) (xor_assoc a b2 b))

-- with constants p and q that go out
regroup_with : (a b c d k b2 p q : ℕ)
    → bit_xor (bit_xor (bit_xor (bit_xor d p) (bit_xor k p)) (bit_xor (bit_xor b p) (bit_xor a q))) (bit_xor (bit_xor c p) (bit_xor b2 q))
    ≡ bit_xor (bit_xor (bit_xor a (bit_xor b2 b)) (bit_xor c d)) k
regroup_with a b c d k b2 p q =
    xor_assoc (bit_xor (bit_xor d p) (bit_xor k p)) (bit_xor (bit_xor b p) (bit_xor a q)) (bit_xor (bit_xor c p) (bit_xor b2 q))
    ∙ ap₂ (λ (x y : ℕ). bit_xor x y) (xor_both d k p)
    (xor_swap (bit_xor b p) (bit_xor a q) (bit_xor c p) (bit_xor b2 q)
    ∙ ap₂ (λ (x y : ℕ). bit_xor x y) (xor_both b c p) (xor_both a b2 q)
    ∙ xor_swap b c a b2)
    ∙ regroup a b c d k b2

pub mixed_nibbles : (a b c d k : ℕ) → a < 256 → b < 256 → c < 256 → d < 256 → k < 256
    → bit_xor (bit_xor (bit_xor (bare_nibbles d) (bare_nibbles k)) (bit_xor (bare_nibbles b) (bare_doubled a))) (bit_xor (bare_nibbles c) (bare_doubled b)) ≡ nibbles_of (bit_xor (mixed a b c d) k)
unfolding bare_nibbles bare_doubled mixed
mixed_nibbles a b c d k ha hb hc hd hk =
    let p : ℕ = 0x63 in
    let small_p : 0x63 < 256 = omega arith in
    let da = xor_lt 8 a 0x63 ha small_p in
    let db = xor_lt 8 b 0x63 hb small_p in
    let dc = xor_lt 8 c 0x63 hc small_p in
    let dd = xor_lt 8 d 0x63 hd small_p in
    let dk = xor_lt 8 k 0x63 hk small_p in
    let ta = (small (bit_xor a 0x63) da).by_2 in
    let tb = (small (bit_xor b 0x63) db).by_2 in
    ap₂ (λ (x y : ℕ). bit_xor x y)
    (ap₂ (λ (x y : ℕ). bit_xor x y) (sym (nibbles_of-xor (bit_xor d 0x63) (bit_xor k 0x63) dd dk)) (sym (nibbles_of-xor (bit_xor b 0x63) (times 2 (bit_xor a 0x63)) db ta))
    ∙ sym (nibbles_of-xor (bit_xor (bit_xor d 0x63) (bit_xor k 0x63)) (bit_xor (bit_xor b 0x63) (times 2 (bit_xor a 0x63))) (xor_lt 8 _ _ dd dk) (xor_lt 8 _ _ db ta)))
    (sym (nibbles_of-xor (bit_xor c 0x63) (times 2 (bit_xor b 0x63)) dc tb))
    ∙ sym (nibbles_of-xor (bit_xor (bit_xor (bit_xor d 0x63) (bit_xor k 0x63)) (bit_xor (bit_xor b 0x63) (times 2 (bit_xor a 0x63)))) (bit_xor (bit_xor c 0x63) (times 2 (bit_xor b 0x63)))
    (xor_lt 8 _ _ (xor_lt 8 _ _ dd dk) (xor_lt 8 _ _ db ta)) (xor_lt 8 _ _ dc tb))
    ∙ ap nibbles_of
    (ap₂ (λ (x y : ℕ). bit_xor (bit_xor (bit_xor (bit_xor d 0x63) (bit_xor k 0x63)) (bit_xor (bit_xor b 0x63) x)) (bit_xor (bit_xor c 0x63) y)) (times-xor 2 a 0x63) (times-xor 2 b 0x63)
    ∙ regroup_with (times 2 a) b c d k (times 2 b) 0x63 (times 2 0x63)
    ∙ ap (λ (x : ℕ). bit_xor (bit_xor (bit_xor (times 2 a) x) (bit_xor c d)) k) (thrice b hb))

-- what the look-ups of `hold` give
held_entries_test : ℕ → Bool
held_entries_test b = eqb (bit_xor (entry nibbles_of_high (b / 16)) (entry nibbles_of_low (bit_and b 15))) (nibbles_of b)

held_entries_all : all_below held_entries_test 256 ≡ true
unfolding held_entries_test nibbles_of
held_entries_all = refl

held_entries : (b : ℕ) → b < 256 → bit_xor (entry nibbles_of_high (b / 16)) (entry nibbles_of_low (bit_and b 15)) ≡ nibbles_of b
unfolding held_entries_test
held_entries b h = eqb-true _ _ (all_below_at held_entries_test 256 b held_entries_all h)

pub entries_nibbles : (x r : List ℕ) → Each1 (Fits w8) x → r ≡ map (λ b. bit_xor (entry nibbles_of_high (b / 16)) (entry nibbles_of_low (bit_and b 15))) x → r ≡ map nibbles_of x
entries_nibbles x r f e = e ∙ map_same (λ b. bit_xor (entry nibbles_of_high (b / 16)) (entry nibbles_of_low (bit_and b 15))) nibbles_of held_entries x f

-- the same in the order in which a round adds its parts
pub mixed_nibbles_late : (a b c d k : ℕ) → a < 256 → b < 256 → c < 256 → d < 256 → k < 256
    → bit_xor (bit_xor (bare_nibbles c) (bare_doubled b)) (bit_xor (bit_xor (bare_nibbles b) (bare_doubled a)) (bit_xor (bare_nibbles d) (bare_nibbles k))) ≡ nibbles_of (bit_xor (mixed a b c d) k)
mixed_nibbles_late a b c d k ha hb hc hd hk =
    xor_comm (bit_xor (bare_nibbles c) (bare_doubled b)) (bit_xor (bit_xor (bare_nibbles b) (bare_doubled a)) (bit_xor (bare_nibbles d) (bare_nibbles k)))
    ∙ ap (λ (x : ℕ). bit_xor x (bit_xor (bare_nibbles c) (bare_doubled b))) (xor_comm (bit_xor (bare_nibbles b) (bare_doubled a)) (bit_xor (bare_nibbles d) (bare_nibbles k)))
    ∙ mixed_nibbles a b c d k ha hb hc hd hk
