-- Bytes as they are held between the rounds of the inverse cipher.
use Rattle.std.proofs.Common.{◌≡◌, ℕ, ◌/◌, ◌%◌, ◌<◌, Bool, true, eqb, ◌&&◌, List, [], ◌∷◌, ◌++◌, map, length, get_or, bit_and, bit_xor, refl, sym, ap, ap₂, ◌∙◌, arith, w8, Fits}
use Rattle.std.proofs.lemmas.Bool.{and_parts, eqb-true}
use Rattle.std.proofs.lemmas.Nat.{and_mask}
use Rattle.std.proofs.lemmas.Simd.{map-map}
use lib.Bits.{xor_assoc, xor_comm, xor_shr, xor_mod, xor_lt}
use lib.Lanes.{Each1, zip2, pick_l}
use Rattle.krb_aes.specs.Field.{times, product, remainder}
use Rattle.krb_aes.specs.Cipher.{cell, from_cells, add_round_key}
use Rattle.krb_aes.specs.InverseCipher.{sum4}
use Rattle.krb_aes.specs.InverseCipher.{inv_affine, inv_sbox, inv_mixed}
use Rattle.krb_base.specs.Bytes.{AreBytes}
use Rattle.krb_aes.specs.Nibbles.{entry, first_place, second_place, inv_linear_high, inv_linear_low, inv_linear_nibbles, inv_affine_nibbles}
use Rattle.krb_aes.specs.Rounds.{rows_shifted, round_key}
use Rattle.krb_aes.specs.declared.inverse_sbox.TheConstants.{UNDONE_HIGH, UNDONE_LOW, TIMES_14_FIRST, TIMES_14_SECOND, TIMES_11_FIRST, TIMES_11_SECOND, TIMES_13_FIRST, TIMES_13_SECOND, TIMES_9_FIRST, TIMES_9_SECOND, INV_SBOX_FIRST, INV_SBOX_SECOND}
use Rattle.krb_aes.proofs.Mixing.{all_below, all_below_at, small, inv_mixed-lt}
use Rattle.krb_aes.proofs.FieldFacts.{times-xor}
use Rattle.krb_aes.proofs.Inverses.{inverse_in_table, inv_sbox_by_table, inv_sbox_is}
use Rattle.krb_aes.proofs.Xor.{xor_swap, sum4-xor}
use Rattle.krb_aes.proofs.Inverse.{cells_16}
use Rattle.krb_aes.proofs.Lanes.{map_same}
use Rattle.krb_aes.proofs.Nibbles.{at_places, each_from, additive_at, additive}
use Rattle.krb_aes.proofs.Rounds.{AreBytes-round_key}

-- ---- what the tables give

is_opened_at : ℕ → ℕ → ℕ → Bool
is_opened_at h b s =
    eqb (at_places TIMES_14_FIRST TIMES_14_SECOND h) (inv_linear_nibbles (times 14 s)) && eqb (at_places TIMES_11_FIRST TIMES_11_SECOND h) (inv_linear_nibbles (times 11 s))
    && eqb (at_places TIMES_13_FIRST TIMES_13_SECOND h) (inv_linear_nibbles (times 13 s)) && eqb (at_places TIMES_9_FIRST TIMES_9_SECOND h) (inv_linear_nibbles (times 9 s))
    && eqb (at_places INV_SBOX_FIRST INV_SBOX_SECOND h) s

opened_all : all_below (λ b. is_opened_at (inv_affine_nibbles b) b (inv_sbox_by_table b)) 256 ≡ true
unfolding is_opened_at at_places first_place second_place inv_affine_nibbles inv_linear_nibbles times product remainder inv_affine inv_sbox_by_table inverse_in_table
opened_all = refl

opened_at : (b : ℕ) → b < 256 → is_opened_at (inv_affine_nibbles b) b (inv_sbox b) ≡ true
opened_at b h =
    ap (is_opened_at (inv_affine_nibbles b) b) (inv_sbox_is b h)
    ∙ all_below_at (λ b. is_opened_at (inv_affine_nibbles b) b (inv_sbox_by_table b)) 256 b opened_all h

record Opened (b : ℕ) : Type 0 where
  pub by_14 : at_places TIMES_14_FIRST TIMES_14_SECOND (inv_affine_nibbles b) ≡ inv_linear_nibbles (times 14 (inv_sbox b))
  pub by_11 : at_places TIMES_11_FIRST TIMES_11_SECOND (inv_affine_nibbles b) ≡ inv_linear_nibbles (times 11 (inv_sbox b))
  pub by_13 : at_places TIMES_13_FIRST TIMES_13_SECOND (inv_affine_nibbles b) ≡ inv_linear_nibbles (times 13 (inv_sbox b))
  pub by_9 : at_places TIMES_9_FIRST TIMES_9_SECOND (inv_affine_nibbles b) ≡ inv_linear_nibbles (times 9 (inv_sbox b))
  pub plain : at_places INV_SBOX_FIRST INV_SBOX_SECOND (inv_affine_nibbles b) ≡ inv_sbox b

five : (a b c d e : Bool) → (a && b && c && d && e) ≡ true → (a ≡ true) × (b ≡ true) × (c ≡ true) × (d ≡ true) × (e ≡ true)
five a b c d e h =
    let o = and_parts (a && b && c && d) e h in
    let p = and_parts (a && b && c) d o.0 in
    let q = and_parts (a && b) c p.0 in
    let r = and_parts a b q.0 in
    (r.0, r.1, q.1, p.1, o.1)

opened : (b : ℕ) → b < 256 → Opened b
unfolding is_opened_at
opened b h =
    let t = five _ _ _ _ _ (opened_at b h) in
    record { by_14 = eqb-true _ _ t.0; by_11 = eqb-true _ _ t.1; by_13 = eqb-true _ _ t.2; by_9 = eqb-true _ _ t.3; plain = eqb-true _ _ t.4 }

back_lanes : (t u : List ℕ) (f : ℕ → ℕ) → ((b : ℕ) → b < 256 → at_places t u (inv_affine_nibbles b) ≡ f b) → (s x r : List ℕ) → AreBytes s → x ≡ map inv_affine_nibbles s
    → r ≡ map (λ b. bit_xor (entry t (first_place b)) (entry u (second_place b))) x → r ≡ map f s
unfolding at_places
back_lanes t u f same s x r h e g =
    g ∙ ap (map (λ b. bit_xor (entry t (first_place b)) (entry u (second_place b)))) e
    ∙ map-map (λ b. bit_xor (entry t (first_place b)) (entry u (second_place b))) inv_affine_nibbles s
    ∙ map_same (λ b. bit_xor (entry t (first_place (inv_affine_nibbles b))) (entry u (second_place (inv_affine_nibbles b)))) f same s (each_from s h.small)

pub lanes_14 : (s x r : List ℕ) → AreBytes s → x ≡ map inv_affine_nibbles s → r ≡ map (λ b. bit_xor (entry TIMES_14_FIRST (first_place b)) (entry TIMES_14_SECOND (second_place b))) x → r ≡ map (λ b. inv_linear_nibbles (times 14 (inv_sbox b))) s
lanes_14 = back_lanes TIMES_14_FIRST TIMES_14_SECOND (λ b. inv_linear_nibbles (times 14 (inv_sbox b))) (λ b h. (opened b h).by_14)

pub lanes_11 : (s x r : List ℕ) → AreBytes s → x ≡ map inv_affine_nibbles s → r ≡ map (λ b. bit_xor (entry TIMES_11_FIRST (first_place b)) (entry TIMES_11_SECOND (second_place b))) x → r ≡ map (λ b. inv_linear_nibbles (times 11 (inv_sbox b))) s
lanes_11 = back_lanes TIMES_11_FIRST TIMES_11_SECOND (λ b. inv_linear_nibbles (times 11 (inv_sbox b))) (λ b h. (opened b h).by_11)

pub lanes_13 : (s x r : List ℕ) → AreBytes s → x ≡ map inv_affine_nibbles s → r ≡ map (λ b. bit_xor (entry TIMES_13_FIRST (first_place b)) (entry TIMES_13_SECOND (second_place b))) x → r ≡ map (λ b. inv_linear_nibbles (times 13 (inv_sbox b))) s
lanes_13 = back_lanes TIMES_13_FIRST TIMES_13_SECOND (λ b. inv_linear_nibbles (times 13 (inv_sbox b))) (λ b h. (opened b h).by_13)

pub lanes_9 : (s x r : List ℕ) → AreBytes s → x ≡ map inv_affine_nibbles s → r ≡ map (λ b. bit_xor (entry TIMES_9_FIRST (first_place b)) (entry TIMES_9_SECOND (second_place b))) x → r ≡ map (λ b. inv_linear_nibbles (times 9 (inv_sbox b))) s
lanes_9 = back_lanes TIMES_9_FIRST TIMES_9_SECOND (λ b. inv_linear_nibbles (times 9 (inv_sbox b))) (λ b h. (opened b h).by_9)

pub lanes_plain : (s x r : List ℕ) → AreBytes s → x ≡ map inv_affine_nibbles s → r ≡ map (λ b. bit_xor (entry INV_SBOX_FIRST (first_place b)) (entry INV_SBOX_SECOND (second_place b))) x → r ≡ map inv_sbox s
lanes_plain = back_lanes INV_SBOX_FIRST INV_SBOX_SECOND inv_sbox (λ b h. (opened b h).plain)

-- what the look-ups of `hold_back` give
back_entries_test : ℕ → Bool
back_entries_test b = eqb (bit_xor (entry UNDONE_HIGH (b / 16)) (entry UNDONE_LOW (bit_and b 15))) (inv_affine_nibbles b)

back_entries_all : all_below back_entries_test 256 ≡ true
unfolding back_entries_test inv_affine_nibbles inv_linear_nibbles
back_entries_all = refl

back_entries : (b : ℕ) → b < 256 → bit_xor (entry UNDONE_HIGH (b / 16)) (entry UNDONE_LOW (bit_and b 15)) ≡ inv_affine_nibbles b
unfolding back_entries_test
back_entries b h = eqb-true _ _ (all_below_at back_entries_test 256 b back_entries_all h)

pub entries_back : (x r : List ℕ) → Each1 (Fits w8) x → r ≡ map (λ b. bit_xor (entry UNDONE_HIGH (b / 16)) (entry UNDONE_LOW (bit_and b 15))) x → r ≡ map inv_affine_nibbles x
entries_back x r f e = e ∙ map_same (λ b. bit_xor (entry UNDONE_HIGH (b / 16)) (entry UNDONE_LOW (bit_and b 15))) inv_affine_nibbles back_entries x f

-- ---- holding is additive

high_all : all_below (additive_at inv_linear_high) 16 ≡ true
unfolding additive_at
high_all = refl

low_all : all_below (additive_at inv_linear_low) 16 ≡ true
unfolding additive_at
low_all = refl

pub back-xor : (a b : ℕ) → a < 256 → b < 256 → inv_linear_nibbles (bit_xor a b) ≡ bit_xor (inv_linear_nibbles a) (inv_linear_nibbles b)
unfolding inv_linear_nibbles
back-xor a b h k =
    let high : get_or inv_linear_high (bit_xor a b / 16) 0 ≡ bit_xor (get_or inv_linear_high (a / 16) 0) (get_or inv_linear_high (b / 16) 0) =
    ap (λ (n : ℕ). get_or inv_linear_high n 0) (xor_shr a b 4) ∙ additive inv_linear_high high_all (a / 16) (b / 16) (omega arith) (omega arith) in
    let low : get_or inv_linear_low (bit_and (bit_xor a b) 15) 0 ≡ bit_xor (get_or inv_linear_low (bit_and a 15) 0) (get_or inv_linear_low (bit_and b 15) 0) =
    ap (λ (n : ℕ). get_or inv_linear_low n 0) (and_mask (bit_xor a b) 4 ∙ xor_mod a b 4)
    ∙ additive inv_linear_low low_all (a % 16) (b % 16) (omega arith) (omega arith)
    ∙ ap₂ (λ (p q : ℕ). bit_xor (get_or inv_linear_low p 0) (get_or inv_linear_low q 0)) (sym (and_mask a 4)) (sym (and_mask b 4)) in
    ap₂ (λ (p q : ℕ). bit_xor p q) high low ∙ xor_swap (get_or inv_linear_high (a / 16) 0) (get_or inv_linear_high (b / 16) 0) (get_or inv_linear_low (bit_and a 15) 0) (get_or inv_linear_low (bit_and b 15) 0)

-- the sums of a round: bytes a, b, c, d mixed back, with those of a key
pub inv_mixed-xor : (a b c d e f g h : ℕ) → inv_mixed (bit_xor a e) (bit_xor b f) (bit_xor c g) (bit_xor d h) ≡ bit_xor (inv_mixed a b c d) (inv_mixed e f g h)
unfolding inv_mixed
inv_mixed-xor a b c d e f g h =
    (λ i. sum4 (times-xor 14 a e i) (times-xor 11 b f i) (times-xor 13 c g i) (times-xor 9 d h i))
    ∙ sym (sum4-xor (times 14 a) (times 11 b) (times 13 c) (times 9 d) (times 14 e) (times 11 f) (times 13 g) (times 9 h))

sum_back : (a b c d : ℕ) → a < 256 → b < 256 → c < 256 → d < 256
    → bit_xor (bit_xor (inv_linear_nibbles (times 14 a)) (inv_linear_nibbles (times 11 b))) (bit_xor (inv_linear_nibbles (times 13 c)) (inv_linear_nibbles (times 9 d))) ≡ inv_linear_nibbles (inv_mixed a b c d)
unfolding inv_mixed
sum_back a b c d ha hb hc hd =
    let sa = (small a ha).by_14 in let sb = (small b hb).by_11 in let sc = (small c hc).by_13 in let sd = (small d hd).by_9 in
    ap₂ (λ (x y : ℕ). bit_xor x y) (sym (back-xor (times 14 a) (times 11 b) sa sb)) (sym (back-xor (times 13 c) (times 9 d) sc sd))
    ∙ sym (back-xor (bit_xor (times 14 a) (times 11 b)) (bit_xor (times 13 c) (times 9 d)) (xor_lt 8 _ _ sa sb) (xor_lt 8 _ _ sc sd))

pub mixed_back : (a b c d e f g h : ℕ) → a < 256 → b < 256 → c < 256 → d < 256 → e < 256 → f < 256 → g < 256 → h < 256
    → bit_xor (bit_xor (bit_xor (inv_linear_nibbles (times 14 a)) (inv_linear_nibbles (times 11 b))) (bit_xor (inv_linear_nibbles (times 13 c)) (inv_linear_nibbles (times 9 d)))) (inv_affine_nibbles (inv_mixed e f g h))
    ≡ inv_affine_nibbles (inv_mixed (bit_xor a e) (bit_xor b f) (bit_xor c g) (bit_xor d h))
unfolding inv_affine_nibbles
mixed_back a b c d e f g h ha hb hc hd he hf hg hh =
    let m : ℕ = inv_mixed a b c d in
    let k : ℕ = inv_mixed e f g h in
    let p : 0x63 < 256 = omega arith in
    let sm = inv_mixed-lt a b c d ha hb hc hd in
    let sk = inv_mixed-lt e f g h he hf hg hh in
    ap (λ (x : ℕ). bit_xor x (inv_linear_nibbles (bit_xor k 0x63))) (sum_back a b c d ha hb hc hd)
    ∙ sym (back-xor m (bit_xor k 0x63) sm (xor_lt 8 k 0x63 sk p))
    ∙ ap inv_linear_nibbles (sym (xor_assoc m k 0x63) ∙ ap (λ (x : ℕ). bit_xor x 0x63) (sym (inv_mixed-xor a b c d e f g h)))

-- a byte held with that of a key
held_key_back : (b k : ℕ) → b < 256 → k < 256 → bit_xor (inv_affine_nibbles b) (inv_linear_nibbles k) ≡ inv_affine_nibbles (bit_xor b k)
unfolding inv_affine_nibbles
held_key_back b k hb hk =
    sym (back-xor (bit_xor b 0x63) k (xor_lt 8 b 0x63 hb (omega arith)) hk)
    ∙ ap inv_linear_nibbles (xor_assoc b 0x63 k ∙ ap (bit_xor b) (xor_comm 0x63 k) ∙ sym (xor_assoc b k 0x63))

begin_cells : (b w : List ℕ) (n : ℕ) → AreBytes b → zip2 bit_xor (map inv_affine_nibbles (from_cells (cell b))) (map inv_linear_nibbles (round_key w n)) ≡ map inv_affine_nibbles (rows_shifted 0 (add_round_key w n b))
unfolding rows_shifted add_round_key round_key
begin_cells b w n h = λ i.
    held_key_back (get_or b 0 0) (get_or (round_key w n) 0 0) (h.small 0) ((AreBytes-round_key w n).small 0) i ∷
    held_key_back (get_or b 1 0) (get_or (round_key w n) 1 0) (h.small 1) ((AreBytes-round_key w n).small 1) i ∷
    held_key_back (get_or b 2 0) (get_or (round_key w n) 2 0) (h.small 2) ((AreBytes-round_key w n).small 2) i ∷
    held_key_back (get_or b 3 0) (get_or (round_key w n) 3 0) (h.small 3) ((AreBytes-round_key w n).small 3) i ∷
    held_key_back (get_or b 4 0) (get_or (round_key w n) 4 0) (h.small 4) ((AreBytes-round_key w n).small 4) i ∷
    held_key_back (get_or b 5 0) (get_or (round_key w n) 5 0) (h.small 5) ((AreBytes-round_key w n).small 5) i ∷
    held_key_back (get_or b 6 0) (get_or (round_key w n) 6 0) (h.small 6) ((AreBytes-round_key w n).small 6) i ∷
    held_key_back (get_or b 7 0) (get_or (round_key w n) 7 0) (h.small 7) ((AreBytes-round_key w n).small 7) i ∷
    held_key_back (get_or b 8 0) (get_or (round_key w n) 8 0) (h.small 8) ((AreBytes-round_key w n).small 8) i ∷
    held_key_back (get_or b 9 0) (get_or (round_key w n) 9 0) (h.small 9) ((AreBytes-round_key w n).small 9) i ∷
    held_key_back (get_or b 10 0) (get_or (round_key w n) 10 0) (h.small 10) ((AreBytes-round_key w n).small 10) i ∷
    held_key_back (get_or b 11 0) (get_or (round_key w n) 11 0) (h.small 11) ((AreBytes-round_key w n).small 11) i ∷
    held_key_back (get_or b 12 0) (get_or (round_key w n) 12 0) (h.small 12) ((AreBytes-round_key w n).small 12) i ∷
    held_key_back (get_or b 13 0) (get_or (round_key w n) 13 0) (h.small 13) ((AreBytes-round_key w n).small 13) i ∷
    held_key_back (get_or b 14 0) (get_or (round_key w n) 14 0) (h.small 14) ((AreBytes-round_key w n).small 14) i ∷
    held_key_back (get_or b 15 0) (get_or (round_key w n) 15 0) (h.small 15) ((AreBytes-round_key w n).small 15) i ∷ []

pub begun : (b k x w : List ℕ) (n : ℕ) → AreBytes b → length b ≡ 16 → x ≡ map inv_affine_nibbles b → k ≡ map inv_linear_nibbles (round_key w n) → zip2 bit_xor x k ≡ map inv_affine_nibbles (rows_shifted 0 (add_round_key w n b))
begun b k x w n h e ex ek = (λ i. zip2 bit_xor ((ex ∙ ap (map inv_affine_nibbles) (sym (cells_16 b e))) i) (ek i)) ∙ begin_cells b w n h

-- the same in the order in which a round adds its parts
pub mixed_back_late : (a b c d e f g h : ℕ) → a < 256 → b < 256 → c < 256 → d < 256 → e < 256 → f < 256 → g < 256 → h < 256
    → bit_xor (inv_linear_nibbles (times 14 a)) (bit_xor (inv_linear_nibbles (times 11 b)) (bit_xor (inv_linear_nibbles (times 13 c)) (bit_xor (inv_linear_nibbles (times 9 d)) (inv_affine_nibbles (inv_mixed e f g h)))))
    ≡ inv_affine_nibbles (inv_mixed (bit_xor a e) (bit_xor b f) (bit_xor c g) (bit_xor d h))
mixed_back_late a b c d e f g h ha hb hc hd he hf hg hh =
    let x : ℕ = inv_linear_nibbles (times 14 a) in
    let y : ℕ = inv_linear_nibbles (times 11 b) in
    let z : ℕ = inv_linear_nibbles (times 13 c) in
    let t : ℕ = inv_linear_nibbles (times 9 d) in
    let k : ℕ = inv_affine_nibbles (inv_mixed e f g h) in
    sym (xor_assoc (bit_xor x y) (bit_xor z t) k ∙ ap (bit_xor (bit_xor x y)) (xor_assoc z t k) ∙ xor_assoc x y (bit_xor z (bit_xor t k)))
    ∙ mixed_back a b c d e f g h ha hb hc hd he hf hg hh

-- the lanes that `inv_mix` makes
abbrev pub inv_mix_lanes : List ℕ → List ℕ → List ℕ → List ℕ → List ℕ → List ℕ → List ℕ
inv_mix_lanes p a b c d k =
    let first : List ℕ = zip2 bit_xor d k in
    let late : List ℕ = zip2 bit_xor c (pick_l 0 (first ++ first) p) in
    let middle : List ℕ = zip2 bit_xor b (pick_l 0 (late ++ late) p) in
    zip2 bit_xor a (pick_l 0 (middle ++ middle) p)
