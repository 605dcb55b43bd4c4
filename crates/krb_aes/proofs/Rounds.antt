-- States whose rows are turned, and round keys as bytes.
use Rattle.std.proofs.Common.{◌≡◌, ℕ, ◌+◌, ◌*◌, ◌%◌, List, [], ◌∷◌, ◌++◌, bit_xor, get_or, map, length, replicate, suc, zero, ◌-◌, ◌/◌, ◌<◌, sym, refl, ap, ◌∙◌, arith, add-one, Fits, w8}
use Rattle.std.proofs.lemmas.List.{take_all}
use lib.Lanes.{zip2, pick_l, chunk, Each1}
use Rattle.krb_aes.specs.Cipher.{from_cells, cell, add_round_key, after_rounds, cipher_rounds, cipher, sub_bytes, shift_rows, mix_columns}
use Rattle.krb_aes.specs.Stealing.{xor_block}
use Rattle.krb_aes.proofs.Inverse.{cells_16}
use Rattle.krb_aes.proofs.Nibbles.{nibbles_of-xor}
use Rattle.krb_base.specs.Bytes.{AreBytes}
use Rattle.krb_aes.specs.Nibbles.{nibbles_of, bare_nibbles}
use Rattle.krb_aes.specs.Rounds.{rows_shifted, columns_raised, round_key, AreRoundKeys}
use Rattle.krb_aes.proofs.StateLemmas.{AreBytes-from_cells, word_byte-lt, after_more}

pub AreBytes-rows_shifted : (q : ℕ) (s : List ℕ) → AreBytes s → AreBytes (rows_shifted q s)
unfolding rows_shifted
AreBytes-rows_shifted q s h = AreBytes-from_cells _ (λ r c. h.small (4 * ((c + q * r) % 4) + r))

pub AreBytes-round_key : (w : List ℕ) (n : ℕ) → AreBytes (round_key w n)
unfolding round_key
AreBytes-round_key w n = AreBytes-from_cells _ (λ r c. word_byte-lt (get_or w (4 * n + c) 0) r)

-- the lanes that `mix` makes
abbrev pub mixed_lanes : List ℕ → List ℕ → List ℕ → List ℕ → List ℕ → List ℕ
mixed_lanes p1 p3 a b k =
    let next : List ℕ = zip2 bit_xor (pick_l 0 (a ++ a) p1) b in
    let last : List ℕ = zip2 bit_xor a k in
    zip2 bit_xor (pick_l 0 (next ++ next) p1) (zip2 bit_xor next (pick_l 0 (last ++ last) p3))

abbrev pub last_lanes : List ℕ → List ℕ → List ℕ → List ℕ
last_lanes p a k = zip2 bit_xor (pick_l 0 (a ++ a) p) k

start_cells : (b : List ℕ) (w : List ℕ) → AreBytes b → zip2 bit_xor (map nibbles_of (from_cells (cell b))) (map nibbles_of (round_key w 0)) ≡ map nibbles_of (rows_shifted 0 (add_round_key w 0 b))
unfolding rows_shifted add_round_key round_key
start_cells b w h = λ i.
    sym (nibbles_of-xor (get_or b 0 0) (get_or (round_key w 0) 0 0) (h.small 0) ((AreBytes-round_key w 0).small 0)) i ∷
    sym (nibbles_of-xor (get_or b 1 0) (get_or (round_key w 0) 1 0) (h.small 1) ((AreBytes-round_key w 0).small 1)) i ∷
    sym (nibbles_of-xor (get_or b 2 0) (get_or (round_key w 0) 2 0) (h.small 2) ((AreBytes-round_key w 0).small 2)) i ∷
    sym (nibbles_of-xor (get_or b 3 0) (get_or (round_key w 0) 3 0) (h.small 3) ((AreBytes-round_key w 0).small 3)) i ∷
    sym (nibbles_of-xor (get_or b 4 0) (get_or (round_key w 0) 4 0) (h.small 4) ((AreBytes-round_key w 0).small 4)) i ∷
    sym (nibbles_of-xor (get_or b 5 0) (get_or (round_key w 0) 5 0) (h.small 5) ((AreBytes-round_key w 0).small 5)) i ∷
    sym (nibbles_of-xor (get_or b 6 0) (get_or (round_key w 0) 6 0) (h.small 6) ((AreBytes-round_key w 0).small 6)) i ∷
    sym (nibbles_of-xor (get_or b 7 0) (get_or (round_key w 0) 7 0) (h.small 7) ((AreBytes-round_key w 0).small 7)) i ∷
    sym (nibbles_of-xor (get_or b 8 0) (get_or (round_key w 0) 8 0) (h.small 8) ((AreBytes-round_key w 0).small 8)) i ∷
    sym (nibbles_of-xor (get_or b 9 0) (get_or (round_key w 0) 9 0) (h.small 9) ((AreBytes-round_key w 0).small 9)) i ∷
    sym (nibbles_of-xor (get_or b 10 0) (get_or (round_key w 0) 10 0) (h.small 10) ((AreBytes-round_key w 0).small 10)) i ∷
    sym (nibbles_of-xor (get_or b 11 0) (get_or (round_key w 0) 11 0) (h.small 11) ((AreBytes-round_key w 0).small 11)) i ∷
    sym (nibbles_of-xor (get_or b 12 0) (get_or (round_key w 0) 12 0) (h.small 12) ((AreBytes-round_key w 0).small 12)) i ∷
    sym (nibbles_of-xor (get_or b 13 0) (get_or (round_key w 0) 13 0) (h.small 13) ((AreBytes-round_key w 0).small 13)) i ∷
    sym (nibbles_of-xor (get_or b 14 0) (get_or (round_key w 0) 14 0) (h.small 14) ((AreBytes-round_key w 0).small 14)) i ∷
    sym (nibbles_of-xor (get_or b 15 0) (get_or (round_key w 0) 15 0) (h.small 15) ((AreBytes-round_key w 0).small 15)) i ∷ []

pub started : (b k x : List ℕ) (w : List ℕ) → AreBytes b → length b ≡ 16 → x ≡ map nibbles_of b → k ≡ map nibbles_of (round_key w 0) → zip2 bit_xor x k ≡ map nibbles_of (rows_shifted 0 (add_round_key w 0 b))
started b k x w h e ex ek = (λ i. zip2 bit_xor ((ex ∙ ap (map nibbles_of) (sym (cells_16 b e))) i) (ek i)) ∙ start_cells b w h

pub xored : (a b : List ℕ) → length a ≡ 16 → length b ≡ 16 → zip2 bit_xor a b ≡ xor_block a b
unfolding xor_block
xored a b e f = λ i. zip2 bit_xor (sym (cells_16 a e) i) (sym (cells_16 b f) i)

-- the key of a round, at the place where its rows are turned so many times
pub mixing_key : (keys : List (List ℕ)) (turns : ℕ) (w : List ℕ) (n q : ℕ) (k : List ℕ) → AreRoundKeys keys turns w → 0 < n → n < 4 * turns + 2 → 3 * n % 4 ≡ q
    → k ≡ get_or keys n [] → k ≡ map bare_nibbles (rows_shifted q (columns_raised (round_key w n)))
mixing_key keys turns w n q k h lo hi e f = f ∙ h.mixing n lo hi ∙ ap (λ (x : ℕ). map bare_nibbles (rows_shifted x (columns_raised (round_key w n)))) e

pub after_next_state : (w b : List ℕ) (n k m : ℕ) → k ≡ n + 1 → m ≡ n + 1 → add_round_key w k (mix_columns (shift_rows (sub_bytes (after_rounds w n b)))) ≡ after_rounds w m b
after_next_state w b n k m e f = rw (e, f) (sym (after_more w b n))

pub cipher_state : (w b : List ℕ) (n k : ℕ) → n ≡ length w / 4 - 2 → k ≡ n + 1 → add_round_key w k (shift_rows (sub_bytes (after_rounds w n b))) ≡ cipher w b
unfolding cipher cipher_rounds
cipher_state w b n k e f = rw (f, ← e, add-one) refl

lane_small : (s : List ℕ) (i : ℕ) → Each1 (Fits w8) s → get_or s i 0 < 256
lane_small [] i h = omega arith
lane_small (x ∷ xs) zero h = h.0.fits
lane_small (x ∷ xs) (suc i) h = lane_small xs i h.1

pub lanes_bytes : (s : List ℕ) → Each1 (Fits w8) s → AreBytes s
lanes_bytes s h = record { small = λ i. lane_small s i h }

pub chained : (a b : List ℕ) → length a ≡ 16 → length b ≡ 16 → zip2 bit_xor (chunk 0 16 a) b ≡ xor_block a b
chained a b e f = ap (λ (x : List ℕ). zip2 bit_xor x b) (take_all 16 a (omega arith)) ∙ xored a b e f

pub AreBytes-four : (a b c d : ℕ) → a < 256 → b < 256 → c < 256 → d < 256 → AreBytes (a ∷ b ∷ c ∷ d ∷ replicate 12 0)
AreBytes-four a b c d ha hb hc hd =
    let z : 0 < 256 = omega arith in
    lanes_bytes (a ∷ b ∷ c ∷ d ∷ replicate 12 0)
    (record { fits = ha }, (record { fits = hb }, (record { fits = hc }, (record { fits = hd }, (record { fits = z }, (record { fits = z }, (record { fits = z }, (record { fits = z }, (record { fits = z }, (record { fits = z }, (record { fits = z }, (record { fits = z }, (record { fits = z }, (record { fits = z }, (record { fits = z }, (record { fits = z }, tt))))))))))))))))
