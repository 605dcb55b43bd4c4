-- Two blocks of two chains, in one vector.
use Rattle.std.proofs.Common.{◌≡◌, ℕ, ◌+◌, ◌-◌, ◌<◌, ◌≤◌, bit_xor, List, [], ◌++◌, take, drop, length, replicate, sym, ap, ap₂, ◌∙◌, arith, length-drop}
use Rattle.std.proofs.lemmas.List.{append-nil, drop_all, take_all, take_at, drop_at, take-append-drop, take-append-le, drop-append-le, length-take-le, length-append}
use Rattle.std.proofs.lemmas.Simd.{pick_l_whole, pick_l-range_with_len}
use Rattle.std.specs.List.{range_with_len}
use borrow.Rule.Slice.PartMut.{put_mid}
use lib.Lanes.{zip2, pick_l}
use Rattle.krb_base.specs.Bytes.{AreBytes}
use Rattle.krb_aes.specs.Cipher.{cipher}
use Rattle.krb_aes.specs.Pairs.{pair}
use Rattle.krb_aes.specs.Chain.{IsChained}
use Rattle.krb_aes.specs.Stealing.{xor_block, cts, cts_from}
use Rattle.krb_aes.specs.Words.{IsBlock}
use Rattle.krb_aes.proofs.StealingLemmas.{cts_is, length-cipher}
use Rattle.krb_aes.proofs.UniqueLemmas.{AreBytes-drop, AreBytes-take, xor_is_block}
use Rattle.krb_aes.proofs.Rounds.{xored}
use Rattle.krb_aes.proofs.PairLanes.{zip2-append}

-- two blocks put into one vector
pub joined_picked : (a b : List ℕ) → length a ≡ 16 → length b ≡ 16 → pick_l 0 (take 16 a ++ take 16 b) (range_with_len 0 32) ≡ pair a b
joined_picked a b la lb =
    rw (take_all 16 a (omega arith), take_all 16 b (omega arith)) (pick_l_whole 0 (a ++ b) 32 (omega (arith, length-append a b)))

-- and taken from it
pub first_picked : (x : List ℕ) → length x ≡ 32 → pick_l 0 (x ++ x) (range_with_len 0 16) ≡ take 16 x
first_picked x lx = pick_l-range_with_len 0 (x ++ x) 0 16 (omega (arith, length-append x x)) ∙ take-append-le 16 x x (omega arith)

pub second_picked : (x : List ℕ) → length x ≡ 32 → pick_l 0 (x ++ x) (range_with_len 16 16) ≡ drop 16 x
second_picked x lx =
    pick_l-range_with_len 0 (x ++ x) 16 16 (omega (arith, length-append x x))
    ∙ rw (drop-append-le 16 x x (omega arith)) (take_at (drop 16 x) x 16 (omega (arith, length-drop 16 x)))

-- the cipher of both sums
pub pair_ciphered : (w a b s x r : List ℕ) → length a ≡ 16 → length b ≡ 16 → AreBytes a → AreBytes b → length s ≡ 32 → AreBytes s → x ≡ pair a b
    → ((p q : List ℕ) → IsBlock p → IsBlock q → zip2 bit_xor x s ≡ pair p q → r ≡ pair (cipher w p) (cipher w q))
    → (take 16 r ≡ cipher w (xor_block a (take 16 s))) × (drop 16 r ≡ cipher w (xor_block b (drop 16 s)))
pair_ciphered w a b s x r la lb ha hb ls hs ex enciphered =
    let t = take 16 s in
    let u = drop 16 s in
    let p = xor_block a t in
    let q = xor_block b u in
    let lt : length t ≡ 16 = length-take-le 16 s (omega arith) in
    let lu : length u ≡ 16 = omega (arith, length-drop 16 s) in
    let sums : zip2 bit_xor x s ≡ pair p q =
    ap₂ (λ (y z : List ℕ). zip2 bit_xor y z) ex (sym (take-append-drop 16 s)) ∙ zip2-append bit_xor a b t u (la ∙ sym lt)
    ∙ ap₂ (λ (y z : List ℕ). y ++ z) (xored a t la lt) (xored b u lb lu) in
    let both = enciphered p q (xor_is_block a t ha (AreBytes-take 16 s hs)) (xor_is_block b u hb (AreBytes-drop 16 s hs)) sums in (
      rw both (take_at (cipher w p) (cipher w q) 16 (length-cipher w p)),
      rw both (drop_at (cipher w p) (cipher w q) 16 (length-cipher w p)),
    )

-- a text of which the first blocks are a chain, and the rest goes on from the last of them
pub goes_on_from : (w old front tail last : List ℕ) (n : ℕ) → n + 16 < length old
    → IsChained w (replicate 16 0) (take n old) front last → tail ≡ cts_from w last (drop n old) → front ++ tail ≡ cts w old
goes_on_from w old front tail last n more chain et =
    ap (λ (x : List ℕ). front ++ x) et ∙ sym (chain.goes_on (drop n old) (omega (arith, length-drop n old)))
    ∙ ap (cts_from w (replicate 16 0)) (take-append-drop n old) ∙ sym (cts_is w old)

-- and both are written
pub rest_written : (w old front tail last picked : List ℕ) (n : ℕ) → n + 16 < length old → length front ≡ n
    → IsChained w (replicate 16 0) (take n old) front last → picked ≡ last
    → tail ≡ cts_from w picked (take (length (front ++ drop n old) - n) (drop n (front ++ drop n old)))
    → put_mid n (length (front ++ drop n old) - n) (front ++ drop n old) tail ≡ cts w old
rest_written w old front tail last picked n more size chain ep et =
    let rest : List ℕ = drop n old in
    let k : ℕ = length (front ++ rest) - n in
    let fits : length rest ≤ k = omega (arith, length-append front rest) in
    let back : drop n (front ++ rest) ≡ rest = drop_at front rest n size in
    let part : take k (drop n (front ++ rest)) ≡ rest = ap (λ (x : List ℕ). take k x) back ∙ take_all k rest fits in
    let none : drop k (drop n (front ++ rest)) ≡ [] = ap (λ (x : List ℕ). drop k x) back ∙ drop_all k rest fits in
    ap₂ (λ (x y : List ℕ). x ++ (tail ++ y)) (take_at front rest n size) none
    ∙ ap (λ (x : List ℕ). front ++ x) (append-nil tail)
    ∙ goes_on_from w old front tail last n more chain (et ∙ ap₂ (λ (x y : List ℕ). cts_from w x y) ep part)
