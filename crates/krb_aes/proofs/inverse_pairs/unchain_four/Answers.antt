use Rattle.std.proofs.Common.{◌≡◌, List, ℕ, ◌++◌, append_assoc, bit_xor, take, drop, take-add, length, sym, ap, ◌∙◌, arith}
use Rattle.std.proofs.lemmas.List.{take_all, length-drop, take-append-drop, drop-drop}
use Rattle.std.proofs.lemmas.Simd.{length-put_chunk, take_more_put_chunk}
use lib.Lanes.{zip2, chunk, put_chunk}
use Rattle.krb_base.specs.Bytes.{AreBytes}
use Rattle.krb_aes.specs.InverseCipher.{inv_cipher}
use Rattle.krb_aes.specs.Stealing.{xor_block}
use Rattle.krb_aes.specs.Chain.{unchained_four}
use Rattle.krb_aes.specs.Words.{IsBlock}
use Rattle.krb_aes.specs.Pairs.{pair}
use Rattle.krb_aes.proofs.Inverse.{length-inv_cipher}
use Rattle.krb_aes.proofs.Rounds.{xored}
use Rattle.krb_aes.proofs.Opening.{AreBytes-append}
use Rattle.krb_aes.proofs.UnstealingLemmas.{IsBlock-middle}
use Rattle.krb_aes.proofs.PairLanes.{zip2-append}
use Rattle.krb_aes.proofs.inverse_pairs.unchain_four.Goals as goal

two_written : (t x y : List ℕ) → length t ≡ 64 → length x ≡ 32 → length y ≡ 32 → put_chunk 32 (put_chunk 0 t x) y ≡ x ++ y
two_written t x y ht hx hy =
    let p : List ℕ = put_chunk 0 t x in
    let lp : length p ≡ 64 = length-put_chunk 0 t x ∙ ht in
    let lq : length (put_chunk 32 p y) ≡ 64 = length-put_chunk 32 p y ∙ lp in
    let e : take 32 p ≡ x = take_more_put_chunk 0 t x 32 (omega arith) (omega arith) in
    sym (take_all 64 (put_chunk 32 p y) (omega arith)) ∙ take_more_put_chunk 32 p y 64 (omega arith) (omega arith) ∙ ap (λ (k : List ℕ). k ++ y) e

pub returns-clause-last : goal.returns-clause-last
returns-clause-last c = take_all 16 (drop 48 c.args.part.now) (omega (arith, length-drop 48 c.args.part.now))

pub returns-clause-written : goal.returns-clause-written
unfolding unchained_four xor_block
returns-clause-written c = λ w k.
    let t : List ℕ = c.args.part.now in
    let s : List ℕ = c.args.state in
    let a : List ℕ = take 16 t in
    let b : List ℕ = take 16 (drop 16 t) in
    let d : List ℕ = take 16 (drop 32 t) in
    let f : List ℕ = take 16 (drop 48 t) in
    let g = c.decrypt_pairs.ensures in
    let size : length t ≡ 64 = c.requires.whole in
    let rest : chunk 32 32 t ≡ drop 32 t = take_all 32 (drop 32 t) (omega (arith, length-drop 32 t)) in
    let both : chunk 0 32 t ++ chunk 32 32 t ≡ t = ap (λ (x : List ℕ). take 32 t ++ x) rest ∙ take-append-drop 32 t in
    let h : AreBytes t = rw both at (AreBytes-append (chunk 0 32 t) (chunk 32 32 t) g.one_bytes g.other_bytes) in
    let one : chunk 0 32 t ≡ pair a b = take-add 16 16 t in
    let other : chunk 32 32 t ≡ pair d f = take-add 16 16 (drop 32 t) ∙ ap (λ (x : List ℕ). d ++ take 16 x) (drop-drop 16 32 t) in
    let ha = IsBlock-middle 0 t h (omega arith) in
    let hb = IsBlock-middle 16 t h (omega arith) in
    let hd = IsBlock-middle 32 t h (omega arith) in
    let hf = IsBlock-middle 48 t h (omega arith) in
    let m : (x : List ℕ) → IsBlock x → length (inv_cipher w x) ≡ 16 = λ x i. length-inv_cipher w x i.bytes in
    let p = g.first w a b k ha hb one in
    let q = g.second w d f k hd hf other in
    let before_p = c.preceding.ensures a b ha hb one in
    let before_q = c.between.ensures a b d f ha hb hd hf one other in
    let x : zip2 bit_xor c.decrypt_pairs.result.0 c.preceding.result ≡ pair (xor_block (inv_cipher w a) s) (xor_block (inv_cipher w b) a) =
    (λ i. zip2 bit_xor (p i) (before_p i)) ∙ zip2-append bit_xor (inv_cipher w a) (inv_cipher w b) s a (m a ha ∙ sym c.fits-state.0)
    ∙ (λ i. pair (xored (inv_cipher w a) s (m a ha) c.fits-state.0 i) (xored (inv_cipher w b) a (m b hb) ha.size i)) in
    let y : zip2 bit_xor c.decrypt_pairs.result.1 c.between.result ≡ pair (xor_block (inv_cipher w d) b) (xor_block (inv_cipher w f) d) =
    (λ i. zip2 bit_xor (q i) (before_q i)) ∙ zip2-append bit_xor (inv_cipher w d) (inv_cipher w f) b d (m d hd ∙ sym hb.size)
    ∙ (λ i. pair (xored (inv_cipher w d) b (m d hd) hb.size i) (xored (inv_cipher w f) d (m f hf) hd.size i)) in
    two_written t (zip2 bit_xor c.decrypt_pairs.result.0 c.preceding.result) (zip2 bit_xor c.decrypt_pairs.result.1 c.between.result) size (ap length x) (ap length y)
    ∙ (λ i. x i ++ y i) ∙ append_assoc (xor_block (inv_cipher w a) s) (xor_block (inv_cipher w b) a) (pair (xor_block (inv_cipher w d) b) (xor_block (inv_cipher w f) d))
