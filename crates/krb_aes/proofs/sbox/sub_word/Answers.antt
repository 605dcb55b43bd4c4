use Rattle.std.proofs.Common.{◌≡◌, ℕ, ◌^◌, ◌<◌, List, [], ◌∷◌, get_or, bit_xor, map, replicate, sym, ap, ◌∙◌, arith}
use lib.Lanes.{zip2}
use Rattle.krb_aes.specs.Field.{sbox}
use Rattle.krb_aes.specs.Cipher.{word, word_byte}
use Rattle.krb_aes.specs.Keys.{sub_word}
use Rattle.krb_base.specs.Bytes.{AreBytes}
use Rattle.krb_aes.specs.Words.{columns}
use Rattle.krb_aes.specs.Nibbles.{nibbles_of}
use Rattle.krb_aes.proofs.Xor.{xor_cancel}
use Rattle.krb_aes.proofs.WordLemmas.{word_of_bytes}
use Rattle.krb_aes.proofs.StateLemmas.{word_byte-lt}
use Rattle.krb_aes.proofs.Rounds.{AreBytes-four}
use Rattle.krb_aes.proofs.sbox.sub_word.Goals as goal

pub returns : goal.returns
unfolding sub_word columns
returns c =
    let x : ℕ = c.args.x in
    let small : x < 2 ^ 32 = omega arith in
    let v : List ℕ = word_byte x 0 ∷ word_byte x 1 ∷ word_byte x 2 ∷ word_byte x 3 ∷ replicate 12 0 in
    let bytes : AreBytes v = AreBytes-four _ _ _ _ (word_byte-lt x 0) (word_byte-lt x 1) (word_byte-lt x 2) (word_byte-lt x 3) in
    let column : x ∷ 0 ∷ 0 ∷ 0 ∷ [] ≡ columns v = λ i. sym (word_of_bytes x small) i ∷ 0 ∷ 0 ∷ 0 ∷ [] in
    let lanes = c.bare_sub_bytes.ensures v bytes (c.to_nibbles-split.ensures ∙ ap (map nibbles_of) (c.store.ensures v bytes column)) in
    let o : List ℕ = zip2 bit_xor c.bare_sub_bytes.result (replicate 16 0x63) in
    let made : c.from_be_bytes.result ≡ word (get_or o 0 0) (get_or o 1 0) (get_or o 2 0) (get_or o 3 0) = omega arith in
    made
    ∙ ap (λ (r : List ℕ). let o : List ℕ = zip2 bit_xor r (replicate 16 0x63) in word (get_or o 0 0) (get_or o 1 0) (get_or o 2 0) (get_or o 3 0)) lanes
    ∙ (λ i. word (xor_cancel (sbox (word_byte x 0)) 0x63 i) (xor_cancel (sbox (word_byte x 1)) 0x63 i) (xor_cancel (sbox (word_byte x 2)) 0x63 i) (xor_cancel (sbox (word_byte x 3)) 0x63 i))
