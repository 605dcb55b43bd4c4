use Rattle.std.proofs.Common.{List, ℕ, [], ◌∷◌, get_or, map, bit_xor, replicate, ◌∙◌, ap}
use lib.Lanes.{zip2}
use Rattle.krb_aes.specs.Field.{sbox}
use Rattle.krb_aes.specs.Cipher.{sub_bytes}
use Rattle.krb_aes.specs.Nibbles.{nibbles_of}
use Rattle.krb_aes.specs.Rounds.{round_key}
use Rattle.krb_aes.proofs.Xor.{xor_cancel}
use Rattle.krb_aes.proofs.Rounds.{AreBytes-round_key}
use Rattle.krb_aes.proofs.round_keys.substituted_key.Goals as goal

pub returns : goal.returns
unfolding sub_bytes round_key
returns c =
    let k : List ℕ = round_key c.args.w.now c.args.n in
    let e = c.bare_sub_bytes.ensures k (AreBytes-round_key c.args.w.now c.args.n) (c.to_nibbles.ensures ∙ ap (map nibbles_of) c.key_bytes_at.ensures) in
    ap (λ (x : List ℕ). zip2 bit_xor x (replicate 16 0x63)) e ∙ (λ i.
    xor_cancel (sbox (get_or (round_key c.args.w.now c.args.n) 0 0)) 0x63 i ∷
    xor_cancel (sbox (get_or (round_key c.args.w.now c.args.n) 1 0)) 0x63 i ∷
    xor_cancel (sbox (get_or (round_key c.args.w.now c.args.n) 2 0)) 0x63 i ∷
    xor_cancel (sbox (get_or (round_key c.args.w.now c.args.n) 3 0)) 0x63 i ∷
    xor_cancel (sbox (get_or (round_key c.args.w.now c.args.n) 4 0)) 0x63 i ∷
    xor_cancel (sbox (get_or (round_key c.args.w.now c.args.n) 5 0)) 0x63 i ∷
    xor_cancel (sbox (get_or (round_key c.args.w.now c.args.n) 6 0)) 0x63 i ∷
    xor_cancel (sbox (get_or (round_key c.args.w.now c.args.n) 7 0)) 0x63 i ∷
    xor_cancel (sbox (get_or (round_key c.args.w.now c.args.n) 8 0)) 0x63 i ∷
    xor_cancel (sbox (get_or (round_key c.args.w.now c.args.n) 9 0)) 0x63 i ∷
    xor_cancel (sbox (get_or (round_key c.args.w.now c.args.n) 10 0)) 0x63 i ∷
    xor_cancel (sbox (get_or (round_key c.args.w.now c.args.n) 11 0)) 0x63 i ∷
    xor_cancel (sbox (get_or (round_key c.args.w.now c.args.n) 12 0)) 0x63 i ∷
    xor_cancel (sbox (get_or (round_key c.args.w.now c.args.n) 13 0)) 0x63 i ∷
    xor_cancel (sbox (get_or (round_key c.args.w.now c.args.n) 14 0)) 0x63 i ∷
    xor_cancel (sbox (get_or (round_key c.args.w.now c.args.n) 15 0)) 0x63 i ∷ [])
