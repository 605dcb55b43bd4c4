use Rattle.std.proofs.Common.{◌≡◌, ℕ, List, map, length, bit_xor, refl, sym, ap, ◌∙◌}
use Rattle.std.proofs.lemmas.List.{map-append, length-map}
use lib.Lanes.{zip2}
use Rattle.krb_aes.specs.Cipher.{add_round_key}
use Rattle.krb_aes.specs.Nibbles.{inv_affine_nibbles, inv_linear_nibbles}
use Rattle.krb_aes.specs.Rounds.{rows_shifted, round_key}
use Rattle.krb_aes.specs.Pairs.{pair, twice}
use Rattle.krb_aes.proofs.InverseNibbles.{begun}
use Rattle.krb_aes.proofs.PairLanes.{zip2-append}
use Rattle.krb_aes.proofs.inverse_pairs.inv_start.Goals as goal

key_size : (w : List ℕ) (n : ℕ) → length (map inv_linear_nibbles (round_key w n)) ≡ 16
unfolding round_key
key_size w n = refl

pub returns : goal.returns
returns e = λ a b w n ha hb ex ek.
    let f : ℕ → ℕ = inv_affine_nibbles in
    let k : List ℕ = map inv_linear_nibbles (round_key w n) in
    let x = e.undo_affine.ensures ∙ ap (map f) ex ∙ map-append f a b in
    let y = e.twice.ensures.value ∙ ap twice ek in
    (λ i. zip2 bit_xor (x i) (y i))
    ∙ zip2-append bit_xor (map f a) (map f b) k k (length-map a f ∙ ha.size ∙ sym (key_size w n))
    ∙ (λ i. pair (begun a k (map f a) w n ha.bytes ha.size refl refl i) (begun b k (map f b) w n hb.bytes hb.size refl refl i))
    ∙ sym (map-append f (rows_shifted 0 (add_round_key w n a)) (rows_shifted 0 (add_round_key w n b)))
