use Rattle.std.proofs.Common.{◌≡◌, ℕ, List, map, length, bit_xor, refl, sym, ap, ◌∙◌}
use Rattle.std.proofs.lemmas.List.{map-append, length-map}
use lib.Lanes.{zip2}
use Rattle.krb_aes.specs.Cipher.{add_round_key}
use Rattle.krb_aes.specs.Nibbles.{nibbles_of}
use Rattle.krb_aes.specs.Rounds.{rows_shifted, round_key}
use Rattle.krb_aes.specs.Pairs.{pair, twice}
use Rattle.krb_aes.proofs.Rounds.{started}
use Rattle.krb_aes.proofs.PairLanes.{zip2-append}
use Rattle.krb_chains.proofs.pair_cipher.start.Goals as goal

key_size : (w : List ℕ) → length (map nibbles_of (round_key w 0)) ≡ 16
unfolding round_key
key_size w = refl

pub returns : goal.returns
returns e = λ a b w ha hb ex ek.
    let f : ℕ → ℕ = nibbles_of in
    let k : List ℕ = map nibbles_of (round_key w 0) in
    let x = e.to_nibbles.ensures ∙ ap (map f) ex ∙ map-append f a b in
    let y = e.twice.ensures.value ∙ ap twice ek in
    (λ i. zip2 bit_xor (x i) (y i))
    ∙ zip2-append bit_xor (map f a) (map f b) k k (length-map a f ∙ ha.size ∙ sym (key_size w))
    ∙ (λ i. pair (started a k (map f a) w ha.bytes ha.size refl refl i) (started b k (map f b) w hb.bytes hb.size refl refl i))
    ∙ sym (map-append f (rows_shifted 0 (add_round_key w 0 a)) (rows_shifted 0 (add_round_key w 0 b)))
