-- Rounds of the inverse cipher on pairs of blocks, one after the other.
use Rattle.std.proofs.Common.{◌≡◌, ℕ, suc, ◌-◌, ◌/◌, List, map, length, refl, sym, ap, ◌∙◌}
use Rattle.krb_base.specs.Bytes.{AreBytes}
use Rattle.krb_aes.specs.Words.{IsBlock}
use Rattle.krb_aes.specs.Pairs.{pair}
use Rattle.krb_aes.specs.Cipher.{add_round_key}
use Rattle.krb_aes.specs.InverseCipher.{inv_sub_bytes, inv_shift_rows, inv_mix_columns, inv_round, inv_rounds, inv_cipher_rounds, inv_cipher}
use Rattle.krb_aes.specs.Nibbles.{inv_affine_nibbles}
use Rattle.krb_aes.specs.Rounds.{rows_shifted}
use Rattle.krb_aes.proofs.StateLemmas.{AreBytes-add_round_key}
use Rattle.krb_aes.proofs.Inverse.{IsState-inv_mix, IsState-inv_sub, IsState-inv_shift}

-- a state from which the inverse cipher's rounds from n down give what the inverse cipher gives of a block
pub record Opens (w : List ℕ) (n : ℕ) (block : List ℕ) : Type 0 where
  pub state : List ℕ
  pub bytes : AreBytes state
  pub same : inv_rounds w n (inv_sub_bytes (inv_shift_rows state)) ≡ inv_cipher w block

abbrev pub after : List ℕ → ℕ → List ℕ → List ℕ
after w n s = inv_mix_columns (add_round_key w n (inv_sub_bytes (inv_shift_rows s)))

pub opens_start : (w b : List ℕ) (n m : ℕ) → AreBytes b → length w / 4 - 2 ≡ m → n ≡ suc m → Opens w m b
unfolding inv_cipher inv_cipher_rounds
opens_start w b n m h e f = record { state = add_round_key w n b; bytes = AreBytes-add_round_key w n b h; same = rw (e, f) refl }

pub opens_step : (w b : List ℕ) (n m : ℕ) → n ≡ suc m → Opens w n b → Opens w m b
unfolding inv_rounds inv_round
opens_step w b n m e o =
    let t : List ℕ = inv_sub_bytes (inv_shift_rows o.state) in
    record {
      state = inv_mix_columns (add_round_key w n t);
      bytes = (IsState-inv_mix _ (AreBytes-add_round_key w n t (IsState-inv_sub _ (IsState-inv_shift o.state o.bytes).bytes).bytes)).bytes;
      same = ap (λ (k : ℕ). inv_rounds w m (inv_sub_bytes (inv_shift_rows (inv_mix_columns (add_round_key w k t))))) e ∙ ap (λ (k : ℕ). inv_rounds w k t) (sym e) ∙ o.same;
    }

-- a vector x that holds two such states, each with ShiftRows done q times
pub record AreOpening (w : List ℕ) (n q : ℕ) (a b x : List ℕ) : Type 0 where
  pub first : Opens w n a
  pub second : Opens w n b
  pub lanes : x ≡ map inv_affine_nibbles (pair (rows_shifted q first.state) (rows_shifted q second.state))

pub opening_start : (w a b x : List ℕ) (n m : ℕ) → IsBlock a → IsBlock b → length w / 4 - 2 ≡ m → n ≡ suc m
    → x ≡ map inv_affine_nibbles (pair (rows_shifted 0 (add_round_key w n a)) (rows_shifted 0 (add_round_key w n b)))
    → AreOpening w m 0 a b x
unfolding opens_start add_round_key
opening_start w a b x n m ha hb e f g = record { first = opens_start w a n m ha.bytes e f; second = opens_start w b n m hb.bytes e f; lanes = g }

pub opening_step : (w a b x y : List ℕ) (n m p q : ℕ) → n ≡ suc m → AreOpening w n p a b x
    → ((s t : List ℕ) → AreBytes s → AreBytes t → x ≡ map inv_affine_nibbles (pair (rows_shifted p s) (rows_shifted p t))
    → y ≡ map inv_affine_nibbles (pair (rows_shifted q (after w n s)) (rows_shifted q (after w n t))))
    → AreOpening w m q a b y
unfolding opens_step inv_mix_columns
opening_step w a b x y n m p q e o step = record {
  first = opens_step w a n m e o.first;
  second = opens_step w b n m e o.second;
  lanes = step o.first.state o.second.state o.first.bytes o.second.bytes o.lanes;
}

pub opening_end : (w a b x r : List ℕ) → AreOpening w 0 1 a b x
    → ((s t : List ℕ) → AreBytes s → AreBytes t → x ≡ map inv_affine_nibbles (pair (rows_shifted 1 s) (rows_shifted 1 t))
    → r ≡ pair (add_round_key w 0 (inv_sub_bytes (inv_shift_rows s))) (add_round_key w 0 (inv_sub_bytes (inv_shift_rows t))))
    → r ≡ pair (inv_cipher w a) (inv_cipher w b)
unfolding inv_rounds
opening_end w a b x r o end = end o.first.state o.second.state o.first.bytes o.second.bytes o.lanes ∙ (λ i. pair (o.first.same i) (o.second.same i))
