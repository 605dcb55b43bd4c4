-- Rounds of the inverse cipher on vectors, one after the other.
use Rattle.std.proofs.Common.{◌≡◌, ℕ, suc, ◌+◌, ◌-◌, ◌*◌, ◌/◌, ◌%◌, ◌<◌, List, [], get_or, map, length, refl, sym, ap, ◌∙◌}
use Rattle.krb_aes.specs.Cipher.{add_round_key}
use Rattle.krb_aes.specs.InverseCipher.{inv_sub_bytes, inv_shift_rows, inv_mix_columns, inv_round, inv_rounds, inv_cipher_rounds, inv_cipher}
use Rattle.krb_base.specs.Bytes.{AreBytes}
use Rattle.krb_aes.specs.Nibbles.{inv_affine_nibbles}
use Rattle.krb_aes.specs.Rounds.{rows_shifted, columns_raised, round_key, AreInverseRoundKeys}
use Rattle.krb_aes.proofs.StateLemmas.{AreBytes-add_round_key}
use Rattle.krb_aes.proofs.Inverse.{IsState-inv_mix, IsState-inv_sub, IsState-inv_shift}

-- a vector x that holds a state with ShiftRows done q times, from which the inverse cipher's
-- rounds from n down give what the inverse cipher gives of a block
pub record IsOpening (w : List ℕ) (n : ℕ) (q : ℕ) (block : List ℕ) (x : List ℕ) : Type 0 where
  pub state : List ℕ
  pub bytes : AreBytes state
  pub lanes : x ≡ map inv_affine_nibbles (rows_shifted q state)
  pub same : inv_rounds w n (inv_sub_bytes (inv_shift_rows state)) ≡ inv_cipher w block

pub opening_start : (w b x : List ℕ) (n m : ℕ) → AreBytes b → length w / 4 - 2 ≡ m → n ≡ suc m → x ≡ map inv_affine_nibbles (rows_shifted 0 (add_round_key w n b)) → IsOpening w m 0 b x
unfolding inv_cipher inv_cipher_rounds
opening_start w b x n m h e f g = record {
  state = add_round_key w n b;
  bytes = AreBytes-add_round_key w n b h;
  lanes = g;
  same = rw (e, f) refl;
}

pub opening_step : (w b x y : List ℕ) (n m p q : ℕ) → n ≡ suc m → IsOpening w n p b x
    → ((s : List ℕ) → AreBytes s → x ≡ map inv_affine_nibbles (rows_shifted p s) → y ≡ map inv_affine_nibbles (rows_shifted q (inv_mix_columns (add_round_key w n (inv_sub_bytes (inv_shift_rows s))))))
    → IsOpening w m q b y
unfolding inv_rounds inv_round
opening_step w b x y n m p q e o step =
    let t : List ℕ = inv_sub_bytes (inv_shift_rows o.state) in
    record {
      state = inv_mix_columns (add_round_key w n t);
      bytes = (IsState-inv_mix _ (AreBytes-add_round_key w n t (IsState-inv_sub _ (IsState-inv_shift o.state o.bytes).bytes).bytes)).bytes;
      lanes = step o.state o.bytes o.lanes;
      same = ap (λ (k : ℕ). inv_rounds w m (inv_sub_bytes (inv_shift_rows (inv_mix_columns (add_round_key w k t))))) e ∙ ap (λ (k : ℕ). inv_rounds w k t) (sym e) ∙ o.same;
    }

pub opening_end : (w b x r : List ℕ) → IsOpening w 0 1 b x
    → ((s : List ℕ) → AreBytes s → x ≡ map inv_affine_nibbles (rows_shifted 1 s) → r ≡ add_round_key w 0 (inv_sub_bytes (inv_shift_rows s))) → r ≡ inv_cipher w b
unfolding inv_rounds
opening_end w b x r o end = end o.state o.bytes o.lanes ∙ o.same

-- the key of a round, at the place where its rows are turned so many times
pub inverse_key_at : (keys : List (List ℕ)) (turns : ℕ) (w : List ℕ) (n q : ℕ) (k : List ℕ) → AreInverseRoundKeys keys turns w → 0 < n → n < 4 * turns + 2 → 3 * (n + 2) % 4 ≡ q
    → k ≡ get_or keys n [] → k ≡ map inv_affine_nibbles (rows_shifted q (columns_raised (inv_mix_columns (round_key w n))))
inverse_key_at keys turns w n q k h lo hi e f = f ∙ h.mixing n lo hi ∙ ap (λ (x : ℕ). map inv_affine_nibbles (rows_shifted x (columns_raised (inv_mix_columns (round_key w n))))) e
