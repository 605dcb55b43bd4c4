use Rattle.std.proofs.Common.{◌≡◌, ℕ, List, ◌+◌, ◌*◌, ◌/◌, map, length, sym, ap, ◌∙◌, arith}
use Rattle.krb_aes.specs.Cipher.{add_round_key, after_rounds, sub_bytes, shift_rows, mix_columns}
use Rattle.krb_aes.specs.Nibbles.{nibbles_of}
use Rattle.krb_aes.specs.Rounds.{rows_shifted}
use Rattle.krb_aes.specs.Pairs.{pair}
use Rattle.krb_aes.proofs.StateLemmas.{after_start, AreBytes-add_round_key, AreBytes-after_rounds}
use Rattle.krb_aes.proofs.Rounds.{mixing_key, after_next_state, cipher_state}
use Rattle.krb_chains.proofs.pair_cipher.encrypt_pairs.Goals as goal

next : (w b : List ℕ) → add_round_key w 1 (mix_columns (shift_rows (sub_bytes (add_round_key w 0 b)))) ≡ after_rounds w 1 b
next w b =
    ap (λ (x : List ℕ). add_round_key w 1 (mix_columns (shift_rows (sub_bytes x)))) (sym (after_start w b))
    ∙ after_next_state w b 0 1 1 (omega arith) (omega arith)

pub loop-n-init : goal.loop-n-init
loop-n-init c = (
  λ w a b k ha hb eb.
      c.round_1-first.ensures (add_round_key w 0 a) (add_round_key w 0 b) w 1 (AreBytes-add_round_key w 0 a ha.bytes) (AreBytes-add_round_key w 0 b hb.bytes)
      (c.start.ensures a b w ha hb eb (c.key_at-begin.ensures ∙ k.first))
      (mixing_key c.args.keys.now c.args.turns w 1 3 _ k (omega arith) (omega arith) (omega arith) c.key_at-key.ensures)
      ∙ (λ i. map nibbles_of (pair (rows_shifted 3 (next w a i)) (rows_shifted 3 (next w b i)))),
  λ w a b k ha hb eb.
      c.round_1-second.ensures (add_round_key w 0 a) (add_round_key w 0 b) w 1 (AreBytes-add_round_key w 0 a ha.bytes) (AreBytes-add_round_key w 0 b hb.bytes)
      (c.start-2.ensures a b w ha hb eb (c.key_at-begin.ensures ∙ k.first))
      (mixing_key c.args.keys.now c.args.turns w 1 3 _ k (omega arith) (omega arith) (omega arith) c.key_at-key.ensures)
      ∙ (λ i. map nibbles_of (pair (rows_shifted 3 (next w a i)) (rows_shifted 3 (next w b i)))),
)

pub loop-n-preserved : goal.loop-n-preserved
loop-n-preserved c = (
  λ w a b k ha hb eb.
      let n : ℕ = c.loop-n.n in
      let second = c.round_2-first_2.ensures (after_rounds w (4 * n + 1) a) (after_rounds w (4 * n + 1) b) w (4 * n + 2) (AreBytes-after_rounds w (4 * n + 1) a ha.bytes) (AreBytes-after_rounds w (4 * n + 1) b hb.bytes) (c.loop-n.invariant.0 w a b k ha hb eb)
      (mixing_key c.args.keys.now c.args.turns w (4 * n + 2) 2 _ k (omega arith) (omega arith) (omega arith) c.key_at-key_2.ensures)
      ∙ (λ i. map nibbles_of (pair (rows_shifted 2 (after_next_state w a (4 * n + 1) (4 * n + 2) (4 * n + 2) (omega arith) (omega arith) i)) (rows_shifted 2 (after_next_state w b (4 * n + 1) (4 * n + 2) (4 * n + 2) (omega arith) (omega arith) i)))) in
      let third = c.round_3-first_3.ensures (after_rounds w (4 * n + 2) a) (after_rounds w (4 * n + 2) b) w (4 * n + 3) (AreBytes-after_rounds w (4 * n + 2) a ha.bytes) (AreBytes-after_rounds w (4 * n + 2) b hb.bytes) second
      (mixing_key c.args.keys.now c.args.turns w (4 * n + 3) 1 _ k (omega arith) (omega arith) (omega arith) c.key_at-key_3.ensures)
      ∙ (λ i. map nibbles_of (pair (rows_shifted 1 (after_next_state w a (4 * n + 2) (4 * n + 3) (4 * n + 3) (omega arith) (omega arith) i)) (rows_shifted 1 (after_next_state w b (4 * n + 2) (4 * n + 3) (4 * n + 3) (omega arith) (omega arith) i)))) in
      let fourth = c.round_0-first_0.ensures (after_rounds w (4 * n + 3) a) (after_rounds w (4 * n + 3) b) w (4 * n + 4) (AreBytes-after_rounds w (4 * n + 3) a ha.bytes) (AreBytes-after_rounds w (4 * n + 3) b hb.bytes) third
      (mixing_key c.args.keys.now c.args.turns w (4 * n + 4) 0 _ k (omega arith) (omega arith) (omega arith) c.key_at-key_0.ensures)
      ∙ (λ i. map nibbles_of (pair (rows_shifted 0 (after_next_state w a (4 * n + 3) (4 * n + 4) (4 * n + 4) (omega arith) (omega arith) i)) (rows_shifted 0 (after_next_state w b (4 * n + 3) (4 * n + 4) (4 * n + 4) (omega arith) (omega arith) i)))) in
      c.round_1-first-in-loop-n.ensures (after_rounds w (4 * n + 4) a) (after_rounds w (4 * n + 4) b) w (4 * n + 5) (AreBytes-after_rounds w (4 * n + 4) a ha.bytes) (AreBytes-after_rounds w (4 * n + 4) b hb.bytes) fourth
      (mixing_key c.args.keys.now c.args.turns w (4 * n + 5) 3 _ k (omega arith) (omega arith) (omega arith) c.key_at-key_1.ensures)
      ∙ (λ i. map nibbles_of (pair (rows_shifted 3 (after_next_state w a (4 * n + 4) (4 * n + 5) (4 * (n + 1) + 1) (omega arith) (omega arith) i)) (rows_shifted 3 (after_next_state w b (4 * n + 4) (4 * n + 5) (4 * (n + 1) + 1) (omega arith) (omega arith) i)))),
  λ w a b k ha hb eb.
      let n : ℕ = c.loop-n.n in
      let second = c.round_2-second_2.ensures (after_rounds w (4 * n + 1) a) (after_rounds w (4 * n + 1) b) w (4 * n + 2) (AreBytes-after_rounds w (4 * n + 1) a ha.bytes) (AreBytes-after_rounds w (4 * n + 1) b hb.bytes) (c.loop-n.invariant.1 w a b k ha hb eb)
      (mixing_key c.args.keys.now c.args.turns w (4 * n + 2) 2 _ k (omega arith) (omega arith) (omega arith) c.key_at-key_2.ensures)
      ∙ (λ i. map nibbles_of (pair (rows_shifted 2 (after_next_state w a (4 * n + 1) (4 * n + 2) (4 * n + 2) (omega arith) (omega arith) i)) (rows_shifted 2 (after_next_state w b (4 * n + 1) (4 * n + 2) (4 * n + 2) (omega arith) (omega arith) i)))) in
      let third = c.round_3-second_3.ensures (after_rounds w (4 * n + 2) a) (after_rounds w (4 * n + 2) b) w (4 * n + 3) (AreBytes-after_rounds w (4 * n + 2) a ha.bytes) (AreBytes-after_rounds w (4 * n + 2) b hb.bytes) second
      (mixing_key c.args.keys.now c.args.turns w (4 * n + 3) 1 _ k (omega arith) (omega arith) (omega arith) c.key_at-key_3.ensures)
      ∙ (λ i. map nibbles_of (pair (rows_shifted 1 (after_next_state w a (4 * n + 2) (4 * n + 3) (4 * n + 3) (omega arith) (omega arith) i)) (rows_shifted 1 (after_next_state w b (4 * n + 2) (4 * n + 3) (4 * n + 3) (omega arith) (omega arith) i)))) in
      let fourth = c.round_0-second_0.ensures (after_rounds w (4 * n + 3) a) (after_rounds w (4 * n + 3) b) w (4 * n + 4) (AreBytes-after_rounds w (4 * n + 3) a ha.bytes) (AreBytes-after_rounds w (4 * n + 3) b hb.bytes) third
      (mixing_key c.args.keys.now c.args.turns w (4 * n + 4) 0 _ k (omega arith) (omega arith) (omega arith) c.key_at-key_0.ensures)
      ∙ (λ i. map nibbles_of (pair (rows_shifted 0 (after_next_state w a (4 * n + 3) (4 * n + 4) (4 * n + 4) (omega arith) (omega arith) i)) (rows_shifted 0 (after_next_state w b (4 * n + 3) (4 * n + 4) (4 * n + 4) (omega arith) (omega arith) i)))) in
      c.round_1-second-in-loop-n.ensures (after_rounds w (4 * n + 4) a) (after_rounds w (4 * n + 4) b) w (4 * n + 5) (AreBytes-after_rounds w (4 * n + 4) a ha.bytes) (AreBytes-after_rounds w (4 * n + 4) b hb.bytes) fourth
      (mixing_key c.args.keys.now c.args.turns w (4 * n + 5) 3 _ k (omega arith) (omega arith) (omega arith) c.key_at-key_1.ensures)
      ∙ (λ i. map nibbles_of (pair (rows_shifted 3 (after_next_state w a (4 * n + 4) (4 * n + 5) (4 * (n + 1) + 1) (omega arith) (omega arith) i)) (rows_shifted 3 (after_next_state w b (4 * n + 4) (4 * n + 5) (4 * (n + 1) + 1) (omega arith) (omega arith) i)))),
)

pub returns-clause-first : goal.returns-clause-first
returns-clause-first c = λ w a b k ha hb eb.
    let t : ℕ = c.args.turns in
    let n : ℕ = 4 * c.loop-n.n + 1 in
    let size : length w / 4 ≡ 4 * t + 3 = k.size in
    c.last_round.ensures (after_rounds w n a) (after_rounds w n b) w (4 * t + 2) (AreBytes-after_rounds w n a ha.bytes) (AreBytes-after_rounds w n b hb.bytes) (c.loop-n.invariant.0 w a b k ha hb eb) (c.key_at-end.ensures ∙ k.last)
    ∙ (λ i. pair (cipher_state w a n (4 * t + 2) (omega arith) (omega arith) i) (cipher_state w b n (4 * t + 2) (omega arith) (omega arith) i))

pub returns-clause-second : goal.returns-clause-second
returns-clause-second c = λ w a b k ha hb eb.
    let t : ℕ = c.args.turns in
    let n : ℕ = 4 * c.loop-n.n + 1 in
    let size : length w / 4 ≡ 4 * t + 3 = k.size in
    c.last_round-2.ensures (after_rounds w n a) (after_rounds w n b) w (4 * t + 2) (AreBytes-after_rounds w n a ha.bytes) (AreBytes-after_rounds w n b hb.bytes) (c.loop-n.invariant.1 w a b k ha hb eb) (c.key_at-end.ensures ∙ k.last)
    ∙ (λ i. pair (cipher_state w a n (4 * t + 2) (omega arith) (omega arith) i) (cipher_state w b n (4 * t + 2) (omega arith) (omega arith) i))
