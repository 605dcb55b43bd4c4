use Rattle.std.proofs.Common.{◌≡◌, ℕ, [], get_or, ap, ◌+◌, ◌-◌, ◌*◌, ◌/◌, length, ◌∙◌, arith}
use Rattle.krb_aes.proofs.InverseRounds.{inverse_key_at}
use Rattle.krb_aes.proofs.Rounds.{lanes_bytes}
use Rattle.krb_aes.proofs.PairRounds.{AreOpening, opening_start, opening_step, opening_end}
use Rattle.krb_aes.proofs.inverse_pairs.decrypt_pairs.Goals as goal

pub loop-i-init : goal.loop-i-init
loop-i-init c = (
  λ w a b k ha hb eb.
      let turns : ℕ = c.args.turns in
      let size : length w / 4 ≡ 4 * turns + 3 = k.size in
      opening_step w a b c.inv_start.result c.inv_round_1-first.result (4 * turns + 1) (4 * (turns - 0)) 0 1 (omega arith)
      (opening_start w a b c.inv_start.result (4 * turns + 2) (4 * turns + 1) ha hb (omega arith) (omega arith) (c.inv_start.ensures a b w (4 * turns + 2) ha hb eb (c.key_at-start.ensures ∙ k.first)))
      (λ s t hs ht e. c.inv_round_1-first.ensures s t w (4 * turns + 1) hs ht e (inverse_key_at c.args.keys.now turns w (4 * turns + 1) 1 _ k (omega arith) (omega arith) (omega arith) (c.key_at-key.ensures ∙ ap (λ (i : ℕ). get_or c.args.keys.now i []) {x = 4 * turns + 2 - 1} {y = 4 * turns + 1} (omega arith)))),
  λ w a b k ha hb eb.
      let turns : ℕ = c.args.turns in
      let size : length w / 4 ≡ 4 * turns + 3 = k.size in
      opening_step w a b c.inv_start-2.result c.inv_round_1-second.result (4 * turns + 1) (4 * (turns - 0)) 0 1 (omega arith)
      (opening_start w a b c.inv_start-2.result (4 * turns + 2) (4 * turns + 1) ha hb (omega arith) (omega arith) (c.inv_start-2.ensures a b w (4 * turns + 2) ha hb eb (c.key_at-start.ensures ∙ k.first)))
      (λ s t hs ht e. c.inv_round_1-second.ensures s t w (4 * turns + 1) hs ht e (inverse_key_at c.args.keys.now turns w (4 * turns + 1) 1 _ k (omega arith) (omega arith) (omega arith) (c.key_at-key.ensures ∙ ap (λ (i : ℕ). get_or c.args.keys.now i []) {x = 4 * turns + 2 - 1} {y = 4 * turns + 1} (omega arith)))),
)

pub loop-i-preserved : goal.loop-i-preserved
loop-i-preserved c = (
  λ w a b k ha hb eb.
      let turns : ℕ = c.args.turns in
      let n : ℕ = 4 * (turns - c.loop-i.i) in
      let o_2 : AreOpening w (n - 1) 2 a b c.inv_round_2-first_2.result =
      opening_step w a b c.loop-i.first c.inv_round_2-first_2.result n (n - 1) 1 2 (omega arith) (c.loop-i.invariant.0 w a b k ha hb eb)
      (λ s t hs ht e. c.inv_round_2-first_2.ensures s t w n hs ht e (inverse_key_at c.args.keys.now turns w n 2 _ k (omega arith) (omega arith) (omega arith) c.key_at-key_2.ensures)) in
      let o_3 : AreOpening w (n - 2) 3 a b c.inv_round_3-first_3.result =
      opening_step w a b c.inv_round_2-first_2.result c.inv_round_3-first_3.result (n - 1) (n - 2) 2 3 (omega arith) o_2
      (λ s t hs ht e. c.inv_round_3-first_3.ensures s t w (n - 1) hs ht e (inverse_key_at c.args.keys.now turns w (n - 1) 3 _ k (omega arith) (omega arith) (omega arith) c.key_at-key_3.ensures)) in
      let o_0 : AreOpening w (n - 3) 0 a b c.inv_round_0-first_0.result =
      opening_step w a b c.inv_round_3-first_3.result c.inv_round_0-first_0.result (n - 2) (n - 3) 3 0 (omega arith) o_3
      (λ s t hs ht e. c.inv_round_0-first_0.ensures s t w (n - 2) hs ht e (inverse_key_at c.args.keys.now turns w (n - 2) 0 _ k (omega arith) (omega arith) (omega arith) c.key_at-key_0.ensures)) in
      let o_1 : AreOpening w (4 * (turns - (c.loop-i.i + 1))) 1 a b c.inv_round_1-first-in-loop-i.result =
      opening_step w a b c.inv_round_0-first_0.result c.inv_round_1-first-in-loop-i.result (n - 3) (4 * (turns - (c.loop-i.i + 1))) 0 1 (omega arith) o_0
      (λ s t hs ht e. c.inv_round_1-first-in-loop-i.ensures s t w (n - 3) hs ht e (inverse_key_at c.args.keys.now turns w (n - 3) 1 _ k (omega arith) (omega arith) (omega arith) c.key_at-key_1.ensures)) in
      o_1,
  λ w a b k ha hb eb.
      let turns : ℕ = c.args.turns in
      let n : ℕ = 4 * (turns - c.loop-i.i) in
      let o_2 : AreOpening w (n - 1) 2 a b c.inv_round_2-second_2.result =
      opening_step w a b c.loop-i.second c.inv_round_2-second_2.result n (n - 1) 1 2 (omega arith) (c.loop-i.invariant.1 w a b k ha hb eb)
      (λ s t hs ht e. c.inv_round_2-second_2.ensures s t w n hs ht e (inverse_key_at c.args.keys.now turns w n 2 _ k (omega arith) (omega arith) (omega arith) c.key_at-key_2.ensures)) in
      let o_3 : AreOpening w (n - 2) 3 a b c.inv_round_3-second_3.result =
      opening_step w a b c.inv_round_2-second_2.result c.inv_round_3-second_3.result (n - 1) (n - 2) 2 3 (omega arith) o_2
      (λ s t hs ht e. c.inv_round_3-second_3.ensures s t w (n - 1) hs ht e (inverse_key_at c.args.keys.now turns w (n - 1) 3 _ k (omega arith) (omega arith) (omega arith) c.key_at-key_3.ensures)) in
      let o_0 : AreOpening w (n - 3) 0 a b c.inv_round_0-second_0.result =
      opening_step w a b c.inv_round_3-second_3.result c.inv_round_0-second_0.result (n - 2) (n - 3) 3 0 (omega arith) o_3
      (λ s t hs ht e. c.inv_round_0-second_0.ensures s t w (n - 2) hs ht e (inverse_key_at c.args.keys.now turns w (n - 2) 0 _ k (omega arith) (omega arith) (omega arith) c.key_at-key_0.ensures)) in
      let o_1 : AreOpening w (4 * (turns - (c.loop-i.i + 1))) 1 a b c.inv_round_1-second-in-loop-i.result =
      opening_step w a b c.inv_round_0-second_0.result c.inv_round_1-second-in-loop-i.result (n - 3) (4 * (turns - (c.loop-i.i + 1))) 0 1 (omega arith) o_0
      (λ s t hs ht e. c.inv_round_1-second-in-loop-i.ensures s t w (n - 3) hs ht e (inverse_key_at c.args.keys.now turns w (n - 3) 1 _ k (omega arith) (omega arith) (omega arith) c.key_at-key_1.ensures)) in
      o_1,
)

pub returns-clause-one_bytes : goal.returns-clause-one_bytes
returns-clause-one_bytes c = lanes_bytes c.args.one c.fits-one.1

pub returns-clause-other_bytes : goal.returns-clause-other_bytes
returns-clause-other_bytes c = lanes_bytes c.args.other c.fits-other.1

pub returns-clause-first : goal.returns-clause-first
returns-clause-first c = λ w a b k ha hb eb.
    let done : 4 * (c.args.turns - c.loop-i.i) ≡ 0 = omega arith in
    opening_end w a b _ _ (rw done at (c.loop-i.invariant.0 w a b k ha hb eb))
    (λ s t hs ht e. c.inv_last_round.ensures s t w hs ht e (c.key_at-end.ensures ∙ k.last))

pub returns-clause-second : goal.returns-clause-second
returns-clause-second c = λ w a b k ha hb eb.
    let done : 4 * (c.args.turns - c.loop-i.i) ≡ 0 = omega arith in
    opening_end w a b _ _ (rw done at (c.loop-i.invariant.1 w a b k ha hb eb))
    (λ s t hs ht e. c.inv_last_round-2.ensures s t w hs ht e (c.key_at-end.ensures ∙ k.last))
