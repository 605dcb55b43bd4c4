use Rattle.std.proofs.Common.{◌≡◌, ℕ, ◌+◌, ◌≤◌, ◌<◌, ◌^◌, ap, sym, ◌∙◌, arith, add_comm}
use Rattle.std.proofs.lemmas.Nat.{shr-shr}
use Rattle.std.proofs.lemmas.Nat.Bits.{bit_at_above, bit_at-zero}
use Rattle.std.specs.Int.{bit_at}
use Rattle.std.proofs.Common.{◌%◌, ◌/◌}
use Rattle.krb_window.proofs.window.shifted.Goals as goal

moved : (bits by i : ℕ) → bit_at (bits / 2 ^ by) i ≡ bit_at bits (i + by)
moved bits by i = ap (λ (x : ℕ). x % 2) (shr-shr bits by i ∙ ap (λ (k : ℕ). bits / 2 ^ k) (add_comm by i))

pub returns-then-by-lt-WINDOW_SIZE-clause-kept : goal.returns-then-by-lt-WINDOW_SIZE-clause-kept
returns-then-by-lt-WINDOW_SIZE-clause-kept c = λ i. moved c.args.bits c.args.by i

pub returns-then-by-lt-WINDOW_SIZE-clause-none : goal.returns-then-by-lt-WINDOW_SIZE-clause-none
returns-then-by-lt-WINDOW_SIZE-clause-none c = λ i far.
    let small : c.args.bits < 2 ^ 64 = omega arith in
    moved c.args.bits c.args.by i ∙ bit_at_above c.args.bits 64 (i + c.args.by) small far

pub returns-else-by-lt-WINDOW_SIZE-clause-kept : goal.returns-else-by-lt-WINDOW_SIZE-clause-kept
returns-else-by-lt-WINDOW_SIZE-clause-kept c = λ i.
    let small : c.args.bits < 2 ^ 64 = omega arith in
    let far : 64 ≤ i + c.args.by = omega arith in
    bit_at-zero i ∙ sym (bit_at_above c.args.bits 64 (i + c.args.by) small far)
