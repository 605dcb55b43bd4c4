use Rattle.std.proofs.Common.{◌≡◌, ℕ, ◌*◌, ◌+◌, ◌-◌, ◌<◌, ◌^◌, List, length, drop, refl, arith}
use Rattle.std.proofs.Math.Nat.{sub-zero}
use Rattle.krb_keys.specs.Nfold.{number}
use Rattle.krb_keys.proofs.NumberLemmas.{add_step, start_sum, left_small, set_bytes, number-lt}
use Rattle.krb_keys.proofs.fold.add_with_carry.Goals as goal

pub loop-i-init : goal.loop-i-init
loop-i-init c = record {
  sum = start_sum c.args.out.now c.args.piece.now c.args.carry c.requires.same;
  before = refl;
  small = c.requires.one;
  fitted = number-lt c.args.out.now (λ j. (c.type_inv.out j).fits);
  bytes = λ j. (c.type_inv.out j).fits;
}

pub loop-i-preserved : goal.loop-i-preserved
loop-i-preserved c =
    let both = add_step c.loop-i.out c.args.out.now c.args.piece.now c.loop-i.i c.loop-i.left c.args.carry
    (omega arith) c.loop-i.auto.i c.loop-i.auto.out c.requires.same
    c.loop-i.invariant.before c.loop-i.invariant.sum in
    record {
      sum = both.0;
      before = both.1;
      small = left_small _ _ _ (c.loop-i.invariant.bytes _) (c.type_inv.piece _).fits c.loop-i.invariant.small;
      fitted = c.loop-i.invariant.fitted;
      bytes = set_bytes _ _ _ c.loop-i.invariant.bytes;
    }

at_zero : (out old piece : List ℕ) (head left carry : ℕ) → head ≡ 0
    → number (drop head out) + left * 256 ^ (length old - head)
    ≡ number (drop head old) + number (drop head piece) + carry
    → number out + left * 256 ^ length old ≡ number old + number piece + carry
at_zero out old piece head left carry e h = rw (e, sub-zero) at h

pub returns-clause-sum : goal.returns-clause-sum
returns-clause-sum c =
    at_zero c.loop-i.out c.args.out.now c.args.piece.now c.loop-i.i c.loop-i.left c.args.carry (omega arith)
    c.loop-i.invariant.sum

fits_at : (xs : List ℕ) (n : ℕ) → length xs ≡ n → number xs < 256 ^ length xs → number xs < 256 ^ n
fits_at xs n e h = rw e at h

pub returns-clause-fits : goal.returns-clause-fits
returns-clause-fits c =
    fits_at c.loop-i.out (length c.args.out.now) c.loop-i.auto.out (number-lt c.loop-i.out c.loop-i.invariant.bytes)
