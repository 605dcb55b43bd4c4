use Rattle.std.proofs.Common.{◌+◌, arith}
use Rattle.krb_bulk.proofs.SafeLemmas.{four_put}
use Rattle.krb_bulk.proofs.safe.FourUnsummed.new.Goals as goal

pub returns : goal.returns
returns c =
    λ b from le h.
    four_put b from _ _ _ _ _ (c.in_ok-new.ensures b from (omega (arith, le)) h.a) (c.in_ok-new-2.ensures b (from + 1) (omega (arith, le)) h.b)
    (c.in_ok-new-3.ensures b (from + 2) (omega (arith, le)) h.c) (c.in_ok-new-4.ensures b (from + 3) (omega (arith, le)) h.d)
