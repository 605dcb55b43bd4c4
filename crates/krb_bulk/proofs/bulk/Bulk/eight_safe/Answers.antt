use Rattle.std.proofs.Common.{◌+◌, arith}
use Rattle.krb_bulk.proofs.SafeLemmas.{lie_in, sums_in}
use Rattle.krb_bulk.proofs.bulk.Bulk.eight_safe.Goals as goal

pub eight_sums-requires-clause-first : goal.eight_sums-requires-clause-first
eight_sums-requires-clause-first c = lie_in c.args.self.now c.args.from c.in_ok-first.first (omega (arith, c.requires.from)) c.in_ok-first.ensures

pub eight_sums-requires-clause-second : goal.eight_sums-requires-clause-second
eight_sums-requires-clause-second c = lie_in c.args.self.now (c.args.from + 4) c.in_ok-second.second (omega (arith, c.requires.from)) c.in_ok-second.ensures

pub four_summed-requires-clause-sums : goal.four_summed-requires-clause-sums
four_summed-requires-clause-sums c =
    sums_in c.args.self.now c.args.from c.in_ok-first.first _ c.in_ok-first.ensures (c.eight_sums.ensures.first _ c.requires.mac)

pub four_summed-requires-2-clause-sums : goal.four_summed-requires-2-clause-sums
four_summed-requires-2-clause-sums c =
    sums_in c.args.self.now (c.args.from + 4) c.in_ok-second.second _ c.in_ok-second.ensures (c.eight_sums.ensures.second _ c.requires.mac)
