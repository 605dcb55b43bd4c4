use Rattle.std.proofs.Common.{arith}
use Rattle.krb_bulk.proofs.BulkLemmas.{long_from}
use Rattle.krb_bulk.proofs.bulk.Bulk.eight_private.Goals as goal

pub eight_tags-requires-clause-first : goal.eight_tags-requires-clause-first
eight_tags-requires-clause-first c = long_from c.args.self.now c.args.from c.in_ok-first.first (omega (arith, c.requires.from)) c.in_ok-first.ensures

pub eight_tags-requires-clause-second : goal.eight_tags-requires-clause-second
eight_tags-requires-clause-second c = long_from c.args.self.now _ c.in_ok-second.second (omega (arith, c.requires.from)) c.in_ok-second.ensures
