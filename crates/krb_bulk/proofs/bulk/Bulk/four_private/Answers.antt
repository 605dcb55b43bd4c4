use Rattle.krb_bulk.proofs.BulkLemmas.{long_from}
use Rattle.krb_bulk.proofs.bulk.Bulk.four_private.Goals as goal

pub tags-tags-requires-clause-long : goal.tags-tags-requires-clause-long
tags-tags-requires-clause-long c = long_from c.args.self.now c.args.from c.in_ok-plain.plain c.requires.from c.in_ok-plain.ensures
