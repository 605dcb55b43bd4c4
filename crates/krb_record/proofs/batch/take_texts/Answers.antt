use Rattle.std.proofs.Common.{sym}
use Rattle.krb_record.proofs.BatchLemmas.{no_more}
use Rattle.krb_record.proofs.batch.take_texts.Goals as goal

pub returns : goal.returns
returns c texts e = sym (no_more c.args.bytes.now c.loop-text.rest.now c.loop-text.texts.items texts c.requires c.loop-text.invariant c.in_default.ensures.none e).0
