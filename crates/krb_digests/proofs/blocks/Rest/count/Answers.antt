use Rattle.std.proofs.Common.{arith}
use Rattle.krb_digests.proofs.EndLemmas.{length-padded}
use Rattle.krb_digests.proofs.blocks.Rest.count.Goals as goal

pub returns : goal.returns
returns c = rw (← c.self.view_is) (omega (arith, length-padded c.self.inside.bytes.now))
