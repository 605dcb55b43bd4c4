use Rattle.krb_chains.proofs.ChainLemmas.{joined_picked}
use Rattle.krb_chains.proofs.chains.joined.Goals as goal

pub returns-clause-value : goal.returns-clause-value
returns-clause-value c = joined_picked c.args.a.now c.args.b.now c.requires.first c.requires.second
