use Rattle.krb_aes.proofs.PairLanes.{twice_picked}
use Rattle.krb_aes.proofs.pairs.twice.Goals as goal

pub returns-clause-value : goal.returns-clause-value
returns-clause-value c = twice_picked c.args.block c.fits-block.0

pub returns-clause-whole : goal.returns-clause-whole
returns-clause-whole c = c.fits-block.0
