use Rattle.krb_digests.proofs.LaneLemmas.{majority_at}
use Rattle.krb_digests.proofs.compression.majority.Goals as goal

pub returns : goal.returns
returns c = majority_at c.args.x c.args.y c.args.z c.fits-x.0 c.fits-y.0 c.fits-z.0
