use Rattle.krb_digests.proofs.LaneLemmas.{parity_at}
use Rattle.krb_digests.proofs.compression.parity.Goals as goal

pub returns : goal.returns
returns c = parity_at c.args.x c.args.y c.args.z c.fits-x.0 c.fits-y.0 c.fits-z.0
