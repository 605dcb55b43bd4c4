use Rattle.krb_digests.proofs.LaneLemmas.{choose_at}
use Rattle.krb_digests.proofs.compression.choose.Goals as goal

pub returns : goal.returns
returns c = choose_at c.args.x c.args.y c.args.z c.fits-x.0 c.fits-y.0 c.fits-z.0
