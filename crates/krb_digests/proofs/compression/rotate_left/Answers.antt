use Rattle.krb_digests.proofs.LaneLemmas.{rotated_at}
use Rattle.krb_digests.proofs.compression.rotate_left.Goals as goal

pub returns : goal.returns
returns c = rotated_at c.args.by c.requires.some c.requires.within c.args.x c.fits-x.0
