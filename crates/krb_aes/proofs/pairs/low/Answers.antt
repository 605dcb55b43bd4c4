use Rattle.std.proofs.Common.{bit_and}
use Rattle.std.proofs.lemmas.Simd.{zip2_splat}
use Rattle.krb_aes.proofs.pairs.low.Goals as goal

pub returns : goal.returns
returns c = zip2_splat bit_and c.args.x 32 15 c.fits-x.0
