use Rattle.std.proofs.Common.{ℕ, ◌/◌, ◌^◌}
use Rattle.std.proofs.lemmas.Simd.{zip2_splat}
use Rattle.krb_aes.proofs.pairs.high.Goals as goal

pub returns : goal.returns
returns c = zip2_splat (λ (a b : ℕ). a / 2 ^ b) c.args.x 32 4 c.fits-x.0
