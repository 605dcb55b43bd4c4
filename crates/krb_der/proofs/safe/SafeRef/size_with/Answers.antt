use Rattle.std.proofs.Common.{arith}
use Rattle.krb_der.proofs.ExactSizes.{safe_size}
use Rattle.krb_der.proofs.safe.SafeRef.size_with.Goals as goal

pub returns : goal.returns
returns c = safe_size c.args.self.now c.args.checksum c.args.len _ (grind arith)
