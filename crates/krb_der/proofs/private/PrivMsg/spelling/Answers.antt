use Rattle.std.proofs.Common.{arith}
use Rattle.krb_der.proofs.Writers.{private_is}
use Rattle.krb_der.proofs.private.PrivMsg.spelling.Goals as goal

pub returns : goal.returns
returns c = grind (arith, private_is c.args.self.now)
