use Rattle.std.proofs.Common.{arith}
use Rattle.krb_der.specs.Body.{body}
use Rattle.krb_tlv.proofs.Writers.{sizes}
use Rattle.krb_der.proofs.body.BodyRef.size.Goals as goal

pub returns-clause-value : goal.returns-clause-value
unfolding body
returns-clause-value c = grind (arith, sizes)
