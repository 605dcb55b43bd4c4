use Rattle.std.proofs.Common.{arith}
use Rattle.krb_tlv.proofs.Writers.{sizes}
use Rattle.krb_der.proofs.body.optional_address_size.Goals as goal

pub returns-in-Some-clause-value : goal.returns-in-Some-clause-value
returns-in-Some-clause-value c = grind (arith, sizes)
