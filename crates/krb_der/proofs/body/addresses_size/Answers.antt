use Rattle.std.proofs.Common.{arith}
use Rattle.krb_tlv.proofs.Writers.{sizes}
use Rattle.krb_der.proofs.ExactSizes.{length-address_fields}
use Rattle.krb_der.proofs.body.addresses_size.Goals as goal

pub returns-clause-value : goal.returns-clause-value
returns-clause-value c = grind (arith, sizes, length-address_fields c.args.s_addr.now c.args.r_addr.now)
