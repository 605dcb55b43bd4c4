use Rattle.std.proofs.Common.{arith}
use Rattle.krb_der.proofs.ExactSizes.{length-address_fields}
use Rattle.krb_der.proofs.body.BodyRef.fields_size_with.Goals as goal

pub returns-clause-value : goal.returns-clause-value
returns-clause-value c = grind (arith, length-address_fields c.args.self.now.s_addr c.args.self.now.r_addr)
