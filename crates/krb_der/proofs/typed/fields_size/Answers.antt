use Rattle.std.proofs.Common.{arith}
use Rattle.krb_der.proofs.ExactSizes.{length-typed_fields}
use Rattle.krb_der.proofs.typed.fields_size.Goals as goal

pub returns-clause-value : goal.returns-clause-value
returns-clause-value c = grind (arith, length-typed_fields c.args.kind.now c.args.bytes.now)
