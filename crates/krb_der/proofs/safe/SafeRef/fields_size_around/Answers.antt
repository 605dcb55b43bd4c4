use Rattle.std.proofs.Common.{arith}
use Rattle.krb_der.proofs.ExactSizes.{length-body_fields}
use Rattle.krb_der.proofs.safe.SafeRef.fields_size_around.Goals as goal

pub returns-clause-value : goal.returns-clause-value
returns-clause-value c = grind (arith, length-body_fields c.args.self.now.body)
