use Rattle.std.proofs.Common.{arith, append_assoc}
use Rattle.std.proofs.lemmas.List.{append-nil}
use Rattle.krb_der.proofs.body.BodyRef.write_fields.Goals as goal

pub returns : goal.returns
returns c = grind (arith, append_assoc, append-nil)
