use Rattle.std.proofs.Common.{arith}
use Rattle.krb_tlv.proofs.Readers.{size-tagged}
use Rattle.krb_tlv.proofs.integer.natural_field_size.Goals as goal

pub returns-in-Some-clause-value : goal.returns-in-Some-clause-value
returns-in-Some-clause-value c = grind (arith, size-tagged)
