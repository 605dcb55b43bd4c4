use Rattle.std.proofs.Common.{arith, length-append}
use Rattle.krb_der.specs.Typed.{typed_octets}
use Rattle.krb_tlv.proofs.Readers.{size-tagged}
use Rattle.krb_der.proofs.typed.typed_size.Goals as goal

pub returns-clause-value : goal.returns-clause-value
unfolding typed_octets
returns-clause-value c = grind (arith, size-tagged, length-append)
