use Rattle.std.proofs.Common.{arith, append_assoc}
use Rattle.krb_tlv.specs.Element.{tagged}
use Rattle.krb_der.proofs.safe.SafeRef.write_before_checksum.Goals as goal

pub returns : goal.returns
unfolding tagged
returns c = grind (arith, append_assoc)
