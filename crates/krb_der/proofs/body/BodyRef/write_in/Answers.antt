use Rattle.std.proofs.Common.{arith, append_assoc}
use Rattle.krb_tlv.specs.Element.{tagged}
use Rattle.krb_tlv.proofs.Writers.{sizes}
use Rattle.krb_der.specs.Body.{body}
use Rattle.krb_der.proofs.body.BodyRef.write_in.Goals as goal

pub returns : goal.returns
unfolding body tagged
returns c = grind (arith, append_assoc, sizes)
