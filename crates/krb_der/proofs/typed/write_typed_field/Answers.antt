use Rattle.std.proofs.Common.{arith, append_assoc}
use Rattle.std.proofs.lemmas.List.{append-nil}
use Rattle.krb_tlv.specs.Element.{tagged}
use Rattle.krb_tlv.proofs.Writers.{sizes}
use Rattle.krb_der.specs.Typed.{typed_octets}
use Rattle.krb_der.proofs.typed.write_typed_field.Goals as goal

pub returns : goal.returns
unfolding typed_octets tagged
returns c = grind (arith, append_assoc, append-nil, sizes)
