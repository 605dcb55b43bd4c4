use Rattle.std.proofs.Common.{◌∙◌, sym}
use Rattle.krb_tlv.specs.Element.{header}
use Rattle.std.proofs.Common.{ap}
use Rattle.krb_der.proofs.Writers.{covered_is, no_checksum_is}
use Rattle.krb_der.proofs.safe.covering_of.Goals as goal

pub returns : goal.returns
returns c = λ m size.
    covered_is m c.args.fields c.new.result c.new-2.result _ size (c.new.ensures ∙ ap (header 0x74) c.size_around.ensures.value) c.new-2.ensures (sym no_checksum_is)
