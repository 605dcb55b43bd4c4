use Rattle.std.proofs.Common.{◌≡◌, drop, subst, ap, arith, length, length-drop, ◌∙◌}
use Rattle.krb_base.specs.Bytes.{AreBytes}
use Rattle.krb_der.proofs.Grammar.{part_decodes, part_decided}
use Rattle.krb_tlv.proofs.Numbers.{AreBytes-drop}
use Rattle.krb_der.proofs.part.decode_part_from.Goals as goal

pub returns : goal.returns
returns c =
    let whole : c.new-bytes.result ≡ c.args.bytes.items = c.new-bytes.ensures in
    let bytes = drop c.args.start c.args.bytes.items in
    let fits : AreBytes c.args.bytes.items = subst AreBytes (c.as_slice.ensures ∙ whole) c.known_bytes.ensures in
    let size = ap length (c.as_slice-2.ensures ∙ whole) in
    let taken = rw whole at c.take_part.ensures in
    let d = part_decodes bytes c.take_part.result (AreBytes-drop c.args.start c.args.bytes.items fits) (omega (arith, length-drop c.args.start c.args.bytes.items, size)) taken in
    record { answer = d; only = part_decided bytes c.take_part.result d }
