use Rattle.std.proofs.Common.{refl}
use Rattle.std.proofs.lemmas.Result.{on_ok_weaker}
use Rattle.krb_tlv.proofs.Writers.{begun_two}
use Rattle.krb_tlv.proofs.writer.Writer.octets_field.Goals as goal

pub returns : goal.returns
returns c =
    let bytes = c.args.bytes.now in
    on_ok_weaker c.put.result (begun_two c.args.tag 0x04 _ bytes c.args.self.now c.begin_two.new.self c.put.new.self refl c.in_ok-begin_two.ensures.headers) c.put.ensures
