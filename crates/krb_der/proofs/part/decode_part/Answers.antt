use Rattle.std.proofs.Common.{arith}
use Rattle.krb_der.proofs.Grammar.{part_decodes, part_decided}
use Rattle.krb_der.proofs.part.decode_part.Goals as goal

pub returns : goal.returns
returns c =
    let d = part_decodes c.args.bytes.now c.read_part.result (record { small = λ i. omega (arith, c.type_inv.bytes i) }) (omega arith) c.read_part.ensures in
    record { answer = d; only = part_decided c.args.bytes.now c.read_part.result d }
