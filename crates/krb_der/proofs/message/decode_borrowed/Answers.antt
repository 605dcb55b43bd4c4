use Rattle.std.proofs.Common.{arith}
use Rattle.krb_der.specs.MessageRef.{owned}
use Rattle.krb_der.proofs.Grammar.{message_found, message_absent}
use Rattle.krb_der.proofs.message.decode_borrowed.Goals as goal

pub returns-in-Some : goal.returns-in-Some
returns-in-Some c =
    message_found c.args.bytes.now (owned c.in-Some.found) (record { small = λ i. omega (arith, c.type_inv.bytes i) }) (omega arith) c.in-Some.ensures

pub returns-in-None : goal.returns-in-None
returns-in-None c = (omega arith, message_absent c.args.bytes.now c.in-None.ensures)
