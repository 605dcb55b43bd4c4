use Rattle.krb_base.proofs.bytes.known_bytes.Goals as goal

pub returns : goal.returns
returns c = record { small = λ i. (c.type_inv.bytes i).fits }
