use Rattle.std.proofs.Common.{arith}
use Rattle.krb_tlv.specs.UniversalTag.{sequence_tag}
use Rattle.krb_der.proofs.Places.{ends-alone, ends-data}
use Rattle.krb_der.proofs.body_reading.split_data.Goals as goal

pub returns-clause-place : goal.returns-clause-place
returns-clause-place c =
    ends-alone sequence_tag _ _ c.args.bytes.now (record { small = λ i. omega (arith, c.type_inv.bytes i) }) c.in_ok-fields.ensures (λ h.
    rw (c.rest.ensures) (ends-data _ _ _ _ h c.in_ok-element.ensures c.in_ok-data.ensures))
