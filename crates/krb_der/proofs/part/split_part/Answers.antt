use Rattle.std.proofs.Common.{◌++◌, arith}
use Rattle.krb_tlv.specs.Tag.{application}
use Rattle.krb_der.specs.Reading.{EndsWith}
use Rattle.krb_der.proofs.Places.{ends-alone, if-some}
use Rattle.krb_der.proofs.part.split_part.Goals as goal

pub returns-clause-place : goal.returns-clause-place
returns-clause-place c =
    if-some (λ x. EndsWith (x.0.now ++ x.1.now) c.in_ok-only_element.field-0.now) (λ x. EndsWith (x.0.now ++ x.1.now) c.args.bytes.now) c.split_data.result
    (λ x h. ends-alone (application 28) (x.0.now ++ x.1.now) c.in_ok-only_element.field-0.now c.args.bytes.now (record { small = λ i. omega (arith, c.type_inv.bytes i) }) c.in_ok-only_element.ensures (λ _. h)) c.split_data.ensures.place
