use Rattle.std.proofs.Common.{◌≡◌, ◌+◌, ◌∙◌, ℕ, suc, ap, arith, take}
use Rattle.krb_tlv.specs.Reading.{be_value}
use Rattle.krb_base.specs.Bytes.{AreBytes}
use Rattle.krb_tlv.proofs.Numbers.{be_value-four, be_value-next}
use Rattle.krb_tlv.proofs.length.be_number.Goals as goal

pub overflow_mul-number : goal.overflow_mul-number
overflow_mul-number c =
    let fits : AreBytes c.args.octets.now = record { small = λ i. omega (arith, c.type_inv.octets i) } in
    let four = be_value-four c.args.octets.now c.loop-octet.octet-index fits c.requires c.loop-octet-test.true in
    omega (arith, c.loop-octet.invariant, four)

pub overflow_add-number : goal.overflow_add-number
overflow_add-number c =
    let fits : AreBytes c.args.octets.now = record { small = λ i. omega (arith, c.type_inv.octets i) } in
    let four = be_value-four c.args.octets.now c.loop-octet.octet-index fits c.requires c.loop-octet-test.true in
    omega (arith, c.loop-octet.invariant, four, c.from.ensures, c.type_inv.octets c.loop-octet.octet-index)

pub loop-octet-preserved : goal.loop-octet-preserved
loop-octet-preserved c =
    let index : c.loop-octet.octet-index + 1 ≡ suc c.loop-octet.octet-index = omega arith in
    let next = ap (λ (n : ℕ). be_value (take n c.args.octets.now)) index ∙ be_value-next c.args.octets.now c.loop-octet.octet-index c.loop-octet-test.true in
    omega (arith, next, c.loop-octet.invariant, c.from.ensures)
