use Rattle.std.proofs.Common.{◌^◌, ◌≤◌, arith, length, lit<}
use Rattle.std.proofs.Math.Nat.{pow-le-pow_right}
use Rattle.krb_tlv.proofs.Numbers.{be_value-complement}
use Rattle.krb_tlv.proofs.integer.number_of_complement.Goals as goal

pub pow-end-requires : goal.pow-end-requires
pow-end-requires c =
    let most : 256 ^ length c.args.octets.now ≤ 256 ^ 5 = pow-le-pow_right (lit< tt) {i = length c.args.octets.now} {j = 5} c.requires in
    omega (arith, most)

pub overflow_sub-result : goal.overflow_sub-result
overflow_sub-result c =
    let all = be_value-complement c.args.octets.now (record { small = λ i. omega (arith, c.type_inv.octets i) }) in
    omega (arith, all, c.pow-end.ensures)

pub overflow_sub-result-2 : goal.overflow_sub-result-2
overflow_sub-result-2 c =
    let all = be_value-complement c.args.octets.now (record { small = λ i. omega (arith, c.type_inv.octets i) }) in
    omega (arith, all, c.pow-end.ensures, c.be_number.ensures)

pub returns : goal.returns
returns c =
    let all = be_value-complement c.args.octets.now (record { small = λ i. omega (arith, c.type_inv.octets i) }) in
    omega (arith, all, c.pow-end.ensures, c.be_number.ensures)
