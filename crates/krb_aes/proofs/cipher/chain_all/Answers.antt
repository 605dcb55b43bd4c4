use Rattle.std.proofs.Common.{◌+◌, ◌-◌, ◌*◌, ◌≤◌, length, refl, arith}
use Rattle.std.proofs.lemmas.List.{take_all}
use Rattle.krb_aes.proofs.UnstealingLemmas.{nothing_chained, chained_more}
use Rattle.krb_aes.proofs.cipher.chain_all.Goals as goal

pub loop-i-init : goal.loop-i-init
loop-i-init c = λ w k. (nothing_chained w c.args.state, refl)

pub loop-i-preserved : goal.loop-i-preserved
loop-i-preserved c = λ w k.
    let i = c.loop-i.invariant w k in
    let n = c.chain-next.ensures in
    let room : 16 * c.loop-i.i + 16 ≤ length c.args.text.now = omega (arith, c.loop-i-test.true) in
    chained_more w c.args.state c.loop-i.last c.args.text.now c.loop-i.text c.chain-next.new.part c.chain-next.result c.loop-i.i (16 * c.loop-i.i + 16 - 16 * c.loop-i.i) (omega arith) room c.loop-i.auto.text
    (n.value w k) n.written i.0 i.1

pub returns : goal.returns
returns c = λ w k.
    let i = c.loop-i.invariant w k in
    let old = take_all (16 * c.loop-i.i) c.args.text.now (omega arith) in
    let new = take_all (16 * c.loop-i.i) c.loop-i.text (omega (arith, c.loop-i.auto.text)) in
    rw (old, new) at i.0
