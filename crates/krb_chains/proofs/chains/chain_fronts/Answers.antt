use Rattle.std.proofs.Common.{◌≡◌, ◌+◌, ◌-◌, ◌*◌, take, drop, replicate, arith}
use Rattle.krb_aes.proofs.UnstealingLemmas.{chained_more}
use Rattle.krb_chains.proofs.chains.chain_fronts.Goals as goal

pub loop-i-preserved : goal.loop-i-preserved
loop-i-preserved c =
    let at = 16 * c.loop-i.i in
    let one : at + 16 - at ≡ 16 = omega arith in (
      λ w k.
          let before = c.loop-i.invariant.0 w k in
          chained_more w (replicate 16 0) (take 16 c.loop-i.state) c.args.a.now c.loop-i.a c.chain_four.new.a (take 16 c.chain_four.result.0) c.loop-i.i _ one
          (omega (arith, c.requires.a, c.loop-i-test.true)) c.loop-i.auto.a (c.chain_four.ensures.a w k) c.chain_four.ensures.a_written before.0 before.1,
      λ w k.
          let before = c.loop-i.invariant.1 w k in
          chained_more w (replicate 16 0) (drop 16 c.loop-i.state) c.args.b.now c.loop-i.b c.chain_four.new.b (drop 16 c.chain_four.result.0) c.loop-i.i _ one
          (omega (arith, c.requires.b, c.loop-i-test.true)) c.loop-i.auto.b (c.chain_four.ensures.b w k) c.chain_four.ensures.b_written before.0 before.1,
      λ w k.
          let before = c.loop-i.invariant.2 w k in
          chained_more w (replicate 16 0) (take 16 c.loop-i.other) c.args.c.now c.loop-i.c c.chain_four.new.c (take 16 c.chain_four.result.1) c.loop-i.i _ one
          (omega (arith, c.requires.c, c.loop-i-test.true)) c.loop-i.auto.c (c.chain_four.ensures.c w k) c.chain_four.ensures.c_written before.0 before.1,
      λ w k.
          let before = c.loop-i.invariant.3 w k in
          chained_more w (replicate 16 0) (drop 16 c.loop-i.other) c.args.d.now c.loop-i.d c.chain_four.new.d (drop 16 c.chain_four.result.1) c.loop-i.i _ one
          (omega (arith, c.requires.d, c.loop-i-test.true)) c.loop-i.auto.d (c.chain_four.ensures.d w k) c.chain_four.ensures.d_written before.0 before.1,
    )
