use Rattle.std.proofs.Common.{◌≡◌, ◌<◌, length, arith, length-set, subst}
use Rattle.krb_sender.specs.Times.{NodesBut}
use Rattle.krb_sender.proofs.TimesLemmas.{nodes_up, nodes_root}
use Rattle.krb_sender.proofs.times.settle.Goals as goal

pub loop-i-preserved : goal.loop-i-preserved
loop-i-preserved c =
    let there : c.loop-i.i < length c.loop-i.least = omega (arith, c.loop-i.invariant.there, c.loop-i.invariant.sized) in
    record {
      there = omega (arith, c.loop-i.invariant.there);
      sized = omega (arith, c.loop-i.invariant.sized, length-set c.loop-i.least c.loop-i.i c.least_of.result);
      others = nodes_up c.args.at.now c.loop-i.least c.loop-i.i c.least_of.result (omega arith) there c.least_of.ensures c.loop-i.invariant.others;
    }

pub returns-clause-nodes : goal.returns-clause-nodes
returns-clause-nodes c =
    let first : c.loop-i.i ≡ 0 = omega (arith, c.loop-i-test.false) in
    let there : 0 < length c.loop-i.least = omega (arith, c.loop-i.invariant.there, c.loop-i.invariant.sized) in
    nodes_root c.args.at.now c.loop-i.least c.least_of-2.result there c.least_of-2.ensures
    (subst (λ i. NodesBut c.args.at.now c.loop-i.least i) first c.loop-i.invariant.others)
