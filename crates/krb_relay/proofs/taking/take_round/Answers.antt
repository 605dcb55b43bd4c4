-- A turn more, whatever it brings.
use Rattle.std.proofs.Common.{arith}
use Rattle.krb_relay.proofs.WaitingLemmas.{have_taken_set, unjudged_set}
use Rattle.krb_relay.proofs.taking.take_round.Goals as goal

pub loop-lane-init : goal.loop-lane-init
loop-lane-init g c = record { taken = λ mids h. h; unjudged = c.requires.unjudged }

pub loop-lane-preserved : goal.loop-lane-preserved
loop-lane-preserved g c = record {
  taken = λ mids h.
      let so_far = c.loop-lane.invariant.taken mids h in
      let n = so_far.each_end in
      have_taken_set mids c.loop-lane.ends c.loop-lane.waiting c.loop-lane.lane c.index-ends-lane.result c.take_one.new.rx c.index-waiting-lane.result c.take_one.new.waiting
      (omega (arith, n)) c.take_one.ensures.taken so_far;
  unjudged = unjudged_set c.loop-lane.waiting c.loop-lane.lane c.index-waiting-lane.result c.take_one.new.waiting (omega arith) c.loop-lane.invariant.unjudged c.take_one.ensures.verdicts;
}

pub returns-in_default-clause-taken : goal.returns-in_default-clause-taken
returns-in_default-clause-taken g c = λ mids h.
    let so_far = c.loop-lane.invariant.taken mids h in
    let n = so_far.each_end in
    have_taken_set mids c.loop-lane.ends c.loop-lane.waiting c.loop-lane.lane c.index-ends-lane.result c.take_one.new.rx c.index-waiting-lane.result c.take_one.new.waiting
    (omega (arith, n)) c.take_one.ensures.taken so_far

pub returns-in_default-clause-unjudged : goal.returns-in_default-clause-unjudged
returns-in_default-clause-unjudged g c =
    unjudged_set c.loop-lane.waiting c.loop-lane.lane c.index-waiting-lane.result c.take_one.new.waiting (omega arith) c.loop-lane.invariant.unjudged c.take_one.ensures.verdicts
