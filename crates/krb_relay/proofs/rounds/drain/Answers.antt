-- Each end in turn.
use Rattle.std.proofs.Common.{arith}
use Rattle.krb_relay.proofs.EndsLemmas.{all_drains_self, all_drains_set}
use Rattle.krb_relay.proofs.rounds.drain.Goals as goal

pub loop-lane-init : goal.loop-lane-init
loop-lane-init g c = all_drains_self _

pub loop-lane-preserved : goal.loop-lane-preserved
loop-lane-preserved g c = all_drains_set _ _ _ _ _ (omega arith) c.drain_one.ensures c.loop-lane.invariant
