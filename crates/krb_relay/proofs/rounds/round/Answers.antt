-- After the last lane the next round begins.
use Rattle.std.proofs.Common.{arith}
use Rattle.krb_relay.proofs.StandsLemmas.{next_round}
use Rattle.krb_relay.proofs.rounds.round.Goals as goal

pub returns-clause-ok : goal.returns-clause-ok
returns-clause-ok g c = next_round c.loop-lane.lane _ _ _ _ c.loop-lane.invariant.stands (omega arith)
