-- A turn, among what waits of all lanes.
use Rattle.std.proofs.Common.{arith}
use Rattle.krb_relay.proofs.WaitingLemmas.{lane_few, lane_within, may_be_logged, item_logged, waits_stop}
use Rattle.krb_relay.proofs.logging.log_at.Goals as goal

pub overflow_cast-number : goal.overflow_cast-number
overflow_cast-number c = let small = lane_few _ _ _ _ _ _ c.requires.waits.waits c.requires.there in omega (arith, small)

pub log_one-requires-clause-lane : goal.log_one-requires-clause-lane
log_one-requires-clause-lane c = lane_within _ _ _ _ _ _ c.requires.waits.waits c.requires.there

pub log_one-requires-clause-open : goal.log_one-requires-clause-open
log_one-requires-clause-open c = may_be_logged _ _ _ _ _ _ c.requires.waits.waits c.requires.there c.index-waiting-lane.result

pub returns-in-Ok-clause-ok : goal.returns-in-Ok-clause-ok
returns-in-Ok-clause-ok c starts ends receivings w = item_logged _ _ _ _ _ _ w c.requires.there c.index-waiting-lane.result _ _ c.in-Ok.ensures.ok

pub returns-in-Err-clause-err : goal.returns-in-Err-clause-err
returns-in-Err-clause-err c starts ends receivings w = waits_stop _ _ _ _ _ _ w _ c.in-Err.ensures.err
