-- The log of lanes that have all ended.
use Rattle.std.proofs.Common.{refl}
use Rattle.krb_relay.proofs.StandsLemmas.{all_answered, all_logged, all_noted, lanes_are}
use Rattle.krb_relay.proofs.rounds.serve_all.Goals as goal

pub returns-then-all_ended-clause-judged : goal.returns-then-all_ended-clause-judged
returns-then-all_ended-clause-judged g c = all_answered 0 _ _ _ _ c.loop.invariant.stands

pub returns-then-all_ended-clause-logged : goal.returns-then-all_ended-clause-logged
returns-then-all_ended-clause-logged g c = all_logged 0 _ _ _ _ c.loop.invariant.stands

pub returns-then-all_ended-clause-noted : goal.returns-then-all_ended-clause-noted
returns-then-all_ended-clause-noted g c = all_noted 0 _ _ _ _ c.loop.invariant.stands (c.if-all_ended.ensures.0 refl)

pub returns-then-all_ended-clause-lanes : goal.returns-then-all_ended-clause-lanes
returns-then-all_ended-clause-lanes g c = lanes_are 0 _ _ _ _ c.loop.invariant.stands
