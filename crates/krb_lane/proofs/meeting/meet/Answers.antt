use Rattle.krb_lane.proofs.Steps.{merges}
use Rattle.krb_lane.proofs.Sides.{met}
use Rattle.krb_lane.proofs.meeting.meet.Goals as goal

pub absorb-requires-clause-rule : goal.absorb-requires-clause-rule
absorb-requires-clause-rule c = merges _ _ _ _ c.sent.invariant.sends c.rx.invariant.takes

pub returns-clause-prefix : goal.returns-clause-prefix
returns-clause-prefix c = (met _ c.sent.inside.pass c.rx.inside.pass _ _ c.absorb.ensures.rule c.learn_as.ensures.rule c.sent.view_is c.rx.view_is).0

pub returns-clause-whole : goal.returns-clause-whole
returns-clause-whole c = (met _ c.sent.inside.pass c.rx.inside.pass _ _ c.absorb.ensures.rule c.learn_as.ensures.rule c.sent.view_is c.rx.view_is).1

pub returns-clause-queued : goal.returns-clause-queued
returns-clause-queued c = (met _ c.sent.inside.pass c.rx.inside.pass _ _ c.absorb.ensures.rule c.learn_as.ensures.rule c.sent.view_is c.rx.view_is).2
