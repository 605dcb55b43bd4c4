use Rattle.krb_lane.proofs.Steps.{takes}
use Rattle.krb_lane.proofs.Sides.{receiver_frame, receiver_end, got_frame, got_end}
use Rattle.krb_lane.proofs.receiving.LaneRx.take.Goals as goal

pub recv_as-requires-clause-rule : goal.recv_as-requires-clause-rule
recv_as-requires-clause-rule g c = (takes _ _ c.self.invariant.takes, λ items views h at. tt)

pub invariant_of-self : goal.invariant_of-self
invariant_of-self g c = let e = c.in-Ok-Frame.ensures in receiver_frame _ c.self.inside.pass c.recv_as.new.pass _ _ _ c.self.invariant c.if-self.false e.channel.0 e.rule.0 _ _ c.in-Ok-Frame.field-0-is

pub invariant_of-self-in-Ok-End : goal.invariant_of-self-in-Ok-End
invariant_of-self-in-Ok-End g c = let e = c.in-Ok-End.ensures in receiver_end _ c.self.inside.pass c.recv_as.new.pass _ _ _ c.self.invariant c.if-self.false e.channel.0 e.rule.0 c.in-Ok-End.field-0-is

pub returns-in-Ok-Frame-clause-ok : goal.returns-in-Ok-Frame-clause-ok
returns-in-Ok-Frame-clause-ok g c = let e = c.in-Ok-Frame.ensures in got_frame _ c.self.inside.pass c.recv_as.new.pass _ _ _ c.self.invariant c.if-self.false e.channel.0 e.rule.0 _ _ c.in-Ok-Frame.field-0-is _ c.self.view_is e.rule.1

pub returns-in-Ok-End-clause-ok : goal.returns-in-Ok-End-clause-ok
returns-in-Ok-End-clause-ok g c = let e = c.in-Ok-End.ensures in got_end _ c.self.inside.pass c.recv_as.new.pass _ _ _ c.self.invariant c.if-self.false e.channel.0 e.rule.0 c.in-Ok-End.field-0-is _ c.self.view_is
