use Rattle.std.proofs.Common.{arith, append-nil, true, ◌∙◌}
use Rattle.krb_lane.proofs.Sides.{sender_after, sent_after}
use Rattle.krb_lane.proofs.sending.LaneTx.end.Goals.{in-Ok, in-Err}
use Rattle.krb_lane.proofs.sending.LaneTx.end.Goals as goal

pub invariant_of-result : goal.invariant_of-result
invariant_of-result g c = sender_after _ _ _ _ _ c.self.invariant.0 c.in-Ok.ensures.channel c.in-Ok.ensures.rule _ (omega arith)

pub returns-clause-ok : goal.returns-clause-ok
returns-clause-ok g c =
    elim c.match-put.branch [
      | in-Ok w ↦
          let s = c.args.self in
          let shown = sent_after _ c.self.inside.pass c.put.new.pass _ _ c.self.invariant.0 w.in-Ok.ensures.channel w.in-Ok.ensures.rule c.self.invariant.1 s c.self.view_is in
          rw w.result-is (shown ∙ (λ i. record { lane = s.lane; capacity = s.capacity; frames = append-nil s.frames i; ended = true }))
      | in-Err w ↦ rw w.result-is tt
    ]
