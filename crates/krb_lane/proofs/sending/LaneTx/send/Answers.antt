use Rattle.std.proofs.Common.{arith, ap, ◌++◌, [], ◌∷◌, length, sym, ◌∙◌, refl}
use Rattle.krb_lane.specs.Side.{Side}
use Rattle.krb_lane.proofs.Sides.{sender_after, open_after, sent_after}
use Rattle.krb_lane.proofs.sending.LaneTx.send.Goals as goal

pub put-requires-clause-next : goal.put-requires-clause-next
put-requires-clause-next g c =
    let few = ap (λ (s : Side). length s.frames) c.self.view_is in
    (c.self.invariant.0.counted, omega (arith, few, c.requires))

pub invariant_of-self : goal.invariant_of-self
invariant_of-self g c = (sender_after _ _ _ _ _ c.self.invariant.0 c.in-Ok.ensures.channel c.in-Ok.ensures.rule _ refl, open_after _ _ _ _ _ c.self.invariant.0 c.in-Ok.ensures.channel c.in-Ok.ensures.rule c.self.invariant.1 refl)

pub returns-in-Ok-clause-ok : goal.returns-in-Ok-clause-ok
returns-in-Ok-clause-ok g c =
    let now = c.args.self.now in
    let shown = sent_after _ c.self.inside.pass c.put.new.pass _ _ c.self.invariant.0 c.in-Ok.ensures.channel c.in-Ok.ensures.rule c.self.invariant.1 now c.self.view_is in
    let off = sym c.self.invariant.1.unended ∙ ap (λ (s : Side). s.ended) c.self.view_is in
    shown ∙ (λ i. record { lane = now.lane; capacity = now.capacity; frames = now.frames ++ c.new.ensures i ∷ []; ended = off i })
