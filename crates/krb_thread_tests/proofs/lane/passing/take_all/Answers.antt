-- A frame more, on both sides.
use Rattle.std.proofs.Common.{◌∙◌}
use Rattle.krb_thread_tests.proofs.SideLemmas.{takes_lane, takes_frame}
use Rattle.krb_thread_tests.proofs.lane.passing.take_all.Goals as goal

pub loop-preserved : goal.loop-preserved
loop-preserved g c = (
  tt,
  tt,
  takes_lane c.loop.rx c.take.new.self c.in-Ok-Frame.field-0 c.in-Ok-Frame.ensures.ok ∙ c.loop.invariant.2,
  takes_frame c.loop.rx c.take.new.self c.in-Ok-Frame.field-0 c.in-Ok-Frame.index c.in-Ok-Frame.bytes c.loop.got.items c.push.new.self.items _ _ c.in-Ok-Frame.ensures.ok c.in-Ok-Frame.field-0-is c.loop.invariant.3 c.push.ensures.items c.if-is_err.ensures.negation,
)
