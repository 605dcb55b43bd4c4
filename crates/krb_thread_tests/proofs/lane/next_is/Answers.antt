-- Each end of the match leaves the receiver in its lane.
use Rattle.std.proofs.Common.{ap}
use Rattle.krb_lane.specs.Side.{Side}
use Rattle.krb_thread_tests.proofs.SideLemmas.{takes_lane}
use Rattle.krb_thread_tests.proofs.lane.next_is.Goals as goal

pub returns-in-Err : goal.returns-in-Err
returns-in-Err g c = ap (λ (s : Side). s.lane) c.in-Err.ensures.err

pub returns-in-Ok-End : goal.returns-in-Ok-End
returns-in-Ok-End g c = takes_lane c.args.rx.now c.take.new.self c.in-Ok-End.field-0 c.in-Ok-End.ensures.ok

pub returns-after-i-index : goal.returns-after-i-index
returns-after-i-index g c = takes_lane c.args.rx.now c.take.new.self c.in-Ok-Frame.field-0 c.in-Ok-Frame.ensures.ok
