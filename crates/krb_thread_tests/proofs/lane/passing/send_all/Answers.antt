-- A frame more is sent, of the few that there are.
use Rattle.krb_thread_tests.proofs.SideLemmas.{some_sent, sends_next, moves_on}
use Rattle.std.specs.Vec.Iter.{into_iter_items}
use Rattle.krb_thread_tests.proofs.lane.passing.send_all.Goals as goal

pub loop-bytes-preserved : goal.loop-bytes-preserved
loop-bytes-preserved g c = (
  tt,
  tt,
  sends_next c.args.tx c.loop-bytes.tx c.send.new.self c.loop-bytes.yielded c.into_vec.result.items c.in-Some.bytes c.loop-bytes.invariant.2 c.in-Ok.ensures.ok c.into_vec.ensures,
  moves_on c.args.frames.items c.loop-bytes.yielded (into_iter_items c.loop-bytes.bytes-iterator) (into_iter_items c.next.new.self) c.in-Some.bytes c.loop-bytes.invariant.3 c.in-Some.ensures.steps.0,
)

pub send-requires : goal.send-requires
send-requires g c = some_sent c.args.tx c.loop-bytes.tx c.args.frames.items c.loop-bytes.yielded (into_iter_items c.loop-bytes.bytes-iterator) c.requires c.loop-bytes.invariant.2 c.loop-bytes.invariant.3
