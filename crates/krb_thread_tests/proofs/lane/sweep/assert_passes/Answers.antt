-- The lane is new, so few frames were sent.
use Rattle.krb_thread_tests.proofs.SideLemmas.{none_sent, one_sent}
use Rattle.krb_thread_tests.proofs.lane.sweep.assert_passes.Goals as goal

pub send-requires : goal.send-requires
send-requires g c = none_sent c.args.tx c.requires.1

pub send-requires-2 : goal.send-requires-2
send-requires-2 g c = one_sent c.args.tx c.send.new.self c.args.first.items c.requires.1 c.in-Ok.ensures.ok
