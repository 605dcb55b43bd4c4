-- It has sent fewer than 100 frames.
use Rattle.krb_thread_tests.proofs.SideLemmas.{few_sent}
use Rattle.krb_thread_tests.proofs.lane.room.sends.Goals as goal

pub send-requires : goal.send-requires
send-requires g c = few_sent c.count.result _ c.count.ensures c.if-count-lt100.true
