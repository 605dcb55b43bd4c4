-- The lane is new, so few frames were sent.
use Rattle.krb_thread_tests.proofs.SideLemmas.{none_sent}
use Rattle.krb_thread_tests.proofs.lane.longest_raw_frame_comes_back_whole.Goals as goal

pub send-requires : goal.send-requires
send-requires g c = none_sent c.in_ok-tx.tx c.in_ok-tx.ensures.frames
