-- The lane is new, so few frames were sent.
use Rattle.krb_thread_tests.proofs.SideLemmas.{none_sent}
use Rattle.krb_thread_tests.proofs.lane.lost_follows_the_frames_where_the_sender_is_gone.Goals as goal

pub send-requires : goal.send-requires
send-requires g c = none_sent c.in_ok-tx.tx c.in_ok-tx.ensures.frames
