-- The lane is new, so few frames were sent.
use Rattle.krb_thread_tests.proofs.SideLemmas.{none_sent, one_sent}
use Rattle.krb_thread_tests.proofs.lane.what_was_sent_comes_back_where_the_receiver_is_gone.Goals as goal

pub send-requires : goal.send-requires
send-requires g c = none_sent c.in_ok-tx.tx c.in_ok-tx.ensures.frames

pub send-requires-2 : goal.send-requires-2
send-requires-2 g c = one_sent c.in_ok-tx.tx c.send.new.self c.in_ok-to_vec.field-0.items c.in_ok-tx.ensures.frames c.in_ok-send.ensures.ok
