-- The room is the one that was asked.
use Rattle.krb_thread_tests.proofs.lane.room.assert_room_is_used.Goals as goal

pub lane-requires : goal.lane-requires
lane-requires g c = c.requires
