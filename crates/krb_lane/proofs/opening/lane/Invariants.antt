use Rattle.crossbeam_channel.specs.Ends.{sends_on, ruled_capacity}
use Rattle.krb_lane.proofs.opening.lane.Given as goal

abbrev pub ghosts-cut : goal.ghosts-cut
ghosts-cut g a = record { capacity = ruled_capacity (sends_on a.sender.now) }
