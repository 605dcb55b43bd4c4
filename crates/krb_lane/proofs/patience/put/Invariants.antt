use Rattle.std.proofs.Common.{◌≡◌}
use Rattle.crossbeam_channel.specs.Claims.{view, IsSeatAt}
use Rattle.crossbeam_channel.specs.Ends.{sends_on}
use Rattle.krb_lane.proofs.patience.put.Given as goal

abbrev pub invariant-loop-look : goal.invariant-loop-look
invariant-loop-look g l = IsSeatAt (sends_on l.sender) l.pass × (view l.pass ≡ view l.initial.pass) × (l.item ≡ l.fn.item)
