use Rattle.std.proofs.Common.{◌+◌, ◌-◌, ◌*◌, length}
use Rattle.krb_relay.proofs.opening.+halves.Given as goal

abbrev pub decreases-open_lanes : goal.decreases-open_lanes
decreases-open_lanes g l = 4 * length l.receivings.now

abbrev pub decreases-open_halves : goal.decreases-open_halves
decreases-open_halves g l = 4 * (length l.front.now + length l.back.now) - 1

abbrev pub decreases-open_halves-one : goal.decreases-open_halves-one
decreases-open_halves-one g l = 4 * length l.front.now + 1

abbrev pub decreases-open_halves-other : goal.decreases-open_halves-other
decreases-open_halves-other g l = 4 * length l.back.now + 1
