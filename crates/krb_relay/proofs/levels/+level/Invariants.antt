use Rattle.std.proofs.Common.{vec_len}
use Rattle.krb_relay.proofs.levels.+level.Given as goal

abbrev pub decreases-level : goal.decreases-level
decreases-level g l = vec_len l.parts
