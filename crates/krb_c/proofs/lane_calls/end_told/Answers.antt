-- The session of the place is the one whose end is told.
use Rattle.std.proofs.Common.{subst}
use Rattle.krb_carrier_structs.specs.Sending.{Tells}
use Rattle.krb_c.proofs.lane_calls.end_told.Goals as goal

pub returns : goal.returns
returns c =
    (c.session.result.now, c.session.ensures c.session.result.now, subst (λ s. Tells c.of.result s) c.end.ensures c.of.ensures)
