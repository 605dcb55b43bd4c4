use Rattle.krb_lane.proofs.Steps.{made}
use Rattle.krb_lane.proofs.opening.lane.Goals as goal

pub bounded_with-requires-clause-rule : goal.bounded_with-requires-clause-rule
bounded_with-requires-clause-rule g c = made.0
