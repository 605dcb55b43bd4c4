use Rattle.krb_lane.proofs.Steps.{forks}
use Rattle.krb_lane.proofs.opening.cut.Goals as goal

pub another-requires-clause-rule : goal.another-requires-clause-rule
another-requires-clause-rule g c = forks _ _ _ c.requires.fresh
