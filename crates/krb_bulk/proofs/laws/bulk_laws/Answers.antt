use Rattle.krb_bulk.proofs.TurnLemmas.{can_be_sealed, can_before, each_at, one_each, refused_there}
use Rattle.krb_bulk.proofs.laws.bulk_laws.Goals as goal

pub returns-clause-numbers : goal.returns-clause-numbers
returns-clause-numbers c = λ s ms fs h. (one_each s ms fs h, λ k m f e g. each_at s ms fs k m f h e g)

pub returns-clause-limits : goal.returns-clause-limits
returns-clause-limits c = can_be_sealed

pub returns-clause-first : goal.returns-clause-first
returns-clause-first c = λ s ms i why h. (refused_there s ms i why h, λ k m lt e. can_before s ms i why k m h lt e)
