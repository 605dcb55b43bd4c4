use Rattle.krb_structs.proofs.LawLemmas.{demanded_is_unsealed}
use Rattle.krb_structs.proofs.laws.demand_laws.Goals as goal

pub returns : goal.returns
returns c = demanded_is_unsealed c.authentic_laws.ensures.opens
