use Rattle.krb_laws.proofs.DemandLemmas.{demands_mean, at_its_number_alone}
use Rattle.krb_laws.proofs.demands.demand_fields_laws.Goals as goal

pub returns : goal.returns
returns c = record { fields = demands_mean; own_number = at_its_number_alone }
