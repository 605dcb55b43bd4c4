use Rattle.krb_seal.proofs.Outcomes.{one_authenticity}
use Rattle.krb_seal.proofs.Authentics.{opens_the_authentic, sealed_is_authentic}
use Rattle.krb_seal.proofs.laws.authentic_laws.Goals as goal

pub returns : goal.returns
returns c = record { one = one_authenticity; opens = opens_the_authentic; sealed = sealed_is_authentic }
