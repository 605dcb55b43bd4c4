use Rattle.krb_seal.proofs.ExistsLemmas.{one_exists}
use Rattle.krb_seal.proofs.exists.exists_laws.Goals as goal

pub returns : goal.returns
returns c = one_exists
