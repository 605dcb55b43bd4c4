use Rattle.krb_laws.proofs.InCLemmas.{are_takes_in_c}
use Rattle.krb_laws.proofs.in_c.calls_in_c_laws.Goals as goal

pub returns : goal.returns
returns c = are_takes_in_c
