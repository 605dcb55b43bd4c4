use Rattle.krb_keys.proofs.LcmLemmas.{lcm_divides}
use Rattle.krb_keys.proofs.fold.lcm_law.Goals as goal

pub returns : goal.returns
returns c = lcm_divides
