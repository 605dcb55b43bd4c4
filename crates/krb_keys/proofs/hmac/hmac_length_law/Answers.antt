use Rattle.krb_keys.proofs.HmacLemmas.{length-hmac, length-hmac96}
use Rattle.krb_keys.proofs.hmac.hmac_length_law.Goals as goal

pub returns-clause-whole : goal.returns-clause-whole
returns-clause-whole c = length-hmac

pub returns-clause-cut : goal.returns-clause-cut
returns-clause-cut c = length-hmac96
