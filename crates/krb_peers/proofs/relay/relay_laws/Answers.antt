use Rattle.std.proofs.Common.{refl}
use Rattle.krb_peers.proofs.WholeLemmas.{claims_of, relayed_of, one_whole}
use Rattle.krb_peers.proofs.relay.relay_laws.Goals as goal

pub returns : goal.returns
returns c = record {
  claims = claims_of;
  relayed = λ lanes runs log are entries all_taken. (relayed_of lanes runs log are entries all_taken, refl);
  one = one_whole;
}
