use Rattle.krb_laws.proofs.ReflectionLemmas.{openers_refuse, peers_refuse, addresses_tell}
use Rattle.krb_laws.proofs.peers.reflection_laws.Goals as goal

pub returns : goal.returns
returns c = record { openers = openers_refuse; demands = peers_refuse; addresses = addresses_tell }
