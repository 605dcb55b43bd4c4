use Rattle.krb_peers.proofs.LoggedLemmas.{logged_none, logged_shut}
use Rattle.krb_peers.proofs.laws.logged_laws.Goals as goal

pub returns : goal.returns
returns c = record { none = logged_none; shut = logged_shut }
