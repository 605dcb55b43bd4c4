use Rattle.krb_peers.proofs.CallLemmas.{are_takes, go_on, without, are_judged, have_headline, are_attempts}
use Rattle.krb_peers.proofs.calls.calls_laws.Goals as goal

pub returns : goal.returns
returns c = record {
  take = are_takes;
  goes_on = go_on;
  none = without;
  judged = are_judged;
  headline = have_headline;
  attempt = are_attempts;
}
