use Rattle.krb_relay.proofs.RunLemmas.{all_below, nothing_taken, plan_is_bad, sealer_was_wiped}
use Rattle.krb_relay.proofs.laws.stop_laws.Goals as goal

pub returns : goal.returns
returns c = record {
  plan = plan_is_bad;
  wiped = sealer_was_wiped;
  nothing = nothing_taken;
  below = all_below;
}
