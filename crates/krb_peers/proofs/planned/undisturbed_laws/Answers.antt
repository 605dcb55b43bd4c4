use Rattle.std.proofs.Common.{◌+◌, ap}
use Rattle.krb_peers.proofs.CarriedLemmas.{calm_none_refused, calm_records, as_many, calm_whole}
use Rattle.krb_peers.proofs.planned.undisturbed_laws.Goals as goal

pub returns : goal.returns
returns c = record {
  none_refused = λ run calm fits is. calm_none_refused run calm fits is;
  first_records = λ run calm fits is. calm_records run calm fits is;
  demands_next = λ run calm fits is. ap (λ n. run.ends.receiver.demand.expected + n) (as_many run calm fits is);
  all_texts = λ run calm fits is all. calm_whole run calm is all;
}
