use Rattle.krb_peers.proofs.SourceLemmas.{records_prefix}
use Rattle.krb_peers.proofs.CarriedLemmas.{goes_on_in_order, in_order_prefix, goes_on_whole}
use Rattle.krb_peers.proofs.planned.going_on_laws.Goals as goal

pub returns : goal.returns
returns c = record {
  first = λ run paired is honest. records_prefix run is paired honest;
  goes_on = λ source before run accepted goes_on honest is. goes_on_in_order source before run accepted goes_on honest is;
  texts = in_order_prefix;
  all_texts = λ source before run accepted goes_on honest is turn all. goes_on_whole source before run accepted goes_on honest is turn all;
}
