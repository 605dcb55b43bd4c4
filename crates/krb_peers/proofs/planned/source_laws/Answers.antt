use Rattle.krb_peers.specs.Sender.{records, sealed_groups}
use Rattle.krb_peers.proofs.SourceLemmas.{are_records, fit_limits, its_frame, texts_of_records, paired_attempt}
use Rattle.krb_peers.proofs.CarriedLemmas.{takes_all_in_turn}
use Rattle.krb_peers.proofs.planned.source_laws.Goals as goal

pub returns : goal.returns
returns c = record {
  sources = λ source. (
    are_records source,
    fit_limits source,
    its_frame source (records source),
    texts_of_records (sealed_groups source),
  );
  runs = λ run paired is honest. paired_attempt run is paired honest;
  in_turn = λ first run is turn all. takes_all_in_turn run is first turn all;
}
