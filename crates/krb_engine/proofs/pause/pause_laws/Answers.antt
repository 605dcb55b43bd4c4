use Rattle.krb_engine.proofs.PauseLemmas.{pauses_double, tries_are_rare}
use Rattle.krb_engine.proofs.pause.pause_laws.Goals as goal

pub returns : goal.returns
returns c = record {
  double = pauses_double;
  rare = tries_are_rare;
}
