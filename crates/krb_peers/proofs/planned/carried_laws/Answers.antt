use Rattle.std.proofs.Common.{arith}
use Rattle.krb_peers.proofs.CarriedLemmas.{carried_demands, carried_whole, undisturbed_carried, undisturbed_honest}
use Rattle.krb_peers.proofs.planned.carried_laws.Goals as goal

pub returns : goal.returns
returns c = record {
  demands_next = λ run carried honest fits is k lt inside.
      let past = carried_demands run carried honest fits is k lt inside in
      omega (arith, past);
  all_texts = λ run carried honest fits is all. carried_whole run carried honest is all;
  undisturbed = undisturbed_carried;
  honest = undisturbed_honest;
}
