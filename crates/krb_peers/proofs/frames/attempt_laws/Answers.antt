use Rattle.std.proofs.Common.{suc, take, refl, arith}
use Rattle.krb_peers.specs.Verdicts.{records_of}
use Rattle.krb_peers.proofs.AttemptLemmas.{number, accepted_within, accepted_together, past_each, accepts_rest, rest_whole, all_accepted, first_accepted, none_refused}
use Rattle.krb_peers.proofs.HappenLemmas.{taking_all, is_attempt, all_taken}
use Rattle.krb_peers.proofs.frames.attempt_laws.Goals as goal

pub returns : goal.returns
returns c = record {
  in_order = λ sealer records first attempt s. (accepted_within sealer records first attempt s, accepted_together sealer records first attempt s);
  demands_next = λ sealer records first attempt s end turn k fits from lt.
      let past = past_each sealer records first attempt s fits end turn k from lt in
      let its = number sealer records first attempt s (records_of (take (suc (turn.place k)) attempt.verdicts)) in
      omega (arith, past, its);
  rest = λ sealer records first attempt s fits turn.
      let accepted = accepts_rest sealer records first attempt s fits turn in
      (accepted, (rest_whole sealer records first attempt s accepted).1);
  none_refused = λ sealer records first attempt s fits turn.
      let count = all_accepted sealer records first attempt s fits turn in
      (none_refused sealer records first attempt s count, first_accepted sealer records first attempt s count);
  met = λ sealer records sealed receiver nows can. (
    taking_all sealer records sealed receiver nows can,
    refl,
    refl,
    is_attempt sealer records sealed receiver nows can,
    all_taken sealer records sealed receiver nows can,
  );
}
