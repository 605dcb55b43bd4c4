use Rattle.krb_engine.proofs.QueueLemmas.{served_in_turn, each_once, none_overtakes, none_lost}
use Rattle.krb_engine.proofs.queue.queue_laws.Goals as goal

pub returns : goal.returns
returns c = record {
  in_turn = served_in_turn;
  once = each_once;
  overtakes = none_overtakes;
  lost = none_lost;
}
