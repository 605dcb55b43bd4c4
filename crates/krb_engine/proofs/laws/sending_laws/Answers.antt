use Rattle.krb_engine.proofs.HistoryLemmas.{each_run, each_list, loads_go_on, stand_in_turn, delivers_by_the_shard}
use Rattle.krb_engine.proofs.ReceiptLemmas.{delivers_by_receipts, hears_as_a_copy, deleted_took_effect, seals_one_after_another}
use Rattle.krb_engine.proofs.ServiceLemmas.{nothing_stands_still, each_service_is_small, copies_are_few, repeats_are_rare, probes_are_rare}
use Rattle.krb_engine.proofs.laws.sending_laws.Goals as goal

pub returns : goal.returns
returns c = record {
  histories = each_run;
  lists = each_list;
  loads = loads_go_on;
  in_turn = stand_in_turn c.progress_laws.ensures.in_turn;
  delivers = delivers_by_the_shard c.delivery_laws.ensures.receipts;
  receipts = delivers_by_receipts;
  hears = hears_as_a_copy;
  deletes = deleted_took_effect c.copies_laws.ensures.delivered;
  seals = seals_one_after_another;
  stands = nothing_stands_still;
  small = each_service_is_small;
  few = copies_are_few;
  rare = repeats_are_rare;
  probes = probes_are_rare;
}
