use Rattle.krb_engine.proofs.LivenessLemmas.{rounds_deliver, good_rounds_happen, all_is_done, wakes_are_to_come, stopped_hold_no_room, idle_is_done, asks_are_heeded, refusals_are_told, more_may_be_sealed}
use Rattle.krb_engine.proofs.laws.liveness_laws.Goals as goal

pub returns : goal.returns
returns c = record {
  rounds = rounds_deliver;
  happen = good_rounds_happen;
  all = all_is_done;
  wakes = wakes_are_to_come;
  stopped = stopped_hold_no_room;
  idle = idle_is_done;
  heeds = asks_are_heeded;
  told = refusals_are_told;
  seals = more_may_be_sealed;
}
