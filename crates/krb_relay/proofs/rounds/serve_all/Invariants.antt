use Rattle.std.proofs.Common.{◌≡◌, map}
use Rattle.krb_relay.specs.Gathering.{lane_of}
use Rattle.krb_relay.specs.Serving.{Stands}
use Rattle.krb_relay.proofs.rounds.serve_all.Given as goal

abbrev pub invariant-loop : goal.invariant-loop
invariant-loop g l = record {
  stands : Stands 0 l.fn.starts.value.items l.ends l.receivings l.log;
  same : map lane_of l.ends ≡ map lane_of l.initial.ends;
}
