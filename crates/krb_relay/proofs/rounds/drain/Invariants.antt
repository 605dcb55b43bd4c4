use Rattle.std.specs.List.{AllZip}
use Rattle.krb_relay.specs.Serving.{Drains}
use Rattle.krb_relay.proofs.rounds.drain.Given as goal

abbrev pub invariant-loop-lane : goal.invariant-loop-lane
invariant-loop-lane g l = AllZip Drains l.initial.ends l.ends
