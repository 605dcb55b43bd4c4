use Rattle.std.proofs.Common.{take}
use Rattle.std.specs.Prelude.{All}
use Rattle.krb_relay.specs.Waiting.{HaveTaken, IsUnjudged}
use Rattle.krb_relay.proofs.waiting.none_waiting.Given as goal

abbrev pub invariant-loop-rx : goal.invariant-loop-rx
invariant-loop-rx l = record {
  taken : HaveTaken (take l.rx-index l.ends) (take l.rx-index l.ends) l.all.items;
  unjudged : All IsUnjudged l.all.items;
}
