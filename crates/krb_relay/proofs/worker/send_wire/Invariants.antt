use Rattle.std.proofs.Common.{◌≡◌, take}
use Rattle.krb_relay.proofs.worker.send_wire.Given as goal

abbrev pub invariant-loop-k : goal.invariant-loop-k
invariant-loop-k g l = record {
  sent : l.tx.frames ≡ take l.k l.wire;
  lane : l.tx.lane ≡ l.fn.tx.lane;
}
