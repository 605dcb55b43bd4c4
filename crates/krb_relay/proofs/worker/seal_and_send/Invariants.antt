use Rattle.std.proofs.Common.{◌≡◌, true}
use Rattle.krb_peers.specs.Sender.{texts_before}
use Rattle.krb_peers.specs.Sending.{source_of, HasSealed}
use Rattle.krb_peers.specs.Verdicts.{AllBytes}
use Rattle.krb_relay.proofs.worker.seal_and_send.Given as goal

abbrev pub invariant-loop-k : goal.invariant-loop-k
invariant-loop-k g l = record {
  passed : l.passed ≡ texts_before l.k (source_of g.S.Sealer.state l.fn.sending);
  sealed : HasSealed (source_of g.S.Sealer.state l.fn.sending) l.k l.tx.frames (source_of g.S.Sealer.state l.sending);
  bytes : AllBytes l.tx.frames;
  none_if_wiped : (g.S.Sealer.state l.fn.sending.sealer).wiped ≡ true → l.k ≡ 0;
  lane : l.tx.lane ≡ l.fn.tx.lane;
}
