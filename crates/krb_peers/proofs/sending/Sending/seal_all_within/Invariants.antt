use Rattle.std.proofs.Common.{◌≡◌, true}
use Rattle.krb_peers.specs.Plan.{contents}
use Rattle.krb_peers.specs.Sender.{texts_before}
use Rattle.krb_peers.specs.Sending.{source_of, HasSealed}
use Rattle.krb_peers.specs.Verdicts.{AllBytes}
use Rattle.krb_peers.proofs.sending.Sending.seal_all_within.Given as goal

abbrev pub invariant-loop-k : goal.invariant-loop-k
invariant-loop-k g l = record {
  passed : l.passed ≡ texts_before l.k (source_of g.S.Sealer.state l.fn.self);
  sealed : HasSealed (source_of g.S.Sealer.state l.fn.self) l.k (contents l.frames.items) (source_of g.S.Sealer.state l.self);
  bytes : AllBytes (contents l.frames.items);
  none_if_wiped : (g.S.Sealer.state l.fn.self.sealer).wiped ≡ true → l.k ≡ 0;
  texts : l.self.texts ≡ l.fn.self.texts;
  batch : l.self.batch ≡ l.fn.self.batch;
  ats : l.self.ats ≡ l.fn.self.ats;
  plan : l.self.plan ≡ l.fn.self.plan;
}
