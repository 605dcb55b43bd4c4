-- An emission more, and what was sent until the worker stopped.
use Rattle.std.proofs.Common.{◌≡◌, ◌++◌, ◌∷◌, [], inl, inr, refl, ap, sym, ◌∙◌, rules}
use Rattle.krb_relay.proofs.SentLemmas.{sent_more, sent_front}
use Rattle.krb_relay.proofs.worker.send_wire.Goals as goal

pub loop-k-preserved : goal.loop-k-preserved
loop-k-preserved g c =
    let sent : c.send.new.self.frames ≡ c.loop-k.tx.frames ++ c.in-Ok.frame.items ∷ [] = search rules in
    record {
      sent = sent ∙ ap (λ l. l ++ c.in-Ok.frame.items ∷ []) c.loop-k.invariant.sent ∙ sym (sent_more c.args.wire.now c.loop-k.k c.in-Ok.frame.items c.in-Ok.ensures);
      lane = search rules;
    }

pub returns-then-is_err-clause-stopped : goal.returns-then-is_err-clause-stopped
returns-then-is_err-clause-stopped g c =
    let same : c.send.new.self.frames ≡ c.loop-k.tx.frames = search rules in
    (inr refl, sent_front c.args.wire.now c.send.new.self.frames c.loop-k.k (same ∙ c.loop-k.invariant.sent))

pub returns-in_default-clause-stopped : goal.returns-in_default-clause-stopped
returns-in_default-clause-stopped g c =
    (inl refl, sent_front c.args.wire.now c.loop-k.tx.frames c.loop-k.k c.loop-k.invariant.sent)
