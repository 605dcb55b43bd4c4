-- Frame after frame, each sent before the next is sealed.
use Rattle.std.proofs.Common.{◌≡◌, ◌+◌, ◌≤◌, ◌++◌, ◌∷◌, [], length, true, false, ap, sym, refl, ◌∙◌, arith, rules}
use Rattle.std.proofs.lemmas.Result.{err_from_is_err_and}
use Rattle.krb_peers.specs.Sender.{records, texts_before}
use Rattle.krb_peers.specs.Sending.{source_of}
use Rattle.krb_relay.specs.Sent.{sealed_since}
use Rattle.krb_relay.proofs.SentLemmas.{front_unplanned, cut_lost, cut_sealing, later_after}
use Rattle.krb_peers.proofs.ListLemmas.{AllBytes-push}
use Rattle.krb_relay.proofs.worker.seal_and_send.Goals as goal

pub seal_one-requires-clause-passed : goal.seal_one-requires-clause-passed
seal_one-requires-clause-passed g c =
    c.loop-k.invariant.passed ∙ ap (λ s. texts_before c.loop-k.k s) (sym c.loop-k.invariant.sealed.state)

pub loop-k-preserved : goal.loop-k-preserved
loop-k-preserved g c =
    let sent : c.send.new.self.frames ≡ c.loop-k.tx.frames ++ c.in_ok-frame.frame.items ∷ [] = search rules in
    record {
      passed = c.in_ok-frame.ensures.passed ∙ ap (λ s. texts_before (c.loop-k.k + 1) s) c.loop-k.invariant.sealed.state;
      sealed = rw sent (c.in_ok-frame.ensures.frames _ _ c.loop-k.invariant.sealed);
      bytes = rw sent (AllBytes-push _ _ c.loop-k.invariant.bytes c.in_ok-frame.ensures.bytes);
      none_if_wiped = λ wiped.
          let still : (g.S.Sealer.state c.loop-k.sending.sealer).wiped ≡ true = ap (λ s. s.sealer.wiped) c.loop-k.invariant.sealed.state ∙ wiped in
          absurd (let e : true ≡ false = sym still ∙ c.in_ok-frame.ensures.live in cc);
      lane = search rules;
    }

pub returns-in_err-frame-clause-cut : goal.returns-in_err-frame-clause-cut
returns-in_err-frame-clause-cut g c =
    let source = source_of g.S.Sealer.state c.args.sending.now in
    let now = source_of g.S.Sealer.state c.loop-k.sending in
    let after = source_of g.S.Sealer.state c.seal_one.new.sending in
    let few : c.loop-k.k ≤ length (records source) = omega arith in
    let p = err_from_is_err_and c.from_residual.result c.from_residual.ensures.1 in
    rw (p.1, p.2)
    (cut_sealing source now after c.loop-k.k c.loop-k.tx.frames c.in_err-frame.field-0.0 c.requires.unplanned c.loop-k.invariant.sealed few
    (ap (λ s. s.next) c.in_err-frame.ensures.unchanged) c.in_err-frame.ensures.cause c.loop-k.invariant.none_if_wiped)

pub returns-then-is_err-clause-cut : goal.returns-then-is_err-clause-cut
returns-then-is_err-clause-cut g c =
    let source = source_of g.S.Sealer.state c.args.sending.now in
    let now = source_of g.S.Sealer.state c.seal_one.new.sending in
    let last = c.in_ok-frame.frame.items ∷ [] in
    let few : c.loop-k.k + 1 ≤ length (records source) = omega arith in
    let same : c.send.new.self.frames ≡ c.loop-k.tx.frames = search rules in
    cut_lost source (sealed_since source now) c.send.new.self.frames
    (front_unplanned source now now (c.loop-k.k + 1) (c.loop-k.tx.frames ++ last) c.send.new.self.frames c.requires.unplanned
    (last, ap (λ fs. fs ++ last) (sym same)) (c.in_ok-frame.ensures.frames _ _ c.loop-k.invariant.sealed) few refl)

pub returns-then-is_err-clause-later : goal.returns-then-is_err-clause-later
returns-then-is_err-clause-later g c =
    let source = source_of g.S.Sealer.state c.args.sending.now in
    let now = source_of g.S.Sealer.state c.seal_one.new.sending in
    later_after source now now (c.loop-k.k + 1) (c.in_ok-frame.ensures.frames _ _ c.loop-k.invariant.sealed).state refl
