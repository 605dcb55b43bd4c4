-- Frame after frame, and none under a wiped sealer.
use Rattle.std.proofs.Common.{◌≡◌, ◌+◌, ◌++◌, ◌∷◌, [], true, IsErr, ap, sym, refl, ◌∙◌, arith, rules}
use Rattle.std.proofs.lemmas.Grind.{common_steps}
use Rattle.std.proofs.lemmas.List.{map-append}
use Rattle.std.proofs.lemmas.Result.{err_from_is_err_and}
use Rattle.krb_peers.specs.Sender.{texts_before}
use Rattle.krb_peers.specs.Sending.{source_of, HasSealed}
use Rattle.krb_peers.proofs.ListLemmas.{AllBytes-push}
use Rattle.krb_peers.proofs.SendingLemmas.{length-records, stands_after}
use Rattle.krb_peers.proofs.sending.Sending.seal_all_within.Goals as goal

pub seal_record-sealed-requires-clause-passed : goal.seal_record-sealed-requires-clause-passed
seal_record-sealed-requires-clause-passed g c =
    c.loop-k.invariant.passed ∙ ap (λ s. texts_before c.loop-k.k s) (sym c.loop-k.invariant.sealed.state)

pub loop-k-preserved : goal.loop-k-preserved
loop-k-preserved g c =
    let pushed : c.push.new.self.items ≡ c.loop-k.frames.items ++ c.in_ok-frame.frame ∷ [] = search rules in
    record {
      passed = c.in_ok-frame.ensures.passed ∙ ap (λ s. texts_before (c.loop-k.k + 1) s) c.loop-k.invariant.sealed.state;
      sealed = rw (pushed, map-append) (c.in_ok-frame.ensures.frames _ _ c.loop-k.invariant.sealed);
      bytes = rw (pushed, map-append) (AllBytes-push _ _ c.loop-k.invariant.bytes (rw c.as_slice.ensures.value at c.known_bytes.ensures));
      none_if_wiped = λ wiped.
          let still : (g.S.Sealer.state c.loop-k.self.sealer).wiped ≡ true = ap (λ s. s.sealer.wiped) c.loop-k.invariant.sealed.state ∙ wiped in
          let failed : IsErr c.seal_record-sealed.result = c.seal_record-sealed.ensures.wiped still in
          absurd (search rules);
      texts = c.seal_record-sealed.ensures.texts ∙ c.loop-k.invariant.texts;
      batch = c.seal_record-sealed.ensures.batch ∙ c.loop-k.invariant.batch;
      ats = c.seal_record-sealed.ensures.ats ∙ c.loop-k.invariant.ats;
      plan = c.seal_record-sealed.ensures.plan ∙ c.loop-k.invariant.plan;
    }

pub returns : goal.returns
returns g c = record {
  frames = grind (arith, common_steps);
  bytes = search rules;
  source_after = grind (arith, common_steps);
  stopped = search rules;
  wiped = λ wiped.
      let none = c.loop-k.invariant.none_if_wiped wiped in
      let some = length-records (source_of g.S.Sealer.state c.args.self.now) in
      absurd (omega (arith, c.records-count.ensures));
  errors = search rules;
  texts = search rules;
  batch = search rules;
  ats = search rules;
  plan = search rules;
}

pub returns-in_err-frame : goal.returns-in_err-frame
returns-in_err-frame g c =
    let source = source_of g.S.Sealer.state c.args.self.now in
    let now = source_of g.S.Sealer.state c.loop-k.self in
    let p = err_from_is_err_and c.from_residual-in_err-frame.result c.from_residual-in_err-frame.ensures.1 in
    record {
      frames = search rules;
      bytes = search rules;
      source_after = search rules;
      stopped = rw p.1 (stands_after source now c.loop-k.k _ _ c.loop-k.invariant.sealed (omega (arith, c.records-count.ensures)) c.in_err-frame.ensures.unchanged);
      wiped = search rules;
      errors = search rules;
      texts = search rules;
      batch = search rules;
      ats = search rules;
      plan = search rules;
    }

pub returns-in_err-map_err : goal.returns-in_err-map_err
returns-in_err-map_err g c =
    let source = source_of g.S.Sealer.state c.args.self.now in
    let now = source_of g.S.Sealer.state c.seal_record-sealed.new.self in
    let p = err_from_is_err_and c.from_residual-in_err-map_err.result c.from_residual-in_err-map_err.ensures.1 in
    record {
      frames = search rules;
      bytes = search rules;
      source_after = search rules;
      stopped = rw p.1 (stands_after source now (c.loop-k.k + 1) _ _ (c.in_ok-frame.ensures.frames _ _ c.loop-k.invariant.sealed) (omega (arith, c.records-count.ensures)) refl);
      wiped = search rules;
      errors = search rules;
      texts = search rules;
      batch = search rules;
      ats = search rules;
      plan = search rules;
    }

pub returns-in_err-frames : goal.returns-in_err-frames
returns-in_err-frames g c =
    let source = source_of g.S.Sealer.state c.args.self.now in
    let none : HasSealed source 0 [] source = grind (arith, common_steps) in
    let p = err_from_is_err_and c.from_residual.result c.from_residual.ensures.1 in
    record {
      frames = search rules;
      bytes = search rules;
      source_after = search rules;
      stopped = rw p.1 (stands_after source source 0 [] _ none (omega arith) refl);
      wiped = search rules;
      errors = search rules;
      texts = search rules;
      batch = search rules;
      ats = search rules;
      plan = search rules;
    }
