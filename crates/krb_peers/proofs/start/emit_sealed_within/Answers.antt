-- What is emitted is the wire, or the plan is bad.
use Rattle.std.proofs.Common.{option_map, refl, ap, sym, ◌∙◌, arith}
use Rattle.std.proofs.lemmas.Grind.{common_steps}
use Rattle.krb_peers.specs.Plan.{contents}
use Rattle.krb_peers.specs.Sending.{source_of}
use Rattle.krb_peers.specs.Sender.{AreFrames, records}
use Rattle.krb_peers.proofs.WireLemmas.{wire_of, bad_by}
use Rattle.krb_peers.proofs.start.emit_sealed_within.Goals as goal

pub returns-in-Some-clause-ok : goal.returns-in-Some-clause-ok
returns-in-Some-clause-ok g c =
    let source = source_of g.S.Sealer.state c.args.sending.now in
    let frames = contents c.in-Ok.frames.items in
    let sealed : AreFrames source (records source) frames = let h = c.in-Ok.ensures.frames in record { one_each = h.one_each; each = h.each } in
    wire_of source (option_map (λ p. p.items) c.take.result) (ap (λ o. option_map (λ p. p.items) o) (sym (c.take.ensures.value ∙ c.seal_all_within.ensures.plan))) frames sealed
    c.in-Some.wire c.in-Some.ensures.planned c.in-Some.ensures.value (c.in-Some.ensures.bytes c.in-Ok.ensures.bytes) c.requires.limits

pub returns-in-None-clause-err : goal.returns-in-None-clause-err
returns-in-None-clause-err g c =
    let source = source_of g.S.Sealer.state c.args.sending.now in
    let frames = contents c.in-Ok.frames.items in
    let sealed : AreFrames source (records source) frames = let h = c.in-Ok.ensures.frames in record { one_each = h.one_each; each = h.each } in (
      refl,
      grind (arith, common_steps),
      bad_by source (option_map (λ p. p.items) c.take.result) (ap (λ o. option_map (λ p. p.items) o) (sym (c.take.ensures.value ∙ c.seal_all_within.ensures.plan))) frames sealed c.in-None.ensures.bad,
    )
