-- Nothing was sent of what was not sealed, and a front of the wire where the worker stopped.
use Rattle.std.proofs.Common.{◌≡◌, length, refl, ap}
use Rattle.std.proofs.lemmas.Result.{IfErr-weaker, err_from_is_err_and}
use Rattle.krb_peers.specs.Sender.{records}
use Rattle.krb_peers.specs.Sending.{source_of, source_after}
use Rattle.krb_relay.specs.Sent.{IsAll, sealed_since}
use Rattle.krb_relay.proofs.SentLemmas.{cut_unsent, cut_wire, since_after}
use Rattle.krb_relay.proofs.worker.send_planned.Goals as goal

pub returns-in_err-wire-clause-cut : goal.returns-in_err-wire-clause-cut
returns-in_err-wire-clause-cut g c =
    let source = source_of g.S.Sealer.state c.args.sending.now in
    let after = source_of g.S.Sealer.state c.emit_sealed_within.new.sending in
    let p = err_from_is_err_and c.from_residual.result c.from_residual.ensures.1 in
    rw (p.1, p.2) (cut_unsent source after c.args.lane c.args.tx.now.frames c.in_err-wire.field-0.0 c.requires.fresh c.in_err-wire.ensures.stopped c.in_err-wire.ensures.err)

pub returns-clause-cut : goal.returns-clause-cut
returns-clause-cut g c =
    let source = source_of g.S.Sealer.state c.args.sending.now in
    let after = source_of g.S.Sealer.state c.emit_sealed_within.new.sending in
    let wire = c.in_ok-wire.wire in
    let whole : sealed_since source after ≡ length (records source) = since_after source (source_after (length (records source)) source) after _ refl (ap (λ s. s.sealer.next) c.in_ok-wire.ensures.source_after) in
    let all : IsAll source wire = record { live = c.in_ok-wire.ensures.live; emits = c.in_ok-wire.ensures.ok } in
    IfErr-weaker c.send_wire.result _ _
    (λ cause h. cut_wire source _ c.send_wire.new.tx.frames wire cause h.0 h.1 whole all)
    c.send_wire.ensures.stopped
