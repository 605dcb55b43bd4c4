use Rattle.krb_peers.specs.Sending.{source_of}
use Rattle.krb_commands.proofs.OutputLemmas.{prefix_by_part}
use Rattle.krb_commands.proofs.SealedLemmas.{prefix_of_frames, prefix_of_sent, all_printed}
use Rattle.krb_commands.proofs.ShowLemmas.{on_err}
use Rattle.krb_commands.proofs.sealing.seal_job.Goals as goal

pub returns-in_err-print_wire-clause-prefix : goal.returns-in_err-print_wire-clause-prefix
returns-in_err-print_wire-clause-prefix g c =
    on_err _ c.from_residual.result (prefix_of_frames (source_of g.S.Sealer.state c.args.sending) c.in-Ok.wire c.in-Ok.ensures.ok (g.W.Write.contents c.args.writer.now) (g.W.Write.contents c.args.writer.now) _ (prefix_by_part _ _ _ c.in_err-print_wire.ensures.part))

pub returns-in_err-print_line-clause-prefix : goal.returns-in_err-print_line-clause-prefix
returns-in_err-print_line-clause-prefix g c =
    on_err _ c.from_residual-in_err-print_line.result
    (prefix_of_sent (source_of g.S.Sealer.state c.args.sending) c.in-Ok.wire c.in-Ok.ensures.ok _ _ _ c.in_ok-print_wire.ensures.printed
    c.sent-sent.result c.sent-sent.ensures.sent
    (prefix_by_part _ _ _ c.in_err-print_line.ensures.part))

pub returns-clause-printed : goal.returns-clause-printed
returns-clause-printed g c =
    all_printed (source_of g.S.Sealer.state c.args.sending) c.in-Ok.wire c.in-Ok.ensures.ok _ _ _ c.in_ok-print_wire.ensures.printed
    c.sent-sent.result c.sent-sent.ensures.sent
    c.in_ok-print_line.ensures.printed
