use Rattle.krb_peers.specs.Sending.{source_of}
use Rattle.krb_commands.proofs.ParsedLemmas.{source_parsed, sealed_parsed, prefix_parsed}
use Rattle.krb_commands.proofs.jobs.seal_with.Goals as goal

pub returns-clause-printed : goal.returns-clause-printed
returns-clause-printed g c =
    sealed_parsed c.args.sender (g.S.Sealer.state c.args.sealer) (source_of g.S.Sealer.state c.sending_of-sending.result) c.seal_job.result _ _ c.requires.made c.sending_of-sending.ensures.source c.seal_job.ensures.printed

pub returns-clause-bad_plan : goal.returns-clause-bad_plan
returns-clause-bad_plan g c = λ bad named.
    let h = c.seal_job.ensures.bad_plan bad named in
    let source = source_of g.S.Sealer.state c.sending_of-sending.result in
    (h.0, (source, source_parsed c.args.sender (g.S.Sealer.state c.args.sealer) source c.requires.made c.sending_of-sending.ensures.source, h.1))

pub returns-clause-prefix : goal.returns-clause-prefix
returns-clause-prefix g c =
    prefix_parsed c.args.sender (g.S.Sealer.state c.args.sealer) (source_of g.S.Sealer.state c.sending_of-sending.result) c.seal_job.result _ _ c.requires.made c.sending_of-sending.ensures.source c.seal_job.ensures.prefix
