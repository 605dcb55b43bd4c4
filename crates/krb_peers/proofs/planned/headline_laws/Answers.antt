use Rattle.std.proofs.Common.{refl, ◌∙◌}
use Rattle.krb_peers.specs.Sender.{records, sealed_groups}
use Rattle.krb_peers.specs.Planned.{attempt_of}
use Rattle.krb_peers.specs.Verdicts.{events_from}
use Rattle.krb_peers.proofs.ClaimLemmas.{frames_headline_of}
use Rattle.krb_peers.proofs.SourceLemmas.{paired_attempt, records_prefix, sealed_prefix, texts_of_records}
use Rattle.krb_peers.proofs.HeadlineLemmas.{delivered_prefix, quiet_after, refuses, refusal_nothing}
use Rattle.krb_peers.proofs.planned.headline_laws.Goals as goal

pub returns : goal.returns
returns c = record {
  delivered_prefix = λ run paired is honest. delivered_prefix run.verdicts (sealed_groups run.ends.source) (records_prefix run is paired honest);
  all_where_closed = λ run paired is honest closed.
      let source = run.ends.source in
      let all = frames_headline_of source.sealer (records source) 0 (attempt_of run) (events_from run.verdicts) is.judged refl in
      all.all_where_closed (paired_attempt run is paired honest) closed ∙ texts_of_records (sealed_groups source);
  sealed_only = λ run paired is none. sealed_prefix run is paired none;
  nothing_after_close = λ start nows took vs are. (let first = start.demand in quiet_after start.opener nows first 0 took vs are);
  refused_exactly = λ start nows took vs are. (let first = start.demand in refuses start.opener nows first took vs are);
  refusals_deliver_nothing = λ start vs. refusal_nothing start vs;
}
