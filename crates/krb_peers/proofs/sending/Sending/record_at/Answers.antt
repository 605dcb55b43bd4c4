use Rattle.std.proofs.Common.{◌≢◌, [], rules}
use Rattle.std.proofs.lemmas.Result.{IfOk-weaker}
use Rattle.krb_record.specs.Record.{FitsLimits, record_for}
use Rattle.krb_record.proofs.RecordLemmas.{short_record}
use Rattle.krb_peers.proofs.sending.Sending.record_at.Goals as goal

pub returns-clause-short : goal.returns-clause-short
returns-clause-short g c =
    let group = c.args.group.now in
    let some : group ≢ [] = search rules in
    let fits : FitsLimits (record_for group) = c.requires some in
    IfOk-weaker c.group_bytes.result _ _ (λ bytes is. short_record bytes.items (record_for group) (fits, is)) c.group_bytes.ensures
