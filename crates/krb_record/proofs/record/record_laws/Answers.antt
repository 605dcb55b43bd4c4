use Rattle.krb_record.proofs.RecordLemmas.{one_record, short_record}
use Rattle.krb_record.proofs.record.record_laws.Goals as goal

pub returns-clause-one : goal.returns-clause-one
returns-clause-one c = one_record

pub returns-clause-short : goal.returns-clause-short
returns-clause-short c = short_record
