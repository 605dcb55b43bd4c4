use Rattle.krb_record.proofs.RecordLemmas.{text_has, batch_has}
use Rattle.krb_record.proofs.record.RecordKind.has.Goals as goal

pub returns-in-Text : goal.returns-in-Text
returns-in-Text c = text_has c.args.self c.args.body.now c.in-Text.is

pub returns-in-Batch : goal.returns-in-Batch
returns-in-Batch c = batch_has c.args.self c.args.body.now c.is_batch_body.result c.in-Batch.is c.is_batch_body.ensures
