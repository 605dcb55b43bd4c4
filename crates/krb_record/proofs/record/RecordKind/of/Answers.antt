use Rattle.std.proofs.Common.{refl}
use Rattle.krb_record.specs.declared.record.Record.TheVariants.{Text, Batch}
use Rattle.krb_record.proofs.record.RecordKind.of.Goals as goal

pub returns-then-is_text-clause-some : goal.returns-then-is_text-clause-some
returns-then-is_text-clause-some c =
    let is = c.is_text.ensures.0 c.if-is_text.true in
    (Text is.0, is.1, refl)

pub returns-then-is_batch-clause-some : goal.returns-then-is_batch-clause-some
returns-then-is_batch-clause-some c =
    let is = c.is_batch.ensures.0 c.if-is_batch.true in
    (Batch is.0, is.1, refl)
