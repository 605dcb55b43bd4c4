use Rattle.std.proofs.Common.{ℕ, List, IsTrue, subst, rules}
use Rattle.krb_record.specs.Record.{SpellsRecord}
use Rattle.krb_record.specs.declared.record.Record.TheVariants.{Text}
use Rattle.krb_record.proofs.RecordLemmas.{bad-ok}
use Rattle.krb_record.proofs.record.into_record.Goals as goal

pub returns-then-is_text-clause-bad : goal.returns-then-is_text-clause-bad
returns-then-is_text-clause-bad c =
    let is : IsTrue c.is_text.result = search rules in
    let text = c.is_text.ensures.0 is in
    let P : List ℕ → Type 0 = λ bytes. SpellsRecord (Text text.0) bytes in
    bad-ok _ c.args.bytes (Text text.0) (subst P c.as_slice.ensures text.1)
