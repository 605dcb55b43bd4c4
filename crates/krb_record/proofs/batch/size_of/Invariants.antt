use Rattle.std.proofs.Common.{◌≡◌, take}
use Rattle.krb_record.specs.Batch.{texts_size}
use Rattle.krb_record.proofs.batch.size_of.Given as goal

abbrev pub invariant-loop-text : goal.invariant-loop-text
invariant-loop-text l = l.size ≡ texts_size (take l.text-index l.texts)
