use Rattle.std.proofs.Common.{◌≡◌, ◌++◌, length}
use Rattle.std.specs.List.{flat_map}
use Rattle.krb_record.specs.Batch.{text_bytes}
use Rattle.krb_record.proofs.batch.take_texts.Given as goal

-- what is passed are the texts that were taken
abbrev pub invariant-loop-text : goal.invariant-loop-text
invariant-loop-text l = l.fn.bytes ≡ flat_map text_bytes l.texts.items ++ l.rest

abbrev pub decreases-loop-text : goal.decreases-loop-text
decreases-loop-text l = length l.rest
