use Rattle.std.proofs.Common.{◌≡◌, ◌++◌, ℕ, List, length}
use Rattle.std.specs.List.{flat_map}
use Rattle.krb_record.specs.Batch.{text_bytes}
use Rattle.krb_record.proofs.batch.count_texts.Given as goal

-- what is passed are so many texts
abbrev pub invariant-loop-after : goal.invariant-loop-after
invariant-loop-after l = (texts : List (List ℕ)) × (l.fn.bytes ≡ flat_map text_bytes texts ++ l.rest) × (length texts ≡ l.count)

abbrev pub decreases-loop-after : goal.decreases-loop-after
decreases-loop-after l = length l.rest
