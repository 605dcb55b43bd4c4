use Rattle.std.proofs.Common.{◌≡◌, ◌≤◌, take}
use Rattle.krb_base.specs.Limits.{batch_size_limit}
use Rattle.krb_record.specs.Batch.{texts_size}
use Rattle.krb_record.proofs.groups.group_end.Given as goal

-- the texts so far fit
abbrev pub invariant-loop-i : goal.invariant-loop-i
invariant-loop-i l = (l.i ≤ l.batch) × (l.size ≡ texts_size (take l.i l.texts)) × (l.size ≤ batch_size_limit)
