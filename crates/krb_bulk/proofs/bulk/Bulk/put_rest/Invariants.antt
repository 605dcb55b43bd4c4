use Rattle.std.proofs.Common.{◌≡◌}
use Rattle.krb_bulk.specs.BulkInside.{SealsFirst}
use Rattle.krb_bulk.proofs.bulk.Bulk.put_rest.Given as goal

abbrev pub invariant-loop-index : goal.invariant-loop-index
invariant-loop-index l = (l.index ≡ l.frames.len) × SealsFirst l.self l.frames.items
