use Rattle.std.proofs.Common.{◌≡◌, ◌*◌, ◌≤◌, length}
use Rattle.krb_bulk.specs.BulkInside.{SealsFirst}
use Rattle.krb_bulk.proofs.bulk.Bulk.put_eights.Given as goal

abbrev pub invariant-loop : goal.invariant-loop
invariant-loop l =
    (l.frames.len ≡ 8 * l.counter) × (8 * l.end ≤ length l.self.messages.now)
    × SealsFirst l.self l.frames.items
