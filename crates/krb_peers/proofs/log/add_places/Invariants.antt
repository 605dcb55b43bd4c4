use Rattle.std.proofs.Common.{◌≡◌, ◌≤◌, ◌+◌, ◌-◌, ◌++◌, vec_len, vec_capacity}
use Rattle.std.specs.List.{range_with_len}
use Rattle.krb_peers.proofs.log.add_places.Given as goal

-- so many places are added, and there is room for the others
abbrev pub invariant-loop-i : goal.invariant-loop-i
invariant-loop-i l =
    (l.places.items ≡ l.fn.places.items ++ range_with_len l.fn.first l.i) × (vec_len l.places + (l.count - l.i) ≤ vec_capacity l.places)
