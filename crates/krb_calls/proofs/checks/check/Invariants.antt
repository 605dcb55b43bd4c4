use Rattle.std.proofs.Common.{◌≡◌, ◌+◌, ◌≤◌, take}
use Rattle.krb_seal.specs.Sealer.{end_of_numbers}
use Rattle.krb_calls.specs.Many.{AreSealable}
use Rattle.krb_calls.proofs.checks.check.Given as goal

abbrev pub invariant-loop-index : goal.invariant-loop-index
invariant-loop-index l =
    AreSealable l.sealer (take l.index l.messages) × (l.is_wiped ≡ l.sealer.wiped)
    × (l.number ≡ l.sealer.next + l.index) × (l.number ≤ end_of_numbers)
