use Rattle.std.proofs.Common.{◌≡◌, ◌≤◌, ◌-◌, length}
use Rattle.krb_peers.specs.Sender.{Source, text_groups, texts_before}
use Rattle.krb_peers.specs.Sending.{source_of}
use Rattle.krb_peers.proofs.sending.Sending.sealed.Given as goal

-- so many groups are passed, and their texts
abbrev pub invariant-loop-groups : goal.invariant-loop-groups
invariant-loop-groups g l =
    let source : Source = source_of g.S.Sealer.state l.fn.self in
    (l.passed ≡ texts_before l.groups source) × (l.groups ≤ length (text_groups source)) × (l.groups ≤ l.left)

abbrev pub decreases-loop-groups : goal.decreases-loop-groups
decreases-loop-groups g l = l.left - l.groups
