-- Each turn passes the texts of one group more.
use Rattle.std.proofs.Common.{◌≡◌, ◌<◌, ◌≤◌, ◌+◌, length, drop, take, ap, sym, ◌∙◌, rules, arith}
use Rattle.krb_record.specs.Groups.{IsFirstGroup}
use Rattle.krb_peers.specs.Sender.{Source, text_groups, texts_of_groups, sealed_count}
use Rattle.krb_peers.specs.Sending.{source_of}
use Rattle.krb_peers.proofs.ListLemmas.{length-take}
use Rattle.krb_peers.proofs.SendingLemmas.{group_left, none_left_of, passed_more, first_group_length}
use Rattle.krb_peers.proofs.sending.Sending.sealed.Goals as goal

pub loop-groups-preserved : goal.loop-groups-preserved
loop-groups-preserved g c =
    let source : Source = source_of g.S.Sealer.state c.args.self.now in
    let k = c.loop-groups.groups in
    let passed = c.loop-groups.passed in
    let before = c.loop-groups.invariant in
    let below : passed < length source.texts = search rules in
    let following : c.texts_after.result.now ≡ drop passed source.texts = search rules in
    let first : IsFirstGroup source.batch (drop passed source.texts) c.group_end-passed.result = rw following at c.group_end-passed.ensures in
    let long = first_group_length source passed c.group_end-passed.result below first in
    let more = passed_more source k passed before.0 in
    let there = group_left source k passed before.0 below in
    let left : k < c.saturating_sub-left.result = search rules in
    (ap (λ n. passed + n) (sym long) ∙ more, omega (arith, there), omega (arith, left))

pub returns-else-passed-len-clause-groups : goal.returns-else-passed-len-clause-groups
returns-else-passed-len-clause-groups g c =
    let source : Source = source_of g.S.Sealer.state c.args.self.now in
    let before = c.loop-groups.invariant in
    let past : length source.texts ≤ c.loop-groups.passed = search rules in
    let none = none_left_of source c.loop-groups.groups c.loop-groups.passed before.0 past in
    let some = before.1 in
    let most = before.2 in
    let left = c.saturating_sub-left.ensures in
    omega (arith, none, some, most, left, length-take (sealed_count source.sealer.next (length (text_groups source))) (text_groups source))

pub returns-else-passed-len-clause-texts : goal.returns-else-passed-len-clause-texts
returns-else-passed-len-clause-texts g c =
    let source : Source = source_of g.S.Sealer.state c.args.self.now in
    let before = c.loop-groups.invariant in
    let past : length source.texts ≤ c.loop-groups.passed = search rules in
    let none = none_left_of source c.loop-groups.groups c.loop-groups.passed before.0 past in
    let some = before.1 in
    let most = before.2 in
    let left = c.saturating_sub-left.ensures in
    let all : c.loop-groups.groups ≡ sealed_count source.sealer.next (length (text_groups source)) = omega (arith, none, some, most, left) in
    before.0 ∙ ap (λ n. length (texts_of_groups (take n (text_groups source)))) all
