use Rattle.std.proofs.Common.{◌≡◌, Some, codes, arith}
use Rattle.std.proofs.lemmas.Grind.{common_steps}
use Rattle.toml.specs.Data.{as_array, get_member}
use Rattle.toml.specs.View.{view, array_view, table_view}
use Rattle.krb_job.proofs.TreeLemmas.{senders-array}
use Rattle.krb_job.proofs.tree.sender_items.Goals as goal

pub returns-then-are_senders : goal.returns-then-are_senders
returns-then-are_senders c =
    let there : get_member (codes "sender") (table_view c.args.table.now) ≡ Some (view c.in_ok-value.value.now) = grind (arith, common_steps) in
    let list : as_array (view c.in_ok-value.value.now) ≡ Some (array_view c.in_ok-items.items.now) = grind (arith, common_steps) in
    rw (there, senders-array c.args.command _ _ list) (grind (arith, common_steps))

pub returns-else-are_senders : goal.returns-else-are_senders
returns-else-are_senders c =
    let there : get_member (codes "sender") (table_view c.args.table.now) ≡ Some (view c.in_ok-value.value.now) = grind (arith, common_steps) in
    let list : as_array (view c.in_ok-value.value.now) ≡ Some (array_view c.in_ok-items.items.now) = grind (arith, common_steps) in
    rw (there, senders-array c.args.command _ _ list) (grind (arith, common_steps))
