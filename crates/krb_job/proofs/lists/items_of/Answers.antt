use Rattle.std.proofs.Common.{arith}
use Rattle.std.proofs.lemmas.Grind.{common_steps}
use Rattle.std.proofs.lemmas.Bool.Decides.{nat_tests}
use Rattle.krb_job.proofs.DataLemmas.{items_of-array}
use Rattle.krb_job.proofs.lists.items_of.Goals as goal
use Rattle.krb_job.proofs.lists.items_of.Goals.{else-low-len-via-then-low-len+else-len-high, else-low-len-via-else-low-len}

pub returns-then-len-high : goal.returns-then-len-high
returns-then-len-high c =
    rw (items_of-array c.args.low c.args.high c.in_ok-items.items.now.items _ c.in_ok-items.ensures) (grind (arith, nat_tests, common_steps))

pub returns-else-low-len : goal.returns-else-low-len
returns-else-low-len c =
    rw (items_of-array c.args.low c.args.high c.in_ok-items.items.now.items _ c.in_ok-items.ensures) (elim c.else-low-len.branch [
      | else-low-len-via-then-low-len+else-len-high w ↦ grind (arith, nat_tests, common_steps)
      | else-low-len-via-else-low-len w ↦ grind (arith, nat_tests, common_steps)
    ])
