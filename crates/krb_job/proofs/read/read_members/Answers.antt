use Rattle.toml.specs.View.{array_view, table_view}
use Rattle.krb_job.proofs.JobLimits.{capacity_fits, senders_fit}
use Rattle.krb_job.proofs.read.read_members.Goals as goal

pub invariant_of-result-clause-capacity_fits : goal.invariant_of-result-clause-capacity_fits
invariant_of-result-clause-capacity_fits c = (capacity_fits (table_view c.args.table.now) c.in_ok-capacity.capacity c.in_ok-capacity.ensures).1

pub invariant_of-result-clause-has_capacity : goal.invariant_of-result-clause-has_capacity
invariant_of-result-clause-has_capacity c = (capacity_fits (table_view c.args.table.now) c.in_ok-capacity.capacity c.in_ok-capacity.ensures).0

pub invariant_of-result-clause-senders_fit : goal.invariant_of-result-clause-senders_fit
invariant_of-result-clause-senders_fit c =
    let read = rw c.as_slice.ensures.value at c.in_ok-senders.ensures.value in
    (senders_fit c.args.command (table_view c.args.table.now) (array_view c.in_ok-items.items.now) c.in_ok-senders.senders.items c.in_ok-items.ensures read).1

pub invariant_of-result-clause-has_sender : goal.invariant_of-result-clause-has_sender
invariant_of-result-clause-has_sender c =
    let read = rw c.as_slice.ensures.value at c.in_ok-senders.ensures.value in
    (senders_fit c.args.command (table_view c.args.table.now) (array_view c.in_ok-items.items.now) c.in_ok-senders.senders.items c.in_ok-items.ensures read).0
