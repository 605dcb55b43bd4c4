use Rattle.std.proofs.Common.{ℕ, ◌≤◌, subst}
use Rattle.toml.specs.View.{table_view}
use Rattle.krb_job.specs.declared.place.Place.TheVariants.{From, To}
use Rattle.krb_job.proofs.SenderLimits.{address-short}
use Rattle.krb_job.proofs.sender.read_parties.Goals as goal

pub invariant_of-result : goal.invariant_of-result
invariant_of-result c = record {
  from_short = address-short From (table_view c.args.table.now) c.in_ok-from.from c.in_ok-from.ensures;
  to_short = address-short To (table_view c.args.table.now) c.in_ok-to.to c.in_ok-to.ensures;
  skew_fits = subst (λ (limit : ℕ). c.in_ok-skew.skew ≤ limit) c.from.ensures c.in_ok-skew.ensures.high;
}
