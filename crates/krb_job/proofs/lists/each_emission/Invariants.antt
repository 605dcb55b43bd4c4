use Rattle.std.proofs.Common.{◌≡◌, drop}
use Rattle.toml.specs.View.{items_view}
use Rattle.krb_job.specs.Lists.{each}
use Rattle.krb_job.specs.Emission.{emission_of}
use Rattle.krb_job.proofs.ListLemmas.{joined}
use Rattle.krb_job.proofs.lists.each_emission.Given as goal

abbrev pub invariant-loop-item : goal.invariant-loop-item
invariant-loop-item l = each emission_of (items_view l.items) ≡ joined l.plan.items (each emission_of (items_view (drop l.item-index l.items)))
