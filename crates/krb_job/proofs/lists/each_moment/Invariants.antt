use Rattle.std.proofs.Common.{◌≡◌, drop}
use Rattle.toml.specs.View.{items_view}
use Rattle.krb_job.specs.Lists.{each, moment_of}
use Rattle.krb_job.proofs.ListLemmas.{joined}
use Rattle.krb_job.proofs.lists.each_moment.Given as goal

abbrev pub invariant-loop-item : goal.invariant-loop-item
invariant-loop-item l = each moment_of (items_view l.items) ≡ joined l.moments.items (each moment_of (items_view (drop l.item-index l.items)))
