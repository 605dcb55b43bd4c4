use Rattle.std.proofs.Common.{◌≡◌, drop}
use Rattle.toml.specs.View.{items_view}
use Rattle.krb_job.specs.Lists.{each}
use Rattle.krb_job.specs.Values.{bytes_of}
use Rattle.krb_job.proofs.ListLemmas.{joined}
use Rattle.krb_job.proofs.lists.each_bytes.Given as goal

abbrev pub invariant-loop-item : goal.invariant-loop-item
invariant-loop-item l = each (bytes_of 0 l.high) (items_view l.items) ≡ joined l.texts.items (each (bytes_of 0 l.high) (items_view (drop l.item-index l.items)))
