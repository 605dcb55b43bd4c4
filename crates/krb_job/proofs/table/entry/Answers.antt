use Rattle.std.proofs.Common.{ℕ, List, ap, ◌∙◌}
use Rattle.toml.specs.Data.{get_member}
use Rattle.toml.specs.View.{table_view}
use Rattle.krb_job.proofs.table.entry.Goals as goal

pub returns : goal.returns
returns c = c.get.ensures ∙ ap (λ (key : List ℕ). get_member key (table_view c.args.table.now)) c.name.ensures
