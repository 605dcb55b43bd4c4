use Rattle.std.proofs.Common.{map, ap, ◌∙◌}
use Rattle.toml.specs.View.{table_view}
use Rattle.krb_job.specs.Place.{sender_keys}
use Rattle.krb_job.specs.Keys.{has_only}
use Rattle.krb_job.proofs.sender.has_sender_keys.Goals as goal

pub returns : goal.returns
unfolding sender_keys
returns c = c.has_only.ensures ∙ ap (λ keys. has_only (map (λ k. k.now) keys) (table_view c.args.table.now)) c.as_slice.ensures
