use Rattle.toml.specs.View.{view, table_view}
use Rattle.krb_job.specs.Address.{address_of}
use Rattle.krb_job.proofs.FailLemmas.{err_needed, of_needed}
use Rattle.krb_job.proofs.table.address.Goals as goal

pub returns-in_err-needed : goal.returns-in_err-needed
returns-in_err-needed c = err_needed (λ a. a) c.from_residual.result address_of c.args.place c.in_err-needed.field-0.0 (table_view c.args.table.now) c.from_residual.ensures c.in_err-needed.ensures

pub returns : goal.returns
returns c = of_needed (λ a. a) c.read_address.result address_of c.args.place (table_view c.args.table.now) (view c.in_ok-needed.field-0.now) c.in_ok-needed.ensures c.read_address.ensures
