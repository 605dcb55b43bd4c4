use Rattle.std.proofs.Common.{ap, ◌∙◌}
use Rattle.std.specs.Prelude.{ok_or}
use Rattle.toml.specs.View.{view, table_view}
use Rattle.krb_job.specs.declared.place.KeyError.TheVariants.{Bad}
use Rattle.krb_job.specs.Values.{mode_of}
use Rattle.krb_job.proofs.FailLemmas.{err_needed, of_needed, gives_or}
use Rattle.krb_job.proofs.table.mode.Goals as goal

pub returns-in_err-needed : goal.returns-in_err-needed
returns-in_err-needed c = err_needed (λ m. m) c.from_residual.result mode_of c.args.place c.in_err-needed.field-0.0 (table_view c.args.table.now) c.from_residual.ensures c.in_err-needed.ensures

pub returns : goal.returns
returns c =
    let value = view c.in_ok-needed.field-0.now in
    of_needed (λ m. m) c.ok_or.result mode_of c.args.place (table_view c.args.table.now) value c.in_ok-needed.ensures
    (gives_or c.ok_or.result (mode_of value) c.args.place (c.ok_or.ensures.value ∙ ap (λ o. ok_or o (Bad c.args.place)) c.read_mode.ensures))
