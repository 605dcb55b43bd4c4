use Rattle.std.proofs.Common.{ap, ◌∙◌}
use Rattle.std.specs.Prelude.{ok_or}
use Rattle.toml.specs.View.{view, table_view}
use Rattle.krb_job.specs.declared.place.KeyError.TheVariants.{Bad}
use Rattle.krb_job.specs.Values.{number_of}
use Rattle.krb_job.proofs.FailLemmas.{err_needed, of_needed, gives_or}
use Rattle.krb_job.proofs.table.number.Goals as goal

pub returns-in_err-needed-clause-value : goal.returns-in_err-needed-clause-value
returns-in_err-needed-clause-value c = err_needed (λ n. n) c.from_residual.result (number_of c.args.low c.args.high) c.args.place c.in_err-needed.field-0.0 (table_view c.args.table.now) c.from_residual.ensures c.in_err-needed.ensures

pub returns-clause-value : goal.returns-clause-value
returns-clause-value c =
    let value = view c.in_ok-needed.field-0.now in
    of_needed (λ n. n) c.ok_or.result (number_of c.args.low c.args.high) c.args.place (table_view c.args.table.now) value c.in_ok-needed.ensures
    (gives_or c.ok_or.result ((number_of c.args.low c.args.high) value) c.args.place (c.ok_or.ensures.value ∙ ap (λ o. ok_or o (Bad c.args.place)) c.read_number.ensures.value))
