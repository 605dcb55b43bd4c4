use Rattle.krb_program.proofs.RunningLemmas.{any_prefix, run_kept}
use Rattle.krb_program.proofs.running.run.Goals as goal

pub returns-then-is_err-clause-run : goal.returns-then-is_err-clause-run
returns-then-is_err-clause-run g c =
    let over = c.command_over-outcome.ensures in
    any_prefix c.args.command c.args.form _ _ _ _ c.command_over-outcome.result c.flush.ensures.bytes over.done over.prefix

pub returns-clause-run : goal.returns-clause-run
returns-clause-run g c =
    let over = c.command_over-outcome.ensures in
    run_kept c.args.command c.args.form _ _ _ _ c.command_over-outcome.result c.flush.ensures.bytes over.done over.prefix over.stopped over.thread over.bad_input over.too_long over.nothing over.no_key
