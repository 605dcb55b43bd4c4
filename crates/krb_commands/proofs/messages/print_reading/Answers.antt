use Rattle.krb_commands.proofs.OutputLemmas.{AppendsPrefix-none, prefix_by_part}
use Rattle.krb_commands.proofs.ShowLemmas.{on_err}
use Rattle.krb_commands.proofs.messages.print_reading.Goals as goal

pub returns-in_err-line-clause-prefix : goal.returns-in_err-line-clause-prefix
returns-in_err-line-clause-prefix g c = on_err _ c.from_residual.result (AppendsPrefix-none _ _)

pub returns-in_err-write_all-clause-prefix : goal.returns-in_err-write_all-clause-prefix
returns-in_err-write_all-clause-prefix g c =
    on_err _ c.from_residual-in_err-write_all.result
    (prefix_by_part _ _ _ (rw (c.as_bytes.ensures.value, c.as_str.ensures.value, c.in_ok-line.ensures) at c.in_err-write_all.ensures.part))
