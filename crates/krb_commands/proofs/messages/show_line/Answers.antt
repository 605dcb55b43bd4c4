use Rattle.krb_commands.proofs.ShowLemmas.{nothing_printed, on_err}
use Rattle.krb_commands.proofs.messages.show_line.Goals as goal

pub returns-in_err-reading-clause-prefix : goal.returns-in_err-reading-clause-prefix
returns-in_err-reading-clause-prefix g c = on_err _ c.from_residual.result (nothing_printed _ _ _ c.args.line.now)
