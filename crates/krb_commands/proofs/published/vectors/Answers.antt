-- A value that could not be had leaves the writer as it was.
use Rattle.krb_commands.proofs.OutputLemmas.{AppendsPrefix-none}
use Rattle.krb_commands.proofs.ShowLemmas.{on_err}
use Rattle.krb_commands.specs.Vectors.{vectors_text}
use Rattle.krb_commands.proofs.published.vectors.Goals as goal

pub returns-in_err-push_hmac_lines-clause-prefix : goal.returns-in_err-push_hmac_lines-clause-prefix
returns-in_err-push_hmac_lines-clause-prefix g c =
    on_err _ c.from_residual-in_err-push_hmac_lines.result (AppendsPrefix-none (g.W.Write.contents c.args.writer.now) vectors_text)
