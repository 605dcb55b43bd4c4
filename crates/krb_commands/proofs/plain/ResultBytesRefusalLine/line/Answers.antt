use Rattle.krb_commands.proofs.TextLemmas.{formatted, plain_joined}
use Rattle.krb_commands.proofs.plain.ResultBytesRefusalLine.line.Goals as goal

pub returns-in-Err : goal.returns-in-Err
returns-in-Err c = rw c.in-Err.is (formatted c.format-in-Err.result _ _ c.format-in-Err.ensures.ok (rw (c.code-code.ensures, c.name-name.ensures) (plain_joined _ _)))
