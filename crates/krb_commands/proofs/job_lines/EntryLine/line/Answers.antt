use Rattle.krb_commands.proofs.TextLemmas.{formatted, text_joined, closed_joined, refused_joined}
use Rattle.krb_commands.proofs.job_lines.EntryLine.line.Goals as goal

pub returns-in_ok-digits-in-Text : goal.returns-in_ok-digits-in-Text
returns-in_ok-digits-in-Text c = rw c.in-Text.is (formatted c.format.result _ _ c.format.ensures.ok (rw (c.in_ok-digits-in-Text.ensures, c.as_slice.ensures) (text_joined _ _)))

pub returns-in-Closed : goal.returns-in-Closed
returns-in-Closed c = rw c.in-Closed.is (formatted c.format-in-Closed.result _ _ c.format-in-Closed.ensures.ok (closed_joined _))

pub returns-in-Refused : goal.returns-in-Refused
returns-in-Refused c = rw c.in-Refused.is (formatted c.format-in-Refused.result _ _ c.format-in-Refused.ensures.ok (rw (c.code-code.ensures, c.name-name.ensures) (refused_joined _ _ _)))
