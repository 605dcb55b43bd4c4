use Rattle.krb_commands.proofs.TextLemmas.{formatted, refusal_joined}
use Rattle.krb_commands.proofs.text.inside_text.Goals as goal

pub returns-in-Refused : goal.returns-in-Refused
returns-in-Refused c = rw c.in-Refused.is (formatted c.format-in-Refused.result _ _ c.format-in-Refused.ensures.ok (rw (c.code-code.ensures, c.name-name.ensures) (refusal_joined _ _)))
