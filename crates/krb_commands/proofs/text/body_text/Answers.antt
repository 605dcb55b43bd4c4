use Rattle.krb_commands.proofs.TextLemmas.{formatted, body_joined}
use Rattle.krb_commands.proofs.text.body_text.Goals as goal

pub returns : goal.returns
returns c =
    formatted c.format.result _ _ c.format.ensures.ok
    (rw (c.in_ok-data.ensures, c.as_slice.ensures, c.in_ok-time.ensures, c.in_ok-usec.ensures, c.in_ok-seq.ensures, c.in_ok-from.ensures, c.in_ok-to.ensures)
    (body_joined _ _ _ _ _ _))
