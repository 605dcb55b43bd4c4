use Rattle.std.proofs.Common.{to_z-of_z}
use Rattle.krb_commands.proofs.TextLemmas.{formatted, typed_joined}
use Rattle.krb_commands.proofs.text.typed_text.Goals as goal

pub returns : goal.returns
returns c =
    formatted c.format.result _ _ c.format.ensures.ok
    (rw (to_z-of_z c.ranges.kind, c.in_ok-digits.ensures, c.as_slice.ensures) (typed_joined _ _))
