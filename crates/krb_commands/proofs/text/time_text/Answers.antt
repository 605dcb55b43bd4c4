use Rattle.krb_commands.proofs.TimeText.{IsUtf8-kerberos_time}
use Rattle.krb_commands.proofs.TextLemmas.{valid_text}
use Rattle.krb_commands.proofs.text.time_text.Goals as goal

pub unwrap-requires : goal.unwrap-requires
unwrap-requires c =
    valid_text _ _ c.from_utf8.result _ c.from_utf8.ensures.cases
    (rw c.kerberos_time-digits.ensures (IsUtf8-kerberos_time c.in-Some.second))
