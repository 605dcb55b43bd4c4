use Rattle.std.proofs.Common.{◌≡◌, ℕ, length, refl, sym}
use Rattle.krb_tlv.specs.Length.{length_octets}
use Rattle.krb_tlv.specs.Element.{header, tagged}
use Rattle.krb_time.specs.Time.{kerberos_time}
use Rattle.krb_der.specs.KerberosTime.{time}
use Rattle.krb_der.proofs.body.optional_time_size.Goals as goal

time-size : (tag s : ℕ) → length (tagged tag (time s)) ≡ 19
unfolding tagged header length_octets kerberos_time
time-size tag s = refl

pub returns-in-Some-clause-value : goal.returns-in-Some-clause-value
returns-in-Some-clause-value c = rw c.in-Some.is (sym (time-size 0 c.in-Some.field-0))
