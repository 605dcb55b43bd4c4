-- KerberosTime (RFC 4120 section 5.2.3) as an element: a GeneralizedTime (X.690 section 11.7).
use Rattle.std.specs.Prelude.{ℕ, List}
use Rattle.krb_time.specs.Time.{kerberos_time}
use Rattle.krb_tlv.specs.Element.{tagged}

-- the KerberosTime of a second, as an element: GeneralizedTime has tag 24 (X.680 section 8.4)
abbrev pub time : ℕ → List ℕ
time s = tagged 0x18 (kerberos_time s)
