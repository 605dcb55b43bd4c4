-- What the code follows, and no definitions of the standard: sizes, and the pieces that a spelling
-- is written in. Private functions alone cite this file; the contracts of the encoders are in the
-- words of Message.antt.
use Rattle.std.specs.Prelude.{ℕ, ◌+◌, ℤ, List, ◌++◌, length, Option, IfSome}
use Rattle.krb_der.specs.declared.body.Body.{Body}
use Rattle.krb_der.specs.declared.safe.SafeMsg.{SafeMsg}
use Rattle.krb_der.specs.declared.private.PrivMsg.{PrivMsg}
use Rattle.krb_tlv.specs.Tag.{context, application}
use Rattle.krb_tlv.specs.UniversalTag.{octet_string_tag, sequence_tag}
use Rattle.krb_tlv.specs.Writing.{element_size, IsShort}
use Rattle.krb_tlv.specs.Element.{header, tagged, optional}
use Rattle.krb_tlv.specs.Integer.{integer, natural}
use Rattle.krb_der.specs.KerberosTime.{time}
use Rattle.krb_der.specs.Address.{host_address}

-- ---- sizes

abbrev pub IsShortBody : Body → Type 0
IsShortBody b =
    IsShort b.user_data × IsShort b.s_addr.bytes × IfSome b.r_addr (λ a. IsShort a.bytes)

-- how many octets a type with n bytes takes
abbrev pub typed_fields_size : ℤ → ℕ → ℕ
typed_fields_size kind n = element_size (length (integer kind)) + element_size (element_size n)

abbrev pub typed_size : ℤ → ℕ → ℕ
typed_size kind n = element_size (typed_fields_size kind n)

-- how many octets a body takes with n octets as its user data
abbrev pub body_fields_size : Body → ℕ → ℕ
body_fields_size b n =
    element_size (element_size n)
    + length (optional 0 time b.time)
    + length (optional 0 natural b.usec)
    + length (optional 0 natural b.seq)
    + element_size (length (host_address b.s_addr))
    + length (optional 0 host_address b.r_addr)

abbrev pub body_size : Body → ℕ → ℕ
body_size b n = element_size (body_fields_size b n)

-- how many octets the fields of KRB-SAFE take with n octets as its user data and k as its checksum
abbrev pub before_checksum_size : SafeMsg → ℕ → ℕ
before_checksum_size m n =
    element_size (length (integer m.pvno))
    + element_size (length (integer m.msg_type))
    + element_size (body_size m.body n)

abbrev pub safe_fields_size : SafeMsg → ℤ → ℕ → ℕ → ℕ
safe_fields_size m kind k n = before_checksum_size m n + element_size (typed_size kind k)

-- ---- KRB-SAFE, up to its fields, if these have n octets

abbrev pub safe_headers : ℕ → List ℕ
safe_headers n = header (application 20) (element_size n) ++ header sequence_tag n

-- ---- KRB-PRIV with a cipher of n octets, up to the cipher

abbrev pub encrypted_fields_size : ℤ → Option ℕ → ℕ → ℕ
encrypted_fields_size etype kvno n =
    element_size (length (integer etype)) + length (optional 0 natural kvno)
    + element_size (element_size n)

abbrev pub private_fields_size : PrivMsg → ℕ → ℕ
private_fields_size m n =
    element_size (length (integer m.pvno))
    + element_size (length (integer m.msg_type))
    + element_size (element_size (encrypted_fields_size m.etype m.kvno n))

abbrev pub private_size : PrivMsg → ℕ → ℕ
private_size m n = element_size (element_size (private_fields_size m n))

abbrev pub encrypted_before_cipher : ℤ → Option ℕ → ℕ → List ℕ
encrypted_before_cipher etype kvno n =
    header sequence_tag (encrypted_fields_size etype kvno n)
    ++ (tagged (context 0) (integer etype)
    ++ (optional (context 1) natural kvno
    ++ (header (context 2) (element_size n) ++ header octet_string_tag n)))

abbrev pub private_before_cipher : PrivMsg → ℕ → List ℕ
private_before_cipher m n =
    header (application 21) (element_size (private_fields_size m n))
    ++ (header sequence_tag (private_fields_size m n)
    ++ (tagged (context 0) (integer m.pvno)
    ++ (tagged (context 1) (integer m.msg_type)
    ++ (header (context 3) (element_size (encrypted_fields_size m.etype m.kvno n))
    ++ encrypted_before_cipher m.etype m.kvno n))))
