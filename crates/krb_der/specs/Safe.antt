-- KRB-SAFE (RFC 4120 section 5.6.1).
use Rattle.std.specs.Prelude.{ℕ, ℤ, pos, List, [], ◌∷◌, ◌++◌}
use Rattle.krb_der.specs.declared.safe.SafeMsg.{SafeMsg}
use Rattle.krb_tlv.specs.Tag.{context}
use Rattle.krb_tlv.specs.Element.{tagged}
use Rattle.krb_tlv.specs.Integer.{integer, IsInt32}
use Rattle.krb_der.specs.Typed.{typed_octets}
use Rattle.krb_der.specs.Body.{body, IsBody}

-- the fields of KRB-SAFE. The last is a Checksum (RFC 4120 section 5.2.9): SEQUENCE { cksumtype [0]
-- Int32, checksum [1] OCTET STRING }
abbrev pub safe_fields : SafeMsg → List (List ℕ)
safe_fields m =
    tagged (context 0) (integer m.pvno)
    ∷ tagged (context 1) (integer m.msg_type)
    ∷ tagged (context 2) (body m.body)
    ∷ tagged (context 3) (typed_octets m.cksum_type m.checksum)
    ∷ []

-- the numbers of a KRB-SAFE are in the ranges of their types
pub record IsSafe (m : SafeMsg) : Type 0 where
  pub pvno : IsInt32 m.pvno
  pub msg_type : IsInt32 m.msg_type
  pub body : IsBody m.body
  pub cksum_type : IsInt32 m.cksum_type

-- the message with another checksum
abbrev pub with_checksum : SafeMsg → ℤ → List ℕ → SafeMsg
with_checksum m kind bytes = record m { cksum_type = kind; checksum = bytes }

-- the message with checksum type 0 and an empty checksum
abbrev pub without_checksum : SafeMsg → SafeMsg
without_checksum m = with_checksum m (pos 0) []

-- the fields before the checksum, one after another
abbrev pub before_checksum : SafeMsg → List ℕ
before_checksum m =
    tagged (context 0) (integer m.pvno)
    ++ (tagged (context 1) (integer m.msg_type) ++ tagged (context 2) (body m.body))

-- a Checksum
abbrev pub checksum : ℤ → List ℕ → List ℕ
checksum = typed_octets

-- the last field
abbrev pub checksum_field : ℤ → List ℕ → List ℕ
checksum_field kind bytes = tagged (context 3) (checksum kind bytes)
