-- KRB-PRIV (RFC 4120 section 5.7.1). There is no field [2].
use Rattle.std.specs.Prelude.{ℕ, ℤ, List, [], ◌∷◌, Option, IfSome}
use Rattle.krb_der.specs.declared.private.PrivMsg.{PrivMsg}
use Rattle.krb_tlv.specs.Tag.{context}
use Rattle.krb_tlv.specs.Element.{tagged, sequence, optional, octets}
use Rattle.krb_tlv.specs.Integer.{integer, natural, IsInt32, IsUInt32}

-- EncryptedData (RFC 4120 section 5.2.9): SEQUENCE { etype [0] Int32, kvno [1] UInt32 OPTIONAL,
-- cipher [2] OCTET STRING }
abbrev pub encrypted_fields : ℤ → Option ℕ → List ℕ → List (List ℕ)
encrypted_fields etype kvno cipher =
    tagged (context 0) (integer etype)
    ∷ optional (context 1) natural kvno
    ∷ tagged (context 2) (octets cipher)
    ∷ []

-- EncryptedData ::= SEQUENCE
unfoldable pub encrypted_data : ℤ → Option ℕ → List ℕ → List ℕ
encrypted_data etype kvno cipher = sequence (encrypted_fields etype kvno cipher)

-- the fields of KRB-PRIV
abbrev pub private_fields : PrivMsg → List (List ℕ)
private_fields m =
    tagged (context 0) (integer m.pvno)
    ∷ tagged (context 1) (integer m.msg_type)
    ∷ tagged (context 3) (encrypted_data m.etype m.kvno m.cipher)
    ∷ []

-- the numbers of a KRB-PRIV are in the ranges of their types
pub record IsPrivate (m : PrivMsg) : Type 0 where
  pub pvno : IsInt32 m.pvno
  pub msg_type : IsInt32 m.msg_type
  pub etype : IsInt32 m.etype
  pub kvno : IfSome m.kvno IsUInt32
