-- Bytes with their type, the shape of HostAddress and of Checksum (RFC 4120 sections 5.2.5 and
-- 5.2.9): SEQUENCE { type [0] Int32, bytes [1] OCTET STRING }.
use Rattle.std.specs.Prelude.{ℕ, ℤ, List, [], ◌∷◌}
use Rattle.krb_tlv.specs.Tag.{context}
use Rattle.krb_tlv.specs.Element.{tagged, sequence, octets}
use Rattle.krb_tlv.specs.Integer.{integer}

-- the type and the bytes, each under its explicit tag
abbrev pub typed_fields : ℤ → List ℕ → List (List ℕ)
typed_fields kind bytes =
    tagged (context 0) (integer kind)
    ∷ tagged (context 1) (octets bytes)
    ∷ []

-- a type and bytes, as a SEQUENCE
unfoldable pub typed_octets : ℤ → List ℕ → List ℕ
typed_octets kind bytes = sequence (typed_fields kind bytes)
