-- What KRB-SAFE-BODY (RFC 4120 section 5.6.1) and EncKrbPrivPart (section 5.7.1) carry, field by
-- field.
use Rattle.std.specs.Prelude.{ℕ, List, [], ◌∷◌, IfSome}
use Rattle.krb_der.specs.declared.body.Body.{Body}
use Rattle.krb_time.specs.Time.{IsSecond}
use Rattle.krb_time.specs.Moment.{IsMicroseconds}
use Rattle.krb_tlv.specs.Tag.{context, application}
use Rattle.krb_tlv.specs.Element.{tagged, sequence, optional, octets}
use Rattle.krb_tlv.specs.Integer.{natural, IsInt32, IsUInt32}
use Rattle.krb_der.specs.KerberosTime.{time}
use Rattle.krb_der.specs.Address.{host_address}

-- the fields of a body, each under its explicit tag
abbrev pub body_fields : Body → List (List ℕ)
body_fields b =
    tagged (context 0) (octets b.user_data)
    ∷ optional (context 1) time b.time
    ∷ optional (context 2) natural b.usec
    ∷ optional (context 3) natural b.seq
    ∷ tagged (context 4) (host_address b.s_addr)
    ∷ optional (context 5) host_address b.r_addr
    ∷ []

-- KRB-SAFE-BODY ::= SEQUENCE
unfoldable pub body : Body → List ℕ
body b = sequence (body_fields b)

-- EncKrbPrivPart ::= [APPLICATION 28] SEQUENCE
abbrev pub part : Body → List ℕ
part b = tagged (application 28) (body b)

-- the numbers of a body are in the ranges of their types
pub record IsBody (b : Body) : Type 0 where
  pub time : IfSome b.time IsSecond
  pub usec : IfSome b.usec IsMicroseconds
  pub seq : IfSome b.seq IsUInt32
  pub s_addr : IsInt32 b.s_addr.kind
  pub r_addr : IfSome b.r_addr (λ a. IsInt32 a.kind)

-- The time and the microseconds are in range. The other ranges of a body are those of its numbers'
-- types.
abbrev pub InRange : Body → Type 0
InRange b = IfSome b.time IsSecond × IfSome b.usec IsMicroseconds
