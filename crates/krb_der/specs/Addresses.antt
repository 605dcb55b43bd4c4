-- The fields of both addresses of a body (RFC 4120 sections 5.6.1 and 5.7.1).
use Rattle.std.specs.Prelude.{ℕ, List, ◌++◌, Option}
use Rattle.krb_tlv.specs.Tag.{context}
use Rattle.krb_tlv.specs.Element.{tagged, optional}
use Rattle.krb_der.specs.declared.address.HostAddress.{HostAddress}
use Rattle.krb_der.specs.Address.{host_address}

-- the sender's address, and the receiver's if there is one
pub record AddressPair : Type 0 where
  pub s_addr : HostAddress
  pub r_addr : Option HostAddress

-- the fields of both, the last ones of a body
abbrev pub address_fields : HostAddress → Option HostAddress → List ℕ
address_fields s r = tagged (context 4) (host_address s) ++ optional (context 5) host_address r
