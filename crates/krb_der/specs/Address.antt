-- HostAddress (RFC 4120 section 5.2.5): SEQUENCE { addr-type [0] Int32, address [1] OCTET STRING }.
use Rattle.std.specs.Prelude.{Bool, List, ℕ, ◌&&◌}
use Rattle.std.specs.Ordering.{int_eq}
use Rattle.std.specs.Str.{bytes_eq}
use Rattle.krb_der.specs.declared.address.HostAddress.{HostAddress}
use Rattle.krb_tlv.specs.Integer.{IsInt32}
use Rattle.krb_der.specs.Typed.{typed_octets}

-- HostAddress, with its type and its bytes
abbrev pub host_address : HostAddress → List ℕ
host_address a = typed_octets a.kind a.bytes

-- the test whether two addresses are equal
abbrev pub same_address : HostAddress → HostAddress → Bool
same_address a b = int_eq a.kind b.kind && bytes_eq a.bytes b.bytes

-- the type of an address is an Int32
abbrev pub IsAddress : HostAddress → Type 0
IsAddress a = IsInt32 a.kind
