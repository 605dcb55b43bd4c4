-- The limit for a session's addresses.
use Rattle.std.specs.Prelude.{◌≤◌, ℕ, length}
use Rattle.std.specs.Option.{ForSome}
use Rattle.krb_der.specs.declared.address.HostAddress.{HostAddress}
use Rattle.krb_seal.specs.declared.session.Session.{Session}

-- An address of IPv6 joined with a port (type 256, as MIT Kerberos writes it) takes 34 bytes. This
-- project's own jobs name addresses of at most 32.
abbrev pub session_address_limit : ℕ
session_address_limit = 40

abbrev pub IsShortAddress : HostAddress → Type 0
IsShortAddress a = length a.bytes ≤ session_address_limit

pub record HasShortAddresses (s : Session) : Type 0 where
  pub sender : IsShortAddress s.s_addr
  pub receiver : ForSome s.r_addr IsShortAddress
