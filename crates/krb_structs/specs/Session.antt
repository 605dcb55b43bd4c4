-- What the structs of a C program stand for.
use Rattle.std.specs.Prelude.{◌≡◌, ◌⊎◌, ◌≤◌, ℕ, pos, List, All, take, Bool, not, Option, Some, None, nat_eq}
use Rattle.std.specs.Prelude.{if◌then◌else◌}
use Rattle.krb_der.specs.declared.address.HostAddress.{HostAddress}
use Rattle.krb_seal.specs.Session.{session_address_limit}
use Rattle.krb_seal.specs.declared.session.Mode.{Mode}
use Rattle.krb_seal.specs.declared.session.Mode.TheVariants.{Safe, Priv}
use Rattle.krb_seal.specs.declared.session.Session.{Session}
use Rattle.krb_seal.specs.declared.session.Expect.{Expect}
use Rattle.krb_structs.specs.declared.session.KrbAddress.{KrbAddress}
use Rattle.krb_structs.specs.declared.session.KrbSession.{KrbSession}
use Rattle.krb_structs.specs.declared.session.KrbExpect.{KrbExpect}

-- the first bytes are the address
abbrev pub address_of : KrbAddress → HostAddress
address_of a = record { kind = a.kind; bytes = take a.len a.bytes }

-- the number of KRB-SAFE is 20, that of KRB-PRIV 21
abbrev pub mode_of : ℕ → Mode
mode_of n = if nat_eq n 20 then Safe else Priv

-- the address, where the number isn't 0
abbrev pub told : ℕ → KrbAddress → Option HostAddress
told n a = if nat_eq n 0 then None else Some (address_of a)

abbrev pub session_of : KrbSession → Session
session_of s =
    record {
      mode = mode_of s.mode;
      s_addr = address_of s.sender;
      r_addr = told s.has_receiver s.receiver;
      first = s.first;
    }

abbrev pub is_set : ℕ → Bool
is_set n = not (nat_eq n 0)

abbrev pub expect_of : KrbExpect → Expect
expect_of x = record {
  mode = mode_of x.mode;
  s_addr = address_of x.sender;
  r_addr = address_of x.receiver;
  require_r = is_set x.require_receiver;
  expect_time = is_set x.require_time;
  skew = x.skew;
}

-- how many bytes of an address there is room for
abbrev pub address_room : ℕ
address_room = session_address_limit

-- the mode is one of the two
abbrev pub IsMode : ℕ → Type 0
IsMode n = (n ≡ 20) ⊎ (n ≡ 21)

-- both addresses have room
abbrev pub HaveRoom : ℕ → ℕ → Type 0
HaveRoom sender receiver = (sender ≤ address_room) × (receiver ≤ address_room)

-- ---- what isn't read is zeros

-- each number is 0
abbrev pub AreZeros : List ℕ → Type 0
AreZeros numbers = All (λ number. number ≡ 0) numbers

-- all of an address is zeros
pub record IsNoAddress (a : KrbAddress) : Type 0 where
  pub kind : a.kind ≡ pos 0
  pub len : a.len ≡ 0
  pub bytes : AreZeros a.bytes

-- the reserved fields are zeros, and so is a receiver's address that the messages don't tell
pub record IsSession (s : KrbSession) : Type 0 where
  pub reserved : AreZeros s.reserved
  pub receiver : s.has_receiver ≡ 0 → IsNoAddress s.receiver

-- the reserved fields are zeros
abbrev pub IsExpect : KrbExpect → Type 0
IsExpect x = AreZeros x.reserved
