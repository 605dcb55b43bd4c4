-- What an authentic message carried beside its user data.
use Rattle.std.specs.Prelude.{ℕ, ◌++◌, pos, List, length, drop, replicate, Option, Some, None}
use Rattle.std.specs.Prelude.{unwrap_or}
use Rattle.krb_der.specs.declared.address.HostAddress.{HostAddress}
use Rattle.krb_der.specs.declared.body.Body.{Body}
use Rattle.krb_structs.specs.declared.session.KrbAddress.{KrbAddress}
use Rattle.krb_structs.specs.declared.carried.KrbCarried.{KrbCarried}
use Rattle.krb_structs.specs.Session.{address_room}
use Rattle.krb_structs.specs.Header.{is_told}

-- the bytes, and zeros after them
abbrev pub padded : List ℕ → List ℕ
padded bytes = bytes ++ drop (length bytes) (replicate address_room 0)

abbrev pub c_address : HostAddress → KrbAddress
c_address a = record { kind = a.kind; len = length a.bytes; bytes = padded a.bytes }

-- an address that isn't told is zeros
abbrev pub no_address : KrbAddress
no_address = record { kind = pos 0; len = 0; bytes = replicate address_room 0 }

abbrev pub told_address : Option HostAddress → KrbAddress
told_address None = no_address
told_address (Some a) = c_address a

-- 1 if an address is present, else 0
abbrev pub has_address : Option HostAddress → ℕ
has_address None = 0
has_address (Some a) = 1

abbrev pub carried_of : Body → KrbCarried
carried_of b = record {
  seconds = unwrap_or b.time 0;
  microseconds = unwrap_or b.usec 0;
  has_seconds = is_told b.time;
  has_microseconds = is_told b.usec;
  has_number = is_told b.seq;
  number = unwrap_or b.seq 0;
  has_receiver = has_address b.r_addr;
  sender = c_address b.s_addr;
  receiver = told_address b.r_addr;
  reserved = replicate 6 0;
}
