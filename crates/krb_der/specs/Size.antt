-- How many octets a message has around what it carries.
use Rattle.std.specs.Prelude.{◌≡◌, ℕ, ◌+◌, ◌≤◌, List, length, Option, Some, None, IfSome}
use Rattle.krb_base.specs.Limits.{frame_limit}
use Rattle.krb_der.specs.declared.address.HostAddress.{HostAddress}
use Rattle.krb_der.specs.declared.body.Body.{Body}
use Rattle.krb_der.specs.declared.safe.SafeMsg.{SafeMsg}
use Rattle.krb_der.specs.declared.private.PrivMsg.{PrivMsg}
use Rattle.krb_der.specs.Body.{part}
use Rattle.krb_der.specs.Message.{safe, safe_input}
use Rattle.krb_der.specs.Message.{private}

-- the octets of an address that may be left out
abbrev pub optional_size : Option HostAddress → ℕ
optional_size None = 0
optional_size (Some a) = length a.bytes

-- the octets that a body carries: its data and its addresses
abbrev pub carried : Body → ℕ
carried b = length b.user_data + length b.s_addr.bytes + optional_size b.r_addr

-- the octets that tags, lengths and numbers take at most
abbrev pub part_overhead : ℕ
part_overhead = 200

abbrev pub safe_overhead : ℕ
safe_overhead = 300

abbrev pub private_overhead : ℕ
private_overhead = 100

abbrev pub SmallPart : Type 0
SmallPart = (b : Body) → length (part b) ≤ carried b + part_overhead

abbrev pub SmallSafe : Type 0
SmallSafe = (m : SafeMsg) → length (safe m) ≤ carried m.body + length m.checksum + safe_overhead

abbrev pub SmallPrivate : Type 0
SmallPrivate = (m : PrivMsg) → length (private m) ≤ length m.cipher + private_overhead

-- ---- exact sizes, known before there are data

-- the body with other user data
abbrev pub with_data : List ℕ → Body → Body
with_data user b = record b { user_data = user }

-- the addresses of a body are no longer than a message may be
abbrev pub HasAddressesWithinLimit : Body → Type 0
HasAddressesWithinLimit b =
    (length b.s_addr.bytes ≤ frame_limit) × IfSome b.r_addr (λ a. length a.bytes ≤ frame_limit)

-- the body, with any n octets as its user data, has this size as an encrypted part
abbrev pub HasPartSize : Body → ℕ → ℕ → Type 0
HasPartSize b n size = (user : List ℕ) → length user ≡ n → length (part (with_data user b)) ≡ size

-- KRB-SAFE, with any n octets as its user data and any k octets as its checksum, has this size
abbrev pub HasSafeSize : SafeMsg → ℕ → ℕ → ℕ → Type 0
HasSafeSize m k n size =
    (user sum : List ℕ) → length user ≡ n → length sum ≡ k
    → length (safe (record m { body = with_data user m.body; checksum = sum })) ≡ size

-- KRB-PRIV, with any n octets as its cipher, has this size
abbrev pub HasPrivateSize : PrivMsg → ℕ → ℕ → Type 0
HasPrivateSize m n size =
    (cipher : List ℕ) → length cipher ≡ n → length (private (record m { cipher = cipher })) ≡ size

-- ---- what is under a checksum

-- what is under the checksum of KRB-SAFE is no longer than the message
abbrev pub ShorterInput : Type 0
ShorterInput = (m : SafeMsg) → length (safe_input m) ≤ length (safe m)
