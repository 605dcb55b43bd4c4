-- There are sealed frames: exactly one of all data within the limits, at each number, moment and
-- confounder.
use Rattle.std.specs.Prelude.{◌≡◌, ◌↔◌, ℕ, ◌+◌, ◌≤◌, List, length, IfSome}
use Rattle.krb_base.specs.Bytes.{AreBytes}
use Rattle.krb_base.specs.Limits.{last_number, user_data_limit}
use Rattle.krb_der.specs.Moment.{last_moment}
use Rattle.krb_der.specs.declared.address.HostAddress.{HostAddress}
use Rattle.krb_tlv.specs.Integer.{IsInt32}
use Rattle.krb_etype.specs.declared.etype.Etype.{Etype}
use Rattle.krb_etype.specs.Etype.{confounder_size, number_of}
use Rattle.krb_seal.specs.declared.session.Session.{Session}
use Rattle.krb_seal.specs.Seals.{Seals, sealed}
use Rattle.krb_seal.specs.Session.{HasShortAddresses}

-- an address as one is in Rust: its type is 32 bits, and its bytes are bytes
pub record IsHost (a : HostAddress) : Type 0 where
  pub kind : IsInt32 a.kind
  pub bytes : AreBytes a.bytes

-- the session of a sealer: its addresses are short
pub record HasHosts (s : Session) : Type 0 where
  pub short : HasShortAddresses s
  pub sender : IsHost s.s_addr
  pub receiver : IfSome s.r_addr IsHost

-- data, a number, a moment and a confounder that a message can have
pub record CanBeSealed (n at : ℕ) (user conf : List ℕ) : Type 0 where
  pub number : n ≤ last_number
  pub moment : at ≤ last_moment
  pub few : length user ≤ user_data_limit
  pub bytes : AreBytes user
  pub confounder : length conf ≡ confounder_size
  pub drawn : AreBytes conf

-- of them there is one frame
abbrev pub OneFrameExists : Type 0
OneFrameExists =
    (etype : Etype) (key : List ℕ) (s : Session) (number at : ℕ) (user conf frame : List ℕ)
    → HasHosts s → CanBeSealed number at user conf
    → Seals (number_of etype) key s number user at conf frame
    ↔ (frame ≡ sealed etype key s number user at conf)
