-- What holds of sealing and opening.
use Rattle.std.specs.Prelude.{◌≡◌, ℕ, ◌*◌, ◌≤◌, ◌↔◌, ℤ, List, Option, Some, None, Ok, false}
use Rattle.krb_base.specs.Bytes.{AreBytes}
use Rattle.krb_der.specs.declared.address.HostAddress.{HostAddress}
use Rattle.krb_der.specs.declared.body.Body.{Body}
use Rattle.krb_der.specs.Moment.{micros_per_second}
use Rattle.krb_seal.specs.declared.session.Session.{Session}
use Rattle.krb_seal.specs.declared.session.Expect.{Expect}
use Rattle.krb_etype.specs.declared.etype.Etype.{Etype}
use Rattle.krb_etype.specs.Etype.{number_of}
use Rattle.krb_seal.specs.Seals.{Seals, sealed, body_of}
use Rattle.krb_seal.specs.Opens.{OpenerState, Opens, opener_of}
use Rattle.std.specs.Int.{abs_diff}
use Rattle.krb_seal.specs.OpensParts.{Outcome, OpensPart}
use Rattle.krb_seal.specs.Authentic.{Authenticity, Authenticates}
use Rattle.krb_seal.specs.Opening.{opens}

-- Each frame has one outcome at each number and timestamp, and `opens` gives it.
abbrev pub OneOutcome : Type 0
OneOutcome = (o : OpenerState) (number now : ℕ) (bytes : List ℕ) (outcome : Outcome)
    → AreBytes bytes → Opens o number now bytes outcome ↔ (outcome ≡ opens o number now bytes)

-- A sealed frame is one list of bytes.
abbrev pub OneFrame : Type 0
OneFrame =
    (etype : Etype) (key : List ℕ) (s : Session) (number : ℕ) (user : List ℕ) (at : ℕ)
    (conf bytes : List ℕ)
    → Seals (number_of etype) key s number user at conf bytes
    → bytes ≡ sealed etype key s number user at conf

-- The message carries the receiver's address, or leaves it out and it isn't required.
abbrev pub ReceiverAgrees : Expect → Option HostAddress → Type 0
ReceiverAgrees x None = x.require_r ≡ false
ReceiverAgrees x (Some a) = a ≡ x.r_addr

-- Both ends have one mode and the same addresses, and the timestamps are within the skew.
pub record Agree (s : Session) (x : Expect) (at now : ℕ) : Type 0 where
  pub mode : s.mode ≡ x.mode
  pub sender : s.s_addr ≡ x.s_addr
  pub receiver : ReceiverAgrees x s.r_addr
  pub current : abs_diff now at ≤ micros_per_second * x.skew

-- Whatever an opener with the sealer's key expects, a sealed frame gives nothing but its data, at
-- its own number.
abbrev pub NowhereElse : Type 0
NowhereElse =
    (etype : ℤ) (key : List ℕ) (s : Session) (x : Expect) (q at now number : ℕ)
    (user conf bytes given : List ℕ)
    → Seals etype key s q user at conf bytes
    → Opens (opener_of etype key x) number now bytes (Ok given) → (number ≡ q) × (given ≡ user)

-- It gives its data at its own number if both ends agree.
abbrev pub AtItsNumber : Type 0
AtItsNumber =
    (etype : ℤ) (key : List ℕ) (s : Session) (x : Expect) (q at now : ℕ) (user conf bytes : List ℕ)
    → Seals etype key s q user at conf bytes → Agree s x at now
    → Opens (opener_of etype key x) q now bytes (Ok user)

-- ---- opening without demands

-- Each frame has one outcome.
abbrev pub OneAuthenticity : Type 0
OneAuthenticity =
    (o : OpenerState) (bytes : List ℕ) (a b : Authenticity) → Authenticates o bytes a
    → Authenticates o bytes b → a ≡ b

-- Unsealing gives data if and only if the frame is authentic with a body that passes the body
-- checks, and then the data of that body.
abbrev pub OpensTheAuthentic : Type 0
OpensTheAuthentic = (o : OpenerState) (number now : ℕ) (bytes user : List ℕ)
    → Opens o number now bytes (Ok user)
    ↔ ((b : Body) × Authenticates o bytes (Ok b) × OpensPart o.expect number now b (Ok user))

-- A sealed frame is authentic, with the body that was sealed, to an opener of its mode with the
-- sealer's key, whatever else that opener expects.
abbrev pub SealedIsAuthentic : Type 0
SealedIsAuthentic =
    (etype : ℤ) (key : List ℕ) (s : Session) (x : Expect) (q at : ℕ) (user conf bytes : List ℕ)
    → Seals etype key s q user at conf bytes → s.mode ≡ x.mode
    → Authenticates (opener_of etype key x) bytes (Ok (body_of s q user at))
