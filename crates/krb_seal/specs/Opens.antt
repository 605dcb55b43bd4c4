-- What opening a frame gives: the user data, or the refusal of the first check that it fails
-- (RFC 4120 sections 3.4.2 and 3.5.2; RFC 3961 section 5.3).
use Rattle.std.specs.Prelude.{◌≡◌, ℕ, ◌+◌, ◌*◌, ℤ, pos, List, [], ◌∷◌, ◌++◌, length, drop}
use Rattle.std.specs.Prelude.{Option, Some, None, Result, Ok, Err, Bool, true, false, not, ◌&&◌}
use Rattle.std.specs.Prelude.{◌⊎◌, nat_le, nat_eq}
use Rattle.std.specs.Int.{abs_diff}
use Rattle.std.specs.Ordering.{int_eq}
use Rattle.std.specs.Str.{bytes_eq}
use Rattle.krb_base.specs.Limits.{frame_limit}
use Rattle.krb_der.specs.declared.address.HostAddress.{HostAddress}
use Rattle.krb_der.specs.declared.body.Body.{Body}
use Rattle.krb_der.specs.declared.safe.SafeMsg.{SafeMsg}
use Rattle.krb_der.specs.declared.private.PrivMsg.{PrivMsg}
use Rattle.krb_der.specs.declared.message.Message.{Message}
use Rattle.krb_der.specs.declared.message.Message.TheVariants as messages
use Rattle.krb_der.specs.Moment.{micros_per_second, moment_of}
use Rattle.krb_der.specs.Address.{same_address}
use Rattle.krb_der.specs.Message.{Spells, SpellsPart}
use Rattle.krb_seal.specs.declared.session.Mode.{Mode}
use Rattle.krb_seal.specs.declared.session.Mode.TheVariants.{Safe, Priv}
use Rattle.krb_seal.specs.declared.session.Expect.{Expect}
use Rattle.krb_seal.specs.declared.refusal.Refusal.{Refusal}
use Rattle.krb_seal.specs.declared.refusal.Refusal.TheVariants.{FieldTooLong, Malformed, BadVersion}
use Rattle.krb_seal.specs.declared.refusal.Refusal.TheVariants.{MsgType, EtypeNoSupp, BadIntegrity}
use Rattle.krb_seal.specs.declared.refusal.Refusal.TheVariants.{InappCksum, BadAddr, Skew, BadOrder}
use Rattle.krb_seal.specs.declared.refusal.Refusal.TheVariants.{Modified}
use Rattle.krb_etype.specs.Keys.{IsEncryption, tag_of}
use Rattle.krb_etype.specs.Etype.{code_size, confounder_size, etype_of, is_checksum_of}
use Rattle.krb_seal.specs.Seals.{safe_checksum}

-- What contracts see of an opener.
pub record OpenerState : Type 0 where
  pub etype : ℤ
  pub key : List ℕ
  pub expect : Expect

-- The opener of an encryption type and a key, with these expectations.
abbrev pub opener_of : ℤ → List ℕ → Expect → OpenerState
opener_of etype key x = record { etype = etype; key = key; expect = x }

-- ---- the tests

-- The receiver's address is the expected one, or is absent and not required.
abbrev pub receiver_fits : Expect → Option HostAddress → Bool
receiver_fits x None = not x.require_r
receiver_fits x (Some a) = same_address a x.r_addr

-- The sender's address is the expected one, and so is the receiver's.
abbrev pub addresses_fit : Expect → Body → Bool
addresses_fit x b = same_address b.s_addr x.s_addr && receiver_fits x b.r_addr

-- The time is within the skew, both ends of it included, in microseconds; or it is absent and not
-- expected.
abbrev pub is_current : Expect → ℕ → Option ℕ → Option ℕ → Bool
is_current x now (Some secs) (Some usec) =
    nat_le (abs_diff now (moment_of secs usec)) (micros_per_second * x.skew)
is_current x now None None = not x.expect_time
is_current x now (Some secs) None = false
is_current x now None (Some usec) = false

-- The sequence number is the demanded one.
abbrev pub is_number : ℕ → Option ℕ → Bool
is_number number None = false
is_number number (Some n) = nat_eq n number

-- The mode is that of KRB-SAFE.
abbrev pub is_safe : Mode → Bool
is_safe Safe = true
is_safe Priv = false

-- ---- the checks, in their order: each a test, and the refusal if it isn't met

-- The checks of KRB-SAFE before those of its body.
abbrev pub safe_header : ℤ → Expect → SafeMsg → List (Bool × Refusal)
safe_header etype x m =
    (int_eq m.pvno (pos 5), BadVersion)
    ∷ (is_safe x.mode && int_eq m.msg_type (pos 20), MsgType)
    ∷ (is_checksum_of (etype_of etype) m.cksum_type, InappCksum)
    ∷ []

-- The checks of KRB-PRIV before it is deciphered.
abbrev pub priv_header : ℤ → Expect → PrivMsg → List (Bool × Refusal)
priv_header etype x m =
    (int_eq m.pvno (pos 5), BadVersion)
    ∷ (not (is_safe x.mode) && int_eq m.msg_type (pos 21), MsgType)
    ∷ (int_eq m.etype etype, EtypeNoSupp)
    ∷ (nat_le (confounder_size + code_size) (length m.cipher), BadIntegrity)
    ∷ []

-- The checks of a body of either kind.
abbrev pub body_checks : Expect → ℕ → ℕ → Body → List (Bool × Refusal)
body_checks x number now b =
    (addresses_fit x b, BadAddr)
    ∷ (is_current x now b.time b.usec, Skew)
    ∷ (is_number number b.seq, BadOrder)
    ∷ []

-- All checks of KRB-SAFE.
abbrev pub safe_checks : OpenerState → ℕ → ℕ → SafeMsg → List (Bool × Refusal)
safe_checks o number now m =
    safe_header o.etype o.expect m
    ++ body_checks o.expect number now m.body
    ++ (bytes_eq m.checksum (safe_checksum o.key m), Modified) ∷ []

-- ---- what an outcome is

-- The refusal of the first test that isn't met, else as Then says.
abbrev pub Passes : {A : Type 0} → List (Bool × Refusal) → (Result A Refusal → Type 0)
    → Result A Refusal → Type 0
Passes [] Then outcome = Then outcome
Passes ((true, r) ∷ rest) Then outcome = Passes rest Then outcome
Passes ((false, r) ∷ rest) Then outcome = outcome ≡ Err r

-- Malformed if the bytes spell nothing, else as Then says of the value that they spell.
abbrev pub Read : {V A : Type 0} → (V → List ℕ → Type 0) → List ℕ → (V → Result A Refusal → Type 0)
    → Result A Refusal → Type 0
Read Spelt bytes Then outcome =
    (((v : _) → Spelt v bytes → ⊥) × (outcome ≡ Err Malformed))
    ⊎ ((v : _) × Spelt v bytes × Then v outcome)

-- As Then says of the one text and code of a cipher.
abbrev pub Decrypt : {A : Type 0} → List ℕ → List ℕ → (List ℕ → List ℕ → Result A Refusal → Type 0)
    → Result A Refusal → Type 0
Decrypt key cipher Then outcome =
    (text : List ℕ) × (tag : List ℕ) × IsEncryption key cipher text tag × Then text tag outcome

-- The outcome of a deciphered text, if the code after its cipher is its own: its confounder, and then
-- the encrypted part.
abbrev pub OpensText : OpenerState → ℕ → ℕ → List ℕ → List ℕ → Result (List ℕ) Refusal → Type 0
OpensText o number now text tag outcome =
    Passes ((bytes_eq tag (tag_of o.key text), BadIntegrity) ∷ [])
    (Read SpellsPart (drop confounder_size text)
    (λ b. Passes (body_checks o.expect number now b) (λ y. y ≡ Ok b.user_data))) outcome

-- The outcome of a message.
abbrev pub OpensMessage : OpenerState → ℕ → ℕ → Message → Result (List ℕ) Refusal → Type 0
OpensMessage o number now (messages.Safe m) outcome =
    Passes (safe_checks o number now m) (λ y. y ≡ Ok m.body.user_data) outcome
OpensMessage o number now (messages.Priv m) outcome =
    Passes (priv_header o.etype o.expect m)
    (Decrypt o.key m.cipher (OpensText o number now)) outcome

-- The outcome of opening bytes at a demanded number and a timestamp: the user data, or a refusal. The
-- length is checked before the bytes are read.
abbrev pub Opens : OpenerState → ℕ → ℕ → List ℕ → Result (List ℕ) Refusal → Type 0
Opens o number now bytes outcome =
    Passes ((nat_le (length bytes) frame_limit, FieldTooLong) ∷ [])
    (Read Spells bytes (OpensMessage o number now)) outcome
