-- What a frame is, from what it carries (RFC 4120 sections 3.4 and 3.5).
use Rattle.std.specs.Prelude.{◌≡◌, ℕ, ℤ, pos, List, [], ◌++◌, length, Some, None}
use Rattle.krb_base.specs.Bytes.{AreBytes}
use Rattle.krb_keys.specs.Hmac.{hmac96}
use Rattle.krb_der.specs.declared.body.Body.{Body}
use Rattle.krb_der.specs.declared.safe.SafeMsg.{SafeMsg}
use Rattle.krb_der.specs.declared.private.PrivMsg.{PrivMsg}
use Rattle.krb_der.specs.declared.message.Message.{Message}
use Rattle.krb_der.specs.declared.message.Message.TheVariants as messages
use Rattle.krb_der.specs.Moment.{secs_of, usec_of}
use Rattle.krb_der.specs.Body.{part, IsBody}
use Rattle.krb_der.specs.Message.{safe_input}
use Rattle.krb_der.specs.Message.{message, Spells}
use Rattle.krb_seal.specs.declared.session.Mode.{Mode}
use Rattle.krb_seal.specs.declared.session.Mode.TheVariants.{Safe, Priv}
use Rattle.krb_seal.specs.declared.session.Session.{Session}
use Rattle.krb_etype.specs.declared.etype.Etype.{Etype}
use Rattle.krb_etype.specs.Etype.{confounder_size, number_of, checksum_number}
use Rattle.krb_etype.specs.Keys.{checksum_key, encrypted}

-- The checksum of KRB-SAFE, over the message with checksum type 0 and an empty checksum (RFC 4120
-- section 5.6.1).
abbrev pub safe_checksum : List ℕ → SafeMsg → List ℕ
safe_checksum key m = hmac96 (checksum_key key) (safe_input m)

-- What a message carries: the data, its time and number, and the session's addresses.
abbrev pub body_of : Session → ℕ → List ℕ → ℕ → Body
body_of s number user at = record {
  user_data = user;
  time = Some (secs_of at);
  usec = Some (usec_of at);
  seq = Some number;
  s_addr = s.s_addr;
  r_addr = s.r_addr;
}

-- KRB-SAFE before it has its checksum.
abbrev pub unsigned : Etype → Body → SafeMsg
unsigned etype b =
    record {
      pvno = pos 5;
      msg_type = pos 20;
      body = b;
      cksum_type = checksum_number etype;
      checksum = [];
    }

-- KRB-SAFE with its checksum.
abbrev pub sealed_safe : Etype → List ℕ → Body → SafeMsg
sealed_safe etype key b =
    record (unsigned etype b) { checksum = safe_checksum key (unsigned etype b) }

-- KRB-PRIV before it has its cipher.
abbrev pub unenciphered : Etype → PrivMsg
unenciphered etype =
    record { pvno = pos 5; msg_type = pos 21; etype = number_of etype; kvno = None; cipher = [] }

-- KRB-PRIV of a body, under a confounder.
abbrev pub sealed_priv : Etype → List ℕ → List ℕ → Body → PrivMsg
sealed_priv etype key conf b =
    record (unenciphered etype) { cipher = encrypted key (conf ++ part b) }

-- The message of a mode that carries a body.
abbrev pub sealed_as : Mode → Etype → List ℕ → List ℕ → Body → Message
sealed_as Safe etype key conf b = messages.Safe (sealed_safe etype key b)
sealed_as Priv etype key conf b = messages.Priv (sealed_priv etype key conf b)

-- The message that carries data at a number and a timestamp, under a confounder.
abbrev pub sealed_message : Etype → List ℕ → Session → ℕ → List ℕ → ℕ → List ℕ → Message
sealed_message etype key s number user at conf =
    sealed_as s.mode etype key conf (body_of s number user at)

-- The bytes of that message.
unfoldable pub sealed : Etype → List ℕ → Session → ℕ → List ℕ → ℕ → List ℕ → List ℕ
sealed etype key s number user at conf = message (sealed_message etype key s number user at conf)

-- The bytes are the message that carries a body, under the encryption type that has this number:
-- there is such a type, what goes in is in range, what is enciphered is bytes, and these are the
-- bytes of the message.
pub record SealsBody (mode : Mode) (number : ℤ) (key conf : List ℕ) (b : Body)
    (bytes : List ℕ) : Type 0 where
  pub etype : Etype
  pub known : number_of etype ≡ number
  pub body : IsBody b
  pub confounder : length conf ≡ confounder_size
  pub plain : mode ≡ Priv → AreBytes (conf ++ part b)
  pub spelt : Spells (sealed_as mode etype key conf b) bytes

-- The bytes are the frame of this data at a number and a timestamp.
abbrev pub Seals : ℤ → List ℕ → Session → ℕ → List ℕ → ℕ → List ℕ → List ℕ → Type 0
Seals etype key s number user at conf bytes =
    SealsBody s.mode etype key conf (body_of s number user at) bytes
