-- What opening without demands gives: the authenticated body, or the refusal of the first check
-- that the frame fails. The checks are those of `Opens` but for the ones of the body (RFC 4120
-- sections 3.4.2 and 3.5.2; RFC 3961 section 5.3).
use Rattle.std.specs.Prelude.{◌≡◌, ℕ, List, ◌++◌, drop, Result, Ok}
use Rattle.krb_der.specs.declared.body.Body.{Body}
use Rattle.krb_der.specs.declared.safe.SafeMsg.{SafeMsg}
use Rattle.krb_der.specs.declared.message.Message.{Message}
use Rattle.krb_der.specs.declared.message.Message.TheVariants as messages
use Rattle.krb_der.specs.Message.{Spells, SpellsPart}
use Rattle.krb_seal.specs.declared.refusal.Refusal.{Refusal}
use Rattle.krb_etype.specs.Etype.{confounder_size}
use Rattle.krb_seal.specs.Opens.{OpenerState, Passes, Read, Decrypt}
use Rattle.krb_seal.specs.OpensParts.{Checks, frame_checks}
use Rattle.krb_seal.specs.Opens.{safe_header, priv_header}
use Rattle.krb_seal.specs.OpensParts.{checksum_checks, text_checks}

-- The body, or a refusal.
abbrev pub Authenticity : Type 0
Authenticity = Result Body Refusal

-- The checks of KRB-SAFE, without those of its body.
abbrev pub authentic_checks : OpenerState → SafeMsg → Checks
authentic_checks o m = safe_header o.etype o.expect m ++ checksum_checks o.key m

-- The outcome is this body.
abbrev pub GivesBody : Body → Authenticity → Type 0
GivesBody b outcome = outcome ≡ Ok b

-- The outcome of a deciphered text and the code after its cipher.
abbrev pub AuthenticText : List ℕ → List ℕ → List ℕ → Authenticity → Type 0
AuthenticText key text tag outcome =
    Passes (text_checks key text tag)
    (Read SpellsPart (drop confounder_size text) GivesBody) outcome

-- The outcome of a message.
abbrev pub AuthenticMessage : OpenerState → Message → Authenticity → Type 0
AuthenticMessage o (messages.Safe m) outcome =
    Passes (authentic_checks o m) (GivesBody m.body) outcome
AuthenticMessage o (messages.Priv m) outcome =
    Passes (priv_header o.etype o.expect m) (Decrypt o.key m.cipher (AuthenticText o.key)) outcome

-- The outcome of opening bytes without demands.
abbrev pub Authenticates : OpenerState → List ℕ → Authenticity → Type 0
Authenticates o bytes outcome =
    Passes (frame_checks bytes) (Read Spells bytes (AuthenticMessage o)) outcome
