-- What the integrity code of a frame is computed over, and that code. Both depend on the frame and on
-- the key and the mode of its opener, and on nothing that an opener demands of a body.
use Rattle.std.specs.Prelude.{◌≡◌, ℕ, List}
use Rattle.krb_der.specs.declared.message.Message.TheVariants as messages
use Rattle.krb_der.specs.Message.{Spells, safe_input}
use Rattle.krb_etype.specs.CodeKey.{code_key}
use Rattle.krb_etype.specs.Keys.{IsEncryption}
use Rattle.krb_keys.specs.Hmac.{hmac96}
use Rattle.krb_seal.specs.declared.coded.Coded.{Coded}
use Rattle.krb_seal.specs.declared.coded.Covered.{Covered}
use Rattle.krb_seal.specs.declared.coded.Covered.TheVariants.{Safe, Priv}
use Rattle.krb_seal.specs.declared.session.Mode.TheVariants as modes
use Rattle.krb_seal.specs.Memory.{AreMet}
use Rattle.krb_seal.specs.Mode.{purpose_of}
use Rattle.krb_seal.specs.Opens.{OpenerState, priv_header, safe_header}

-- The bytes: of a KRB-SAFE those under its checksum, of a KRB-PRIV its text.
abbrev pub bytes_of : Covered → List ℕ
bytes_of (Safe m bytes) = bytes.items
bytes_of (Priv m text tag) = text

-- The frame spells the message, whose header passes, and these are the bytes under its checksum, or the
-- text and the code of its cipher.
abbrev pub CoversFrame : OpenerState → List ℕ → Covered → Type 0
CoversFrame o frame (Safe m bytes) =
    Spells (messages.Safe m) frame × (o.expect.mode ≡ modes.Safe)
    × AreMet (safe_header o.etype o.expect m) × (bytes.items ≡ safe_input m)
CoversFrame o frame (Priv m text tag) =
    Spells (messages.Priv m) frame × (o.expect.mode ≡ modes.Priv)
    × AreMet (priv_header o.etype o.expect m) × IsEncryption o.key m.cipher text tag

-- The key under which the opener's codes are made.
abbrev pub code_key_of : OpenerState → List ℕ
code_key_of o = code_key (purpose_of o.expect.mode) o.key

-- The code is that of the bytes.
abbrev pub IsCodedFrame : OpenerState → List ℕ → Coded → Type 0
IsCodedFrame o frame coded =
    CoversFrame o frame coded.covered
    × (coded.code ≡ hmac96 (code_key_of o) (bytes_of coded.covered))
