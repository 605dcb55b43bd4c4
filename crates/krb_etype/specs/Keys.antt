-- The keys that protect messages, derived from a session key (RFC 3961 section 5.3) with the key
-- usages of RFC 4120 section 7.5.1.
use Rattle.std.specs.Prelude.{◌≡◌, ◌≤◌, ℕ, List, ◌++◌, length}
use Rattle.krb_base.specs.Bytes.{AreBytes}
use Rattle.krb_aes.specs.Stealing.{cts}
use Rattle.krb_aes.specs.Keys.{expanded_key}
use Rattle.krb_keys.specs.Hmac.{hmac96}
use Rattle.krb_keys.specs.Derivation.{dk}
use Rattle.krb_etype.specs.Etype.{code_size, confounder_size}

-- Kc, under which the checksum of KRB-SAFE is made: its key usage is 15.
abbrev pub checksum_key : List ℕ → List ℕ
checksum_key key = dk key 15 0x99

-- Ke, under which the part of KRB-PRIV is enciphered: its key usage is 13.
abbrev pub encryption_key : List ℕ → List ℕ
encryption_key key = dk key 13 0xAA

-- Ki, under which the code of that part is made.
abbrev pub integrity_key : List ℕ → List ℕ
integrity_key key = dk key 13 0x55

-- The code of a text that is encrypted beside it.
abbrev pub tag_of : List ℕ → List ℕ → List ℕ
tag_of key text = hmac96 (integrity_key key) text

-- Encryption (RFC 3961 section 5.3, RFC 3962 section 6): a text that begins with its confounder,
-- enciphered from a state of zeros, and then its code.
abbrev pub encrypted : List ℕ → List ℕ → List ℕ
encrypted key text = cts (expanded_key (encryption_key key)) text ++ tag_of key text

-- The cipher is that of a text that begins with its confounder, followed by a code.
pub record IsEncryption (key cipher text tag : List ℕ) : Type 0 where
  pub bytes : AreBytes text
  pub long : confounder_size ≤ length text
  pub size : length tag ≡ code_size
  pub image : cipher ≡ cts (expanded_key (encryption_key key)) text ++ tag
