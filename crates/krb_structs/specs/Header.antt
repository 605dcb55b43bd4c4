-- What a message says of itself in clear.
use Rattle.std.specs.Prelude.{◌≡◌, ℕ, pos, List, Option, Some, None, unwrap_or}
use Rattle.krb_der.specs.declared.safe.SafeMsg.{SafeMsg}
use Rattle.krb_der.specs.declared.private.PrivMsg.{PrivMsg}
use Rattle.krb_der.specs.declared.message.Message.{Message}
use Rattle.krb_der.specs.declared.message.Message.TheVariants.{Safe, Priv}
use Rattle.krb_der.specs.Message.{Spells}
use Rattle.krb_structs.specs.declared.header.KrbHeader.{KrbHeader}

-- 1 if a number is present, else 0
abbrev pub is_told : Option ℕ → ℕ
is_told None = 0
is_told (Some n) = 1

-- KRB-SAFE tells its checksum's type, and the sequence number of its body
abbrev pub header_of_safe : SafeMsg → KrbHeader
header_of_safe m = record {
  kind = 20;
  etype = pos 0;
  checksum_type = m.cksum_type;
  has_number = is_told m.body.seq;
  number = unwrap_or m.body.seq 0;
  has_key_version = 0;
  key_version = 0;
  reserved = 0;
}

-- KRB-PRIV tells its encryption type, and the version of its key
abbrev pub header_of_priv : PrivMsg → KrbHeader
header_of_priv m = record {
  kind = 21;
  etype = m.etype;
  checksum_type = pos 0;
  has_number = 0;
  number = 0;
  has_key_version = is_told m.kvno;
  key_version = unwrap_or m.kvno 0;
  reserved = 0;
}

abbrev pub header_of : Message → KrbHeader
header_of (Safe m) = header_of_safe m
header_of (Priv m) = header_of_priv m

-- the bytes spell a message with this header
abbrev pub ReadsHeader : List ℕ → KrbHeader → Type 0
ReadsHeader frame h = (m : Message) × Spells m frame × (h ≡ header_of m)
