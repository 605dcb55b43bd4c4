-- The checksum of a KRB-SAFE, by the fields before it.
use Rattle.std.specs.Prelude.{◌≡◌, ℕ, List, ◌++◌}
use Rattle.krb_der.specs.declared.safe.SafeMsg.{SafeMsg}
use Rattle.krb_der.specs.Message.{safe_input}
use Rattle.krb_der.specs.Safe.{before_checksum}
use Rattle.krb_seal.specs.Seals.{safe_checksum}

-- It is the checksum of each message that has these fields before its checksum.
abbrev pub Sums : List ℕ → List ℕ → List ℕ → Type 0
Sums key fields sum = (m : SafeMsg) → before_checksum m ≡ fields → sum ≡ safe_checksum key m

-- The bytes are those under the checksum of each message that has these fields before its checksum.
abbrev pub IsCovered : List ℕ → List ℕ → Type 0
IsCovered fields bytes = (m : SafeMsg) → before_checksum m ≡ fields → bytes ≡ safe_input m

-- The bytes under the checksum of each message that has these fields before its checksum were appended.
abbrev pub PutsCovered : List ℕ → List ℕ → List ℕ → Type 0
PutsCovered fields old new = (m : SafeMsg) → before_checksum m ≡ fields → new ≡ old ++ safe_input m
