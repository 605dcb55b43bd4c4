-- Under which key the codes are made that a purpose asks for.
use Rattle.std.specs.Prelude.{ℕ, List}
use Rattle.krb_etype.specs.declared.keys.Purpose.{Purpose}
use Rattle.krb_etype.specs.declared.keys.Purpose.TheVariants.{Checksum, Encryption}
use Rattle.krb_etype.specs.Keys.{checksum_key, integrity_key}

abbrev pub code_key : Purpose → List ℕ → List ℕ
code_key Checksum key = checksum_key key
code_key Encryption key = integrity_key key
