-- What the keys of a session are for: in KRB-SAFE for a checksum, in KRB-PRIV for encryption (RFC 4120
-- sections 3.4 and 3.5).
use Rattle.krb_etype.specs.declared.keys.Purpose.{Purpose}
use Rattle.krb_etype.specs.declared.keys.Purpose.TheVariants.{Checksum, Encryption}
use Rattle.krb_seal.specs.declared.session.Mode.{Mode}
use Rattle.krb_seal.specs.declared.session.Mode.TheVariants.{Safe, Priv}

abbrev pub purpose_of : Mode → Purpose
purpose_of Safe = Checksum
purpose_of Priv = Encryption
