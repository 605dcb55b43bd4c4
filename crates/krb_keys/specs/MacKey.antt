-- The two hashes of HMAC (RFC 2104, section 4), each taken up to the end of its padded key.
use Rattle.std.specs.Prelude.{List, ℕ, []}
use Rattle.sha1.specs.Sha1.{Holds}
use Rattle.krb_keys.specs.declared.mac_key.MacKey.{MacKey}
use Rattle.krb_keys.specs.Hmac.{pad}

-- both hashes have taken in the padded key, and nothing else
pub record HoldsKey (mac : MacKey) (key : List ℕ) : Type 0 where
  pub inner : Holds mac.inner (pad 0x36 key)
  pub outer : Holds mac.outer (pad 0x5c key)

-- both hashes have taken in nothing
pub record IsForgotten (mac : MacKey) : Type 0 where
  pub inner : Holds mac.inner []
  pub outer : Holds mac.outer []
