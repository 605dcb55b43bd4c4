-- The hash values after both padded keys of HMAC (RFC 2104, section 4), for several texts at a time.
use Rattle.std.specs.Prelude.{◌≡◌, List, ℕ}
use Rattle.krb_digests.specs.Rest.{after_block, wiped_hash}
use Rattle.krb_keys.specs.declared.batch_mac.BatchMac.{BatchMac}
use Rattle.krb_keys.specs.Hmac.{pad}

-- each hash value is that after the padded key
pub record HoldsBatchKey (mac : BatchMac) (key : List ℕ) : Type 0 where
  pub inner : mac.inner ≡ after_block (pad 0x36 key)
  pub outer : mac.outer ≡ after_block (pad 0x5c key)

-- both are wiped
pub record IsBatchForgotten (mac : BatchMac) : Type 0 where
  pub inner : mac.inner ≡ wiped_hash
  pub outer : mac.outer ≡ wiped_hash
