-- What the code follows, and no part of the standard: what the parts of a text become, so that a
-- text can be encrypted and decrypted part by part.
use Rattle.std.specs.Prelude.{◌≡◌, ◌<◌, ℕ, ◌-◌, List, ◌++◌, length, take, drop}
use Rattle.krb_aes.specs.Cipher.{cipher}
use Rattle.krb_aes.specs.InverseCipher.{inv_cipher}
use Rattle.krb_aes.specs.Stealing.{xor_block, cts_from}

-- what the last 17 to 32 bytes of a text become
unfoldable pub stolen : List ℕ → List ℕ → List ℕ → List ℕ
stolen w state text =
    let first = cipher w (xor_block (take 16 text) state) in
    cipher w (xor_block (drop 16 text) first) ++ take (length text - 16) first

-- texts that continue after `old` are encrypted to `new`, and further from state `last`
pub record IsChained (w state old new last : List ℕ) : Type 0 where
  pub goes_on : (r : List ℕ) → 16 < length r
      → cts_from w state (old ++ r) ≡ new ++ cts_from w last r

-- four blocks of a chain decrypted, from the block before them
unfoldable pub unchained_four : List ℕ → List ℕ → List ℕ → List ℕ
unchained_four w state text =
    let a = take 16 text in
    let b = take 16 (drop 16 text) in
    let c = take 16 (drop 32 text) in
    let d = take 16 (drop 48 text) in
    xor_block (inv_cipher w a) state
    ++ (xor_block (inv_cipher w b) a
    ++ (xor_block (inv_cipher w c) b ++ xor_block (inv_cipher w d) c))
