-- Key derivation (RFC 3961, section 5.1) for keys of 16 or 32 bytes, with AES as the cipher.
use Rattle.std.specs.Prelude.{ℕ, List, [], ◌∷◌, ◌++◌, length, take}
use Rattle.std.specs.Int.{w32, to_be_bytes}
use Rattle.krb_aes.specs.Keys.{aes}
use Rattle.krb_keys.specs.Nfold.{nfold}

-- the constant of a key usage: its four bytes, the highest first, and a tail byte (section 5.3)
abbrev pub constant : ℕ → ℕ → List ℕ
constant usage tail = to_be_bytes w32 usage ++ tail ∷ []

-- DR: the blocks K1 = E(Key, Constant) and K2 = E(Key, K1), joined and cut to the key's length, for
-- a constant of one block. Its bytes are the derived key (random-to-key of RFC 3962, section 6)
unfoldable pub dr : List ℕ → List ℕ → List ℕ
dr key block =
    let first = aes key block in
    take (length key) (first ++ aes key first)

-- DK: DR of the constant, n-folded to a block
unfoldable pub dk : List ℕ → ℕ → ℕ → List ℕ
dk key usage tail = dr key (nfold 16 (constant usage tail))
