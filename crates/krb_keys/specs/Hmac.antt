-- HMAC over SHA-1 (RFC 2104). The hash H is `sha1`, whose blocks have B = 64 bytes.
use Rattle.std.specs.Prelude.{ℕ, ◌-◌, nat_lt, List, ◌++◌, length, map, take, replicate, bit_xor}
use Rattle.std.specs.Prelude.{if◌then◌else◌}
use Rattle.std.specs.Borrow.{Bor}
use Rattle.std.specs.List.{concat}
use Rattle.sha1.specs.Sha1.{sha1}

-- the key K as one block: a key longer than a block is hashed first, and zeros fill the block up
unfoldable pub key_block : List ℕ → List ℕ
key_block key =
    let short = if nat_lt 64 (length key) then sha1 key else key in
    short ++ replicate (64 - length short) 0

-- K XOR the byte, repeated over the block
unfoldable pub pad : ℕ → List ℕ → List ℕ
pad byte key = map (λ b. bit_xor b byte) (key_block key)

-- HMAC: H(K XOR opad, H(K XOR ipad, text)), where ipad is the byte 36 and opad the byte 5C,
-- repeated
unfoldable pub hmac : List ℕ → List ℕ → List ℕ
hmac key text = sha1 (pad 0x5c key ++ sha1 (pad 0x36 key ++ text))

-- HMAC-SHA1-96: the first 96 bits (RFC 3962, section 6)
abbrev pub hmac96 : List ℕ → List ℕ → List ℕ
hmac96 key text = take 12 (hmac key text)

-- the bytes of these slices, one after another
abbrev pub joined : List (Bor (List ℕ)) → List ℕ
joined parts = concat (map (λ part. part.now) parts)
