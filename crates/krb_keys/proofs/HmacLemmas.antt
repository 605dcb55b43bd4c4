-- The key's block, and the hash under it.
use Rattle.std.proofs.Common.{◌≡◌, List, ℕ, ◌-◌, ◌<◌, ◌≤◌, ◌++◌, length, replicate, drop, map, bit_xor, cond, ltb, Bool, true, false, ap, ◌∙◌, refl, sym, arith, inl, inr}
use Rattle.std.proofs.lemmas.Bool.{cases_lt, lt-ltb, le-ltb}
use Rattle.std.proofs.lemmas.List.{drop-replicate, length-append, length-map, length-replicate, length-take-le}
use Rattle.sha1.specs.Sha1.{sha1, digest_bytes}
use Rattle.krb_keys.specs.Hmac.{key_block, pad, hmac, hmac96}

-- zeros up to a block
filled : (short : List ℕ) (n : ℕ) → length short ≡ n
    → short ++ drop n (replicate 64 0) ≡ short ++ replicate (64 - length short) 0
filled short n e = ap (λ (x : List ℕ). short ++ x)
    (drop-replicate n 64 0 ∙ ap (λ (k : ℕ). replicate (64 - k) 0) (sym e))

-- the block of a key that is hashed first
pub long_key : (key part digest : List ℕ) → 64 < length key → length part ≡ 20 → digest ≡ sha1 key → part ≡ digest
    → part ++ drop 20 (replicate 64 0) ≡ key_block key
unfolding key_block
long_key key part digest h len d e =
    let t : ltb 64 (length key) ≡ true = lt-ltb 64 (length key) h in
    filled part 20 len
    ∙ ap (λ (x : List ℕ). x ++ replicate (64 - length x) 0) (e ∙ d)
    ∙ ap (λ (b : Bool). cond b (sha1 key) key ++ replicate (64 - length (cond b (sha1 key) key)) 0) (sym t)

-- the block of a key that fits
pub short_key : (key part : List ℕ) → length key ≤ 64 → part ≡ key
    → part ++ drop (length key) (replicate 64 0) ≡ key_block key
unfolding key_block
short_key key part h e =
    let t : ltb 64 (length key) ≡ false = le-ltb 64 (length key) h in
    filled part (length key) (ap length e)
    ∙ ap (λ (x : List ℕ). x ++ replicate (64 - length x) 0) e
    ∙ ap (λ (b : Bool). cond b (sha1 key) key ++ replicate (64 - length (cond b (sha1 key) key)) 0) (sym t)

-- a padded key is its masked block
pub pad_is : (byte : ℕ) (key block out : List ℕ) → block ≡ key_block key → out ≡ map (λ b. bit_xor b byte) block
    → out ≡ pad byte key
unfolding pad
pad_is byte key block out e f = f ∙ ap (map (λ (b : ℕ). bit_xor b byte)) e

-- the outer hash of the inner one is HMAC
pub hmac_is : (key text first second : List ℕ) → first ≡ sha1 (pad 0x36 key ++ text)
    → second ≡ sha1 (pad 0x5c key ++ first) → second ≡ hmac key text
unfolding hmac
hmac_is key text first second e f = f ∙ ap (λ (x : List ℕ). sha1 (pad 0x5c key ++ x)) e

-- the lengths of a digest and of a code
length-sha1 : (m : List ℕ) → length (sha1 m) ≡ 20
unfolding sha1 digest_bytes
length-sha1 m = refl

pub length-hmac : (key text : List ℕ) → length (hmac key text) ≡ 20
unfolding hmac
length-hmac key text = length-sha1 (pad 0x5c key ++ sha1 (pad 0x36 key ++ text))

pub length-hmac96 : (key text : List ℕ) → length (hmac96 key text) ≡ 12
length-hmac96 key text = length-take-le 12 (hmac key text) (omega (arith, length-hmac key text))

-- a padded key is one block
length-key_block : (key : List ℕ) → length (key_block key) ≡ 64
unfolding key_block
length-key_block key = elim (cases_lt 64 (length key)) [
  | inl long ↦ rw (lt-ltb 64 (length key) long) (omega (arith, length-append (sha1 key) (replicate (64 - length (sha1 key)) 0), length-replicate {A = ℕ} (64 - length (sha1 key)) 0, length-sha1 key))
  | inr short ↦ rw (le-ltb 64 (length key) short) (omega (arith, length-append key (replicate (64 - length key) 0), length-replicate {A = ℕ} (64 - length key) 0))
]

pub length-pad : (byte : ℕ) (key : List ℕ) → length (pad byte key) ≡ 64
unfolding pad
length-pad byte key = length-map (key_block key) (λ b. bit_xor b byte) ∙ length-key_block key
