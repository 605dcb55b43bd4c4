-- The published vectors that `vectors` prints: a line for each, with its name and the digits of
-- what the definition gives at the published input.
use Rattle.std.specs.Prelude.{ℕ, zero, suc, ◌*◌, List, [], ◌∷◌, ◌++◌, codes, map, replicate}
use Rattle.hex.specs.Hex.{encode_lower}
use Rattle.krb_aes.specs.Keys.{aes, expanded_key}
use Rattle.krb_aes.specs.Stealing.{cts}
use Rattle.krb_keys.specs.Hmac.{hmac}
use Rattle.krb_keys.specs.Nfold.{nfold}

abbrev pub vector_line : List ℕ → List ℕ → List ℕ
vector_line name value = name ++ codes " " ++ encode_lower value ++ codes "\n"

-- the first n bytes: 00, 01, 02 and so on
abbrev pub first_bytes : ℕ → List ℕ
first_bytes zero = []
first_bytes (suc n) = first_bytes n ++ n ∷ []

-- 00, 11, 22 and so on to ff
abbrev pub block : List ℕ
block = map (λ b. 0x11 * b) (first_bytes 16)

-- AES with ciphertext stealing under the key of RFC 3962, appendix B
abbrev pub teriyaki : List ℕ → List ℕ
teriyaki text = cts (expanded_key (codes "chicken teriyaki")) text

-- FIPS 197, appendix C.1 and C.3, and RFC 3962, appendix B
abbrev pub aes_lines : List ℕ
aes_lines =
    vector_line (codes "aes128") (aes (first_bytes 16) block)
    ++ vector_line (codes "aes256") (aes (first_bytes 32) block)
    ++ vector_line (codes "cts17") (teriyaki (codes "I would like the "))
    ++ vector_line (codes "cts32") (teriyaki (codes "I would like the General Gau's C"))

-- RFC 3961, appendix A.1
abbrev pub nfold_lines : List ℕ
nfold_lines =
    vector_line (codes "nfold64") (nfold 8 (codes "012345"))
    ++ vector_line (codes "nfold56") (nfold 7 (codes "password"))
    ++ vector_line (codes "nfold128") (nfold 16 (codes "kerberos"))

-- RFC 2202, section 3, the first two cases
abbrev pub hmac_lines : List ℕ
hmac_lines =
    vector_line (codes "hmac1") (hmac (replicate 20 0x0b) (codes "Hi There"))
    ++ vector_line (codes "hmac2") (hmac (codes "Jefe") (codes "what do ya want for nothing?"))

-- the whole output
abbrev pub vectors_text : List ℕ
vectors_text = aes_lines ++ nfold_lines ++ hmac_lines
