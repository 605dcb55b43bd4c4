-- Names for parts of what Opens says, which private contracts and proofs cite.
use Rattle.std.specs.Prelude.{◌≡◌, ℕ, List, [], ◌∷◌, length, Result, Ok, Bool, nat_le}
use Rattle.std.specs.Str.{bytes_eq}
use Rattle.krb_base.specs.Limits.{frame_limit}
use Rattle.krb_der.specs.declared.body.Body.{Body}
use Rattle.krb_der.specs.declared.safe.SafeMsg.{SafeMsg}
use Rattle.krb_seal.specs.declared.session.Expect.{Expect}
use Rattle.krb_seal.specs.declared.refusal.Refusal.{Refusal}
use Rattle.krb_seal.specs.declared.refusal.Refusal.TheVariants.{FieldTooLong, BadIntegrity, Modified}
use Rattle.krb_etype.specs.Keys.{tag_of}
use Rattle.krb_seal.specs.Seals.{safe_checksum}
use Rattle.krb_seal.specs.Opens.{body_checks, Passes}

-- The user data, or a refusal.
abbrev pub Outcome : Type 0
Outcome = Result (List ℕ) Refusal

-- Tests in their order, each with the refusal if it isn't met.
abbrev pub Checks : Type 0
Checks = List (Bool × Refusal)

-- The check of the bytes, before they are read.
abbrev pub frame_checks : List ℕ → Checks
frame_checks bytes = (nat_le (length bytes) frame_limit, FieldTooLong) ∷ []

-- The check of the checksum of KRB-SAFE.
abbrev pub checksum_checks : List ℕ → SafeMsg → Checks
checksum_checks key m = (bytes_eq m.checksum (safe_checksum key m), Modified) ∷ []

-- The check of a deciphered text and the code after its cipher.
abbrev pub text_checks : List ℕ → List ℕ → List ℕ → Checks
text_checks key text tag = (bytes_eq tag (tag_of key text), BadIntegrity) ∷ []

-- The outcome of an authentic body.
abbrev pub OpensPart : Expect → ℕ → ℕ → Body → Outcome → Type 0
OpensPart x number now b outcome =
    Passes (body_checks x number now b) (λ y. y ≡ Ok b.user_data) outcome
