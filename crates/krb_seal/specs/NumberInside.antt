-- Where the number of a frame that is refused by its number comes from: its authentic body, whose
-- addresses and time fit.
use Rattle.std.specs.Prelude.{◌≡◌, ◌⊎◌, ℕ, List, true, Option, None, Ok, Err}
use Rattle.krb_der.specs.declared.body.Body.{Body}
use Rattle.krb_der.specs.declared.message.Message.{Message}
use Rattle.krb_der.specs.declared.safe.SafeMsg.{SafeMsg}
use Rattle.krb_seal.specs.declared.session.Expect.{Expect}
use Rattle.krb_seal.specs.declared.refusal.Refusal.TheVariants.{BadOrder}
use Rattle.krb_seal.specs.declared.unopened.Unopened.{Unopened}
use Rattle.krb_seal.specs.Opens.{OpenerState, addresses_fit, is_current}
use Rattle.krb_seal.specs.Authentic.{Authenticity, AuthenticMessage, AuthenticText, authentic_checks}
use Rattle.krb_seal.specs.Unseals.{first_unmet}

-- The body passes its checks but for that of its number.
pub record FitsButForNumber (x : Expect) (now : ℕ) (b : Body) : Type 0 where
  pub addresses : addresses_fit x b ≡ true
  pub current : is_current x now b.time b.usec ≡ true

-- The number of an authentic body that fits, and none of a message that isn't authentic.
abbrev pub IsNumberOf : Expect → ℕ → Authenticity → Option ℕ → Type 0
IsNumberOf x now (Ok b) number = (number ≡ b.seq) × FitsButForNumber x now b
IsNumberOf x now (Err refusal) number = number ≡ None

-- The number of a KRB-SAFE that is authentic, and none of another.
abbrev pub IsAuthenticNumber : OpenerState → SafeMsg → Option ℕ → Type 0
IsAuthenticNumber o m number =
    ((first_unmet (authentic_checks o m) ≡ None) × (number ≡ m.body.seq))
    ⊎ ((¬ (first_unmet (authentic_checks o m) ≡ None)) × (number ≡ None))

-- What is reported of a body that is refused by its number.
abbrev pub TellsOfBody : Expect → ℕ → Body → Unopened → Type 0
TellsOfBody x now b unopened =
    unopened.refusal ≡ BadOrder → (unopened.number ≡ b.seq) × FitsButForNumber x now b

-- Of a deciphered text.
abbrev pub TellsOfText : OpenerState → ℕ → List ℕ → List ℕ → Unopened → Type 0
TellsOfText o now text tag unopened = unopened.refusal ≡ BadOrder
    → (answer : Authenticity) × AuthenticText o.key text tag answer
    × IsNumberOf o.expect now answer unopened.number

-- And of a message.
abbrev pub TellsOfMessage : OpenerState → ℕ → Message → Unopened → Type 0
TellsOfMessage o now m unopened = unopened.refusal ≡ BadOrder
    → (answer : Authenticity) × AuthenticMessage o m answer
    × IsNumberOf o.expect now answer unopened.number
