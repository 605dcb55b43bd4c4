-- Opening as a function: the same checks, with reading from left to right and stealing undone. The
-- law `one_outcome` says that it is the outcome of `Opens`.
use Rattle.std.specs.Prelude.{ℕ, ◌-◌, List, length, take, drop, Option, Some, None, Ok, Err, []}
use Rattle.std.specs.Prelude.{◌∷◌, if◌then◌else◌}
use Rattle.krb_aes.specs.Keys.{expanded_key}
use Rattle.krb_aes.specs.Unstealing.{uncts}
use Rattle.krb_der.specs.declared.body.Body.{Body}
use Rattle.krb_der.specs.declared.message.Message.{Message}
use Rattle.krb_der.specs.declared.message.Message.TheVariants as messages
use Rattle.krb_der.specs.Reading.{message_of, part_of}
use Rattle.krb_seal.specs.declared.session.Expect.{Expect}
use Rattle.krb_seal.specs.declared.refusal.Refusal.TheVariants.{Malformed}
use Rattle.krb_etype.specs.Etype.{code_size, confounder_size}
use Rattle.krb_etype.specs.Keys.{encryption_key}
use Rattle.krb_seal.specs.Opens.{OpenerState, safe_checks}
use Rattle.krb_seal.specs.OpensParts.{Outcome, Checks, frame_checks}
use Rattle.krb_seal.specs.Opens.{priv_header, body_checks}
use Rattle.krb_seal.specs.OpensParts.{text_checks}

-- The refusal of the first test that isn't met, else what follows.
abbrev pub passed : Checks → Outcome → Outcome
passed [] next = next
passed ((met, r) ∷ rest) next = if met then passed rest next else Err r

abbrev pub read : {V : Type 0} → Option V → (V → Outcome) → Outcome
read None next = Err Malformed
read (Some v) next = next v

-- The text and the code of a cipher.
abbrev pub text_in : List ℕ → List ℕ → List ℕ
text_in key cipher =
    uncts (expanded_key (encryption_key key)) (take (length cipher - code_size) cipher)

abbrev pub tag_in : List ℕ → List ℕ
tag_in cipher = drop (length cipher - code_size) cipher

abbrev pub opens_part : Expect → ℕ → ℕ → Body → Outcome
opens_part x number now b = passed (body_checks x number now b) (Ok b.user_data)

abbrev pub opens_text : OpenerState → ℕ → ℕ → List ℕ → List ℕ → Outcome
opens_text o number now text tag =
    passed (text_checks o.key text tag)
    (read (part_of (drop confounder_size text)) (opens_part o.expect number now))

abbrev pub opens_message : OpenerState → ℕ → ℕ → Message → Outcome
opens_message o number now (messages.Safe m) =
    passed (safe_checks o number now m) (Ok m.body.user_data)
opens_message o number now (messages.Priv m) =
    passed (priv_header o.etype o.expect m)
    (opens_text o number now (text_in o.key m.cipher) (tag_in m.cipher))

unfoldable pub opens : OpenerState → ℕ → ℕ → List ℕ → Outcome
opens o number now bytes =
    passed (frame_checks bytes) (read (message_of bytes) (opens_message o number now))
