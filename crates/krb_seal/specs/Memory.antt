-- When opening asks for memory: only to copy what passed the checks before.
use Rattle.std.specs.Prelude.{◌≡◌, ℕ, List, None}
use Rattle.krb_der.specs.declared.message.Message.{Message}
use Rattle.krb_der.specs.declared.message.Message.TheVariants as messages
use Rattle.krb_der.specs.Message.{Spells}
use Rattle.krb_seal.specs.Opens.{OpenerState, safe_checks, priv_header}
use Rattle.krb_seal.specs.OpensParts.{Checks}
use Rattle.krb_seal.specs.Authentic.{authentic_checks}
use Rattle.krb_seal.specs.Unseals.{first_unmet}

-- Each check is met.
abbrev pub AreMet : Checks → Type 0
AreMet checks = first_unmet checks ≡ None

-- What is copied of a message: the user data of a KRB-SAFE that is accepted, and the encrypted part of
-- a KRB-PRIV whose header passes, which is deciphered in its copy.
abbrev pub AsksForMessage : OpenerState → ℕ → ℕ → Message → Type 0
AsksForMessage o number now (messages.Safe m) = AreMet (safe_checks o number now m)
AsksForMessage o number now (messages.Priv m) = AreMet (priv_header o.etype o.expect m)

-- The bytes spell a message of which something is copied.
abbrev pub AsksForMemory : OpenerState → ℕ → ℕ → List ℕ → Type 0
AsksForMemory o number now bytes =
    (m : Message) × Spells m bytes × AsksForMessage o number now m

-- The same without demands: of a KRB-SAFE that is authentic the body is copied.
abbrev pub AsksForBody : OpenerState → Message → Type 0
AsksForBody o (messages.Safe m) = AreMet (authentic_checks o m)
AsksForBody o (messages.Priv m) = AreMet (priv_header o.etype o.expect m)

abbrev pub AsksWithoutDemands : OpenerState → List ℕ → Type 0
AsksWithoutDemands o bytes = (m : Message) × Spells m bytes × AsksForBody o m
