-- Opening without demands has an outcome, since opening with demands has one.
use Rattle.std.proofs.Common.{ℕ, true, false, List, [], ◌∷◌, drop, Result, Ok, Err, refl, inl, inr}
use Rattle.krb_base.specs.Bytes.{AreBytes}
use Rattle.krb_der.specs.declared.message.Message.{Message}
use Rattle.krb_der.specs.declared.message.Message.TheVariants as messages
use Rattle.krb_der.specs.Message.{Spells, SpellsPart}
use Rattle.krb_seal.specs.declared.refusal.Refusal.{Refusal}
use Rattle.krb_seal.specs.declared.refusal.Refusal.TheVariants.{Malformed}
use Rattle.krb_seal.specs.Opens.{OpenerState, Passes, Read, Decrypt, OpensText, OpensMessage, Opens, priv_header}
use Rattle.krb_seal.specs.OpensParts.{Outcome, Checks, OpensPart, frame_checks, text_checks}
use Rattle.krb_seal.specs.Opening.{opens}
use Rattle.krb_seal.specs.Authentic.{Authenticity, GivesBody, AuthenticText, AuthenticMessage, Authenticates, authentic_checks}
use Rattle.krb_seal.proofs.Openings.{one_outcome}

module _ {A B : Type 0} where
  passes_too : (checks : Checks) (P : Result A Refusal → Type 0) (Q : Result B Refusal → Type 0) (x : Result A Refusal)
      → ((y : Result A Refusal) → P y → (z : Result B Refusal) × Q z) → Passes checks P x → (z : Result B Refusal) × Passes checks Q z
  passes_too [] P Q x h p = h x p
  passes_too ((true, r) ∷ rest) P Q x h p = passes_too rest P Q x h p
  passes_too ((false, r) ∷ rest) P Q x h p = (Err r, refl)

  read_too : {V : Type 0} (Spelt : V → List ℕ → Type 0) (bytes : List ℕ) (P : V → Result A Refusal → Type 0) (Q : V → Result B Refusal → Type 0) (x : Result A Refusal)
      → ((v : V) (y : Result A Refusal) → P v y → (z : Result B Refusal) × Q v z) → Read Spelt bytes P x → (z : Result B Refusal) × Read Spelt bytes Q z
  read_too Spelt bytes P Q x h (inl p) = (Err Malformed, inl (p.0, refl))
  read_too Spelt bytes P Q x h (inr p) = let s = h p.0 x p.2 in (s.0, inr (p.0, p.1, s.1))

passes_any : {A : Type 0} (checks : Checks) (Q : Result A Refusal → Type 0) (z : Result A Refusal) → Q z → (y : Result A Refusal) × Passes checks Q y
passes_any [] Q z q = (z, q)
passes_any ((true, r) ∷ rest) Q z q = passes_any rest Q z q
passes_any ((false, r) ∷ rest) Q z q = (Err r, refl)

text_too : (o : OpenerState) (number now : ℕ) (text tag : List ℕ) (x : Outcome) → OpensText o number now text tag x → (z : Authenticity) × AuthenticText o.key text tag z
text_too o number now text tag x p =
    passes_too (text_checks o.key text tag) (Read SpellsPart (drop 16 text) (OpensPart o.expect number now)) (Read SpellsPart (drop 16 text) GivesBody) x
    (λ y r. read_too SpellsPart (drop 16 text) (OpensPart o.expect number now) GivesBody y (λ b z q. (Ok b, refl)) r) p

message_too : (o : OpenerState) (number now : ℕ) (m : Message) (x : Outcome) → OpensMessage o number now m x → (z : Authenticity) × AuthenticMessage o m z
message_too o number now (messages.Safe m) x p = passes_any (authentic_checks o m) (GivesBody m.body) (Ok m.body) refl
message_too o number now (messages.Priv m) x p =
    passes_too (priv_header o.etype o.expect m) (Decrypt o.key m.cipher (OpensText o number now)) (Decrypt o.key m.cipher (AuthenticText o.key)) x
    (λ y d. let t = text_too o number now d.0 d.1 y d.3 in (t.0, (d.0, d.1, d.2, t.1))) p

pub authentic_or_not : (o : OpenerState) (bytes : List ℕ) → AreBytes bytes → (z : Authenticity) × Authenticates o bytes z
authentic_or_not o bytes h =
    let outcome = opens o 0 0 bytes in
    let p : Opens o 0 0 bytes outcome = (one_outcome o 0 0 bytes outcome h).1 refl in
    passes_too (frame_checks bytes) (Read Spells bytes (OpensMessage o 0 0)) (Read Spells bytes (AuthenticMessage o)) outcome
    (λ y r. read_too Spells bytes (OpensMessage o 0 0) (AuthenticMessage o) y (λ m z q. message_too o 0 0 m z q) r) p
