-- Each input has one outcome.
use Rattle.std.proofs.Common.{◌≡◌, ℕ, true, false, List, [], ◌∷◌, drop, Result, Ok, refl, sym, subst, ◌∙◌, inl, inr}
use Rattle.krb_der.specs.declared.message.Message.{Message}
use Rattle.krb_der.specs.declared.message.Message.TheVariants as messages
use Rattle.krb_der.specs.Message.{Spells, SpellsPart, UniqueSpelling}
use Rattle.krb_der.proofs.Grammar.{messages_unique, parts_unique}
use Rattle.krb_seal.specs.declared.refusal.Refusal.{Refusal}
use Rattle.krb_seal.specs.Opens.{OpenerState, Passes, Read, Decrypt, OpensText, OpensMessage, Opens, safe_checks, priv_header, body_checks}
use Rattle.krb_seal.specs.OpensParts.{Checks, OpensPart, frame_checks, text_checks}
use Rattle.krb_seal.specs.Authentic.{AuthenticMessage, AuthenticText, GivesBody, authentic_checks}
use Rattle.krb_seal.specs.Laws.{OneAuthenticity}
use Rattle.krb_seal.proofs.CipherTexts.{one_text}

abbrev pub Unique : {A : Type 0} → (A → Type 0) → Type 0
Unique {A} P = (a b : A) → P a → P b → a ≡ b

pub passes_unique : {A : Type 0} (checks : Checks) (Then : Result A Refusal → Type 0) → Unique Then → Unique (Passes checks Then)
passes_unique [] Then h a b p q = h a b p q
passes_unique ((true, r) ∷ rest) Then h a b p q = passes_unique rest Then h a b p q
passes_unique ((false, r) ∷ rest) Then h a b p q = p ∙ sym q

pub read_unique : {V A : Type 0} (Spelt : V → List ℕ → Type 0) (bytes : List ℕ) (Then : V → Result A Refusal → Type 0)
    → UniqueSpelling Spelt → ((v : V) → Unique (Then v)) → Unique (Read Spelt bytes Then)
read_unique Spelt bytes Then u h a b (inl p) (inl q) = p.1 ∙ sym q.1
read_unique Spelt bytes Then u h a b (inl p) (inr q) = absurd (p.0 q.0 q.1)
read_unique Spelt bytes Then u h a b (inr p) (inl q) = absurd (q.0 p.0 p.1)
read_unique Spelt bytes Then u h a b (inr p) (inr q) =
    h q.0 a b (subst (λ v. Then v a) (u p.0 q.0 bytes bytes [] [] p.1 q.1 refl).0 p.2) q.2

decrypt_unique : {A : Type 0} (key cipher : List ℕ) (Then : List ℕ → List ℕ → Result A Refusal → Type 0)
    → ((text tag : List ℕ) → Unique (Then text tag)) → Unique (Decrypt key cipher Then)
decrypt_unique key cipher Then h a b p q =
    let same = one_text key cipher p.0 p.1 q.0 q.1 p.2 q.2 in
    h q.0 q.1 a b (subst (λ tag. Then q.0 tag a) same.1 (subst (λ text. Then text p.1 a) same.0 p.3)) q.3

gives_unique : {A : Type 0} (z : A) → Unique (λ y. y ≡ z)
gives_unique z a b p q = p ∙ sym q

text_unique : (o : OpenerState) (q now : ℕ) (text tag : List ℕ) → Unique (OpensText o q now text tag)
text_unique o q now text tag =
    passes_unique (text_checks o.key text tag) _
    (read_unique SpellsPart (drop 16 text) (OpensPart o.expect q now) parts_unique
    (λ b. passes_unique (body_checks o.expect q now b) _ (gives_unique (Ok b.user_data))))

message_unique : (o : OpenerState) (q now : ℕ) (m : Message) → Unique (OpensMessage o q now m)
message_unique o q now (messages.Safe m) = passes_unique (safe_checks o q now m) _ (gives_unique (Ok m.body.user_data))
message_unique o q now (messages.Priv m) =
    passes_unique (priv_header o.etype o.expect m) _ (decrypt_unique o.key m.cipher (OpensText o q now) (text_unique o q now))

pub outcomes_unique : (o : OpenerState) (q now : ℕ) (bytes : List ℕ) → Unique (Opens o q now bytes)
outcomes_unique o q now bytes =
    passes_unique (frame_checks bytes) _ (read_unique Spells bytes (OpensMessage o q now) messages_unique (message_unique o q now))

-- ---- without demands

authentic_text_unique : (key text tag : List ℕ) → Unique (AuthenticText key text tag)
authentic_text_unique key text tag =
    passes_unique (text_checks key text tag) _ (read_unique SpellsPart (drop 16 text) GivesBody parts_unique (λ b. gives_unique (Ok b)))

authentic_message_unique : (o : OpenerState) (m : Message) → Unique (AuthenticMessage o m)
authentic_message_unique o (messages.Safe m) = passes_unique (authentic_checks o m) _ (gives_unique (Ok m.body))
authentic_message_unique o (messages.Priv m) =
    passes_unique (priv_header o.etype o.expect m) _ (decrypt_unique o.key m.cipher (AuthenticText o.key) (authentic_text_unique o.key))

pub one_authenticity : OneAuthenticity
one_authenticity o bytes =
    passes_unique (frame_checks bytes) _ (read_unique Spells bytes (AuthenticMessage o) messages_unique (authentic_message_unique o))
