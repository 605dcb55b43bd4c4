-- The number of a frame that is refused by its number.
use Rattle.std.proofs.Common.{◌≡◌, ℕ, Bool, true, false, List, [], ◌∷◌, length, Option, Some, None, Result, Ok, Err, refl, sym, ap, subst, ◌∙◌, inl, inr}
use Rattle.std.specs.Prelude.{IfErr}
use Rattle.std.proofs.lemmas.Bool.{eq-eqb, le-leb}
use Rattle.krb_base.specs.Limits.{frame_limit}
use Rattle.krb_der.specs.declared.body.Body.{Body}
use Rattle.krb_der.specs.declared.safe.SafeMsg.{SafeMsg}
use Rattle.krb_der.specs.declared.private.PrivMsg.{PrivMsg}
use Rattle.krb_der.specs.declared.message.Message.{Message}
use Rattle.krb_der.specs.declared.message.Message.TheVariants as messages
use Rattle.krb_der.specs.Message.{Spells}
use Rattle.krb_seal.specs.declared.session.Expect.{Expect}
use Rattle.krb_seal.specs.declared.refusal.Refusal.{Refusal}
use Rattle.krb_seal.specs.declared.refusal.Refusal.TheVariants.{BadVersion, MsgType, InappCksum, BadAddr, Skew, BadOrder, Modified, Memory}
use Rattle.krb_seal.specs.declared.unopened.Unopened.{Unopened}
use Rattle.krb_etype.specs.Keys.{IsEncryption}
use Rattle.krb_seal.specs.Opens.{OpenerState, Read, safe_checks, body_checks, is_number, priv_header}
use Rattle.krb_seal.specs.Memory.{AreMet}
use Rattle.krb_seal.specs.OpensParts.{OpensPart, frame_checks}
use Rattle.krb_seal.specs.Authentic.{Authenticity, Authenticates, AuthenticMessage, AuthenticText, GivesBody, authentic_checks}
use Rattle.krb_seal.specs.Number.{OpensAt, IsItsNumber, TellsNumber}
use Rattle.krb_seal.specs.NumberInside.{FitsButForNumber, IsNumberOf, IsAuthenticNumber, TellsOfBody, TellsOfMessage, TellsOfText}
use Rattle.krb_seal.specs.Unseals.{Checked, OrMemory, first_unmet, refusal_of}
use Rattle.krb_seal.proofs.SealedFrames.{met_all, all_met}
use Rattle.krb_seal.proofs.Checking.{all_passed_for, authentic_text_of, not_passed}
use Rattle.krb_seal.proofs.Outcomes.{one_authenticity}
use Rattle.krb_seal.proofs.Authentics.{opens_the_authentic}

-- ---- refused by its number, a body passes the checks before

body_alone : (a c n : Bool) → first_unmet ((a, BadAddr) ∷ (c, Skew) ∷ (n, BadOrder) ∷ []) ≡ Some BadOrder → (a ≡ true) × (c ≡ true)
body_alone true true n h = (refl, refl)
body_alone true false n h = absurd cc
body_alone false c n h = absurd cc

safe_alone : (v t k a c n d : Bool)
    → first_unmet ((v, BadVersion) ∷ (t, MsgType) ∷ (k, InappCksum) ∷ (a, BadAddr) ∷ (c, Skew) ∷ (n, BadOrder) ∷ (d, Modified) ∷ []) ≡ Some BadOrder
    → (a ≡ true) × (c ≡ true)
safe_alone true true true true true n d h = (refl, refl)
safe_alone true true true true false n d h = absurd cc
safe_alone true true true false c n d h = absurd cc
safe_alone true true false a c n d h = absurd cc
safe_alone true false k a c n d h = absurd cc
safe_alone false t k a c n d h = absurd cc

pub body_fits : (x : Expect) (number now : ℕ) (b : Body) (made : Result Unit Refusal) → Checked (body_checks x number now b) made → made ≡ Err BadOrder → FitsButForNumber x now b
body_fits x number now b made h is =
    let both = body_alone _ _ _ (h ∙ ap refusal_of is) in record { addresses = both.0; current = both.1 }

safe_fits : (o : OpenerState) (number now : ℕ) (m : SafeMsg) (made : Result Unit Refusal) → Checked (safe_checks o number now m) made → made ≡ Err BadOrder → FitsButForNumber o.expect now m.body
safe_fits o number now m made h is =
    let both = safe_alone _ _ _ _ _ _ _ (h ∙ ap refusal_of is) in record { addresses = both.0; current = both.1 }

-- ---- what is told of a message

refusal_in : (found : Option Refusal) → (found ≡ None → ⊥) → (r : Refusal) × (found ≡ Some r)
refusal_in None h = absurd (h refl)
refusal_in (Some r) h = (r, refl)

authentic_or_not : (o : OpenerState) (now : ℕ) (m : SafeMsg) (number : Option ℕ) → FitsButForNumber o.expect now m.body → IsAuthenticNumber o m number
    → (answer : Authenticity) × AuthenticMessage o (messages.Safe m) answer × IsNumberOf o.expect now answer number
authentic_or_not o now m number fits (inl h) =
    let met : Checked {A = Unit} (authentic_checks o m) (Ok tt) = h.0 in
    (Ok m.body, all_passed_for {A = Unit} (authentic_checks o m) (GivesBody m.body) (Ok tt) tt (Ok m.body) met refl refl, (h.1, fits))
authentic_or_not o now m number fits (inr h) =
    let found = refusal_in (first_unmet (authentic_checks o m)) h.0 in
    let unmet : Checked {A = Unit} (authentic_checks o m) (Err found.0) = found.1 in
    (Err found.0, not_passed {A = Unit} (authentic_checks o m) (GivesBody m.body) (Err found.0) found.0 (Err found.0) unmet refl refl, h.1)

pub safe_tells : (o : OpenerState) (number now : ℕ) (m : SafeMsg) (made : Result Unit Refusal) (u : Unopened) → Checked (safe_checks o number now m) made → made ≡ Err u.refusal
    → (u.refusal ≡ BadOrder → IsAuthenticNumber o m u.number) → TellsOfMessage o now (messages.Safe m) u
safe_tells o number now m made u h is told e =
    authentic_or_not o now m u.number (safe_fits o number now m made h (is ∙ ap Err e)) (told e)

pub text_tells : (o : OpenerState) (now : ℕ) (text tag : List ℕ) (made : Authenticity) (b : Body) (u : Unopened) → OrMemory (AuthenticText o.key text tag) made → made ≡ Ok b
    → TellsOfBody o.expect now b u → TellsOfText o now text tag u
text_tells o now text tag made b u (inl h) is told e = absurd (let f : Ok b ≡ Err Memory = sym is ∙ h in cc)
text_tells o now text tag made b u (inr h) is told e = (Ok b, subst (λ (z : Authenticity). AuthenticText o.key text tag z) is h, told e)

pub text_untold : (o : OpenerState) (now : ℕ) (text tag : List ℕ) (made : Authenticity) (r : Refusal) (u : Unopened) → OrMemory (AuthenticText o.key text tag) made → made ≡ Err r
    → u ≡ record { refusal = r; number = None } → TellsOfText o now text tag u
text_untold o now text tag made r u (inl h) is same e =
    absurd (let f : ◌≡◌ {A = Authenticity} (Err BadOrder) (Err Memory) = ap Err (sym e ∙ ap (λ (z : Unopened). z.refusal) same) ∙ sym is ∙ h in cc)
text_untold o now text tag made r u (inr h) is same e =
    (Err r, subst (λ (z : Authenticity). AuthenticText o.key text tag z) is h, ap (λ (z : Unopened). z.number) same)

-- what is told of a text is told of its message
pub message_tells : (o : OpenerState) (now : ℕ) (m : PrivMsg) (text tag : List ℕ) (u : Unopened) → AreMet (priv_header o.etype o.expect m) → IsEncryption o.key m.cipher text tag
    → TellsOfText o now text tag u → TellsOfMessage o now (messages.Priv m) u
message_tells o now m text tag u met enc told e =
    let t = told e in
    (t.0, authentic_text_of o m text tag t.0 met enc t.1, t.2)

pub message_told : (o : OpenerState) (now : ℕ) (m : PrivMsg) (text tag : List ℕ) (result : Result (List ℕ) Unopened) → AreMet (priv_header o.etype o.expect m) → IsEncryption o.key m.cipher text tag
    → IfErr result (TellsOfText o now text tag) → IfErr result (TellsOfMessage o now (messages.Priv m))
message_told o now m text tag (Ok v) met enc h = h
message_told o now m text tag (Err u) met enc h = message_tells o now m text tag u met enc h

-- ---- of a frame

same_body : (a b : Body) → ◌≡◌ {A = Authenticity} (Ok a) (Ok b) → a ≡ b
same_body a b e = cc

none_opens : (o : OpenerState) (now : ℕ) (frame : List ℕ) (r : Refusal) (number : ℕ) → Authenticates o frame (Err r) → OpensAt o now frame number → ⊥
none_opens o now frame r number is at =
    let f = (opens_the_authentic o number now frame at.0).0 at.1 in
    let e : ◌≡◌ {A = Authenticity} (Ok f.0) (Err r) = one_authenticity o frame (Ok f.0) (Err r) f.1 is in
    absurd cc

opens_at : (o : OpenerState) (now : ℕ) (frame : List ℕ) (b : Body) (n : ℕ) → Authenticates o frame (Ok b) → FitsButForNumber o.expect now b → b.seq ≡ Some n → OpensAt o now frame n
opens_at o now frame b n is fits e =
    let own : is_number n b.seq ≡ true = ap (is_number n) e ∙ eq-eqb n n refl in
    let part : OpensPart o.expect n now b (Ok b.user_data) =
    all_met (body_checks o.expect n now b) (λ y. y ≡ Ok b.user_data) (Ok b.user_data) (fits.addresses, (fits.current, (own, tt))) refl in
    (b.user_data, (opens_the_authentic o n now frame b.user_data).1 (b, is, part))

opens_nowhere : (o : OpenerState) (now : ℕ) (frame : List ℕ) (b : Body) (n : ℕ) → Authenticates o frame (Ok b) → b.seq ≡ None → OpensAt o now frame n → ⊥
opens_nowhere o now frame b n is e at =
    let f = (opens_the_authentic o n now frame at.0).0 at.1 in
    let same : f.0 ≡ b = same_body f.0 b (one_authenticity o frame (Ok f.0) (Ok b) f.1 is) in
    let met = met_all (body_checks o.expect n now f.0) (λ y. y ≡ Ok f.0.user_data) at.0 f.2 in
    let none : is_number n f.0.seq ≡ false = ap (is_number n) (ap (λ (z : Body). z.seq) same ∙ e) in
    let clash : false ≡ true = sym none ∙ met.0.1.1.0 in
    absurd cc

by_number : (o : OpenerState) (now : ℕ) (frame : List ℕ) (b : Body) (number : Option ℕ) → Authenticates o frame (Ok b) → FitsButForNumber o.expect now b → b.seq ≡ number → IsItsNumber o now frame number
by_number o now frame b None is fits e = λ n at. opens_nowhere o now frame b n is e at
by_number o now frame b (Some n) is fits e = opens_at o now frame b n is fits e

its_number : (o : OpenerState) (now : ℕ) (frame : List ℕ) (answer : Authenticity) (number : Option ℕ) → Authenticates o frame answer → IsNumberOf o.expect now answer number → IsItsNumber o now frame number
its_number o now frame (Ok b) number is h = by_number o now frame b number is h.1 (sym h.0)
its_number o now frame (Err r) number is h =
    subst (λ (z : Option ℕ). IsItsNumber o now frame z) (sym h) (λ n at. none_opens o now frame r n is at)

pub frame_tells : (o : OpenerState) (now at : ℕ) (frame : List ℕ) (m : Message) (u : Unopened) → at ≡ now → Spells m frame → TellsOfMessage o at m u → TellsNumber o now frame u
frame_tells o now at frame m u is s told e =
    let t = subst (λ (z : ℕ). TellsOfMessage o z m u) is told e in
    its_number o now frame t.0 u.number
    (all_met (frame_checks frame) (Read Spells frame (AuthenticMessage o)) t.0 (le-leb (length frame) frame_limit s.short, tt) (inr (m, s, t.1))) t.2

pub frame_told : (o : OpenerState) (now at : ℕ) (frame : List ℕ) (m : Message) (result : Result (List ℕ) Unopened) → at ≡ now → Spells m frame → IfErr result (TellsOfMessage o at m) → IfErr result (TellsNumber o now frame)
frame_told o now at frame m (Ok v) is s h = h
frame_told o now at frame m (Err u) is s h = frame_tells o now at frame m u is s h
