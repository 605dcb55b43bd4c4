-- From the checks that a function made to the outcome.
use Rattle.std.proofs.Common.{◌≡◌, ℕ, ◌≤◌, length, drop, Bool, true, false, List, [], ◌∷◌, ◌++◌, Some, None, Result, Ok, Err, refl, sym, ap, subst, ◌∙◌, inl, inr}
use Rattle.std.specs.Prelude.{IsErrAnd, IsTrue, ◌↔◌, ◌⊎◌, nat_le}
use Rattle.std.specs.Global.{Vec}
use Rattle.std.specs.Str.{bytes_eq}
use Rattle.std.proofs.lemmas.Bool.{le-leb}
use Rattle.std.proofs.lemmas.Slice.Eq.{bytes_eq-Decides}
use Rattle.krb_base.specs.Limits.{frame_limit}
use Rattle.krb_der.specs.declared.body.Body.{Body}
use Rattle.krb_der.specs.declared.safe.SafeMsg.{SafeMsg}
use Rattle.krb_der.specs.declared.private.PrivMsg.{PrivMsg}
use Rattle.krb_der.specs.declared.message.Message.{Message}
use Rattle.krb_der.specs.declared.message.Message.TheVariants as messages
use Rattle.krb_der.specs.Message.{Spells, SpellsPart}
use Rattle.krb_seal.specs.declared.refusal.Refusal.{Refusal}
use Rattle.krb_seal.specs.declared.refusal.Refusal.TheVariants.{FieldTooLong, Malformed, Memory}
use Rattle.krb_etype.specs.Keys.{IsEncryption}
use Rattle.krb_seal.specs.Opens.{OpenerState, Passes, Read, Decrypt, OpensText, OpensMessage, Opens, priv_header, safe_checks}
use Rattle.krb_seal.specs.OpensParts.{Outcome, Checks, OpensPart, text_checks, frame_checks}
use Rattle.krb_seal.specs.Authentic.{Authenticity, AuthenticMessage, AuthenticText, GivesBody, authentic_checks}
use Rattle.krb_seal.specs.Memory.{AreMet, AsksForMessage, AsksForMemory}
use Rattle.krb_seal.specs.declared.unopened.Unopened.{Unopened}
use Rattle.krb_seal.specs.Unseals.{seen, untold, OrMemory, first_unmet, refusal_of, Checked}

-- ---- the first refusal of two lists of checks

unmet_first : (checks others : Checks) (r : Refusal) → first_unmet checks ≡ Some r → first_unmet (checks ++ others) ≡ Some r
unmet_first [] others r e = absurd cc
unmet_first ((true, x) ∷ rest) others r e = unmet_first rest others r e
unmet_first ((false, x) ∷ rest) others r e = e

pub unmet_later : (checks others : Checks) → first_unmet checks ≡ None → first_unmet (checks ++ others) ≡ first_unmet others
unmet_later [] others e = refl
unmet_later ((true, x) ∷ rest) others e = unmet_later rest others e
unmet_later ((false, x) ∷ rest) others e = absurd cc

-- ---- what a function answers

pub refused : {A B : Type 0} (checks others : Checks) (made : Result B Refusal) (r : Refusal) (result : Result A Refusal)
    → first_unmet checks ≡ refusal_of made → made ≡ Err r → IsErrAnd result (λ e. e ≡ r) → Checked (checks ++ others) result
refused checks others made r (Ok x) e is p = absurd p
refused checks others made r (Err x) e is p = unmet_first checks others x (e ∙ ap refusal_of is ∙ ap Some (sym p))

-- the checks before these were passed
pub checked_later : {A : Type 0} (checks more : Checks) (result : Result A Refusal) → first_unmet checks ≡ None → Checked more result → Checked (checks ++ more) result
checked_later checks more result met h = unmet_later checks more met ∙ h

-- ---- a check of a code

not_true : (x : Bool) → (x ≡ true → ⊥) → x ≡ false
not_true true h = absurd (h refl)
not_true false h = refl

eq_is : (equal : Bool) (a b : List ℕ) → (IsTrue equal ↔ (a ≡ b)) → bytes_eq a b ≡ equal
eq_is true a b h = (bytes_eq-Decides a b).1 (h.0 refl)
eq_is false a b h = not_true (bytes_eq a b) (λ e. let f : IsTrue false = h.1 ((bytes_eq-Decides a b).0 e) in absurd cc)

unmet_code : (a b : List ℕ) (r : Refusal) → bytes_eq a b ≡ false → first_unmet ((bytes_eq a b, r) ∷ []) ≡ Some r
unmet_code a b r e = rw e refl

met_code : (a b : List ℕ) (r : Refusal) → bytes_eq a b ≡ true → first_unmet ((bytes_eq a b, r) ∷ []) ≡ None
met_code a b r e = rw e refl

pub code_refused : (a b code : List ℕ) (equal : Bool) (r : Refusal)
    → (IsTrue equal ↔ (a ≡ code)) → equal ≡ false → code ≡ b → first_unmet ((bytes_eq a b, r) ∷ []) ≡ Some r
code_refused a b code equal r h fails is =
    let differs : bytes_eq a b ≡ false = sym (ap (bytes_eq a) is) ∙ eq_is equal a code h ∙ fails in
    unmet_code a b r differs

pub code_passed : (a b code : List ℕ) (equal : Bool) (r : Refusal)
    → (IsTrue equal ↔ (a ≡ code)) → equal ≡ true → code ≡ b → first_unmet ((bytes_eq a b, r) ∷ []) ≡ None
code_passed a b code equal r h holds is =
    let same : bytes_eq a b ≡ true = sym (ap (bytes_eq a) is) ∙ eq_is equal a code h ∙ holds in
    met_code a b r same

-- ---- the outcome

outcome_refused : {B : Type 0} (checks : Checks) (Then : Result B Refusal → Type 0) (r : Refusal) → first_unmet checks ≡ Some r → Passes checks Then (Err r)
outcome_refused [] Then r e = absurd cc
outcome_refused ((true, x) ∷ rest) Then r e = outcome_refused rest Then r e
outcome_refused ((false, x) ∷ rest) Then r e = cc

outcome_given : {B : Type 0} (checks : Checks) (Then : Result B Refusal → Type 0) (outcome : Result B Refusal) → first_unmet checks ≡ None → Then outcome → Passes checks Then outcome
outcome_given [] Then outcome e p = p
outcome_given ((true, x) ∷ rest) Then outcome e p = outcome_given rest Then outcome e p
outcome_given ((false, x) ∷ rest) Then outcome e p = absurd cc

memory_of : {A B : Type 0} (r : Refusal) → ◌≡◌ {A = Result A Refusal} (Err r) (Err Memory) → ◌≡◌ {A = Result B Refusal} (Err r) (Err Memory)
memory_of r e = cc

-- the checks that a function made were not passed
pub not_passed : {A B : Type 0} (checks : Checks) (Then : Result B Refusal → Type 0) (made : Result A Refusal) (r : Refusal) (result : Result B Refusal)
    → Checked checks made → made ≡ Err r → IsErrAnd result (λ e. e ≡ r) → Passes checks Then result
not_passed checks Then made r (Ok v) h is p = absurd p
not_passed checks Then made r (Err x) h is p = outcome_refused checks Then x (h ∙ ap refusal_of is ∙ ap Some (sym p))

pub not_passed_untold : {A B : Type 0} (checks : Checks) (Then : Result B Refusal → Type 0) (made : Result A Refusal) (r : Refusal) (result : Result B Unopened)
    → Checked checks made → made ≡ Err r → IsErrAnd result (λ u. u ≡ record { refusal = r; number = None }) → Passes checks Then (untold result)
not_passed_untold checks Then made r (Ok v) h is p = absurd p
not_passed_untold checks Then made r (Err u) h is p = not_passed checks Then made r (Err u.refusal) h is (ap (λ (z : Unopened). z.refusal) p)

-- they were passed
pub all_passed : {M A B : Type 0} (checks : Checks) (Then : Result B Refusal → Type 0) (made : Result A Refusal) (x : A) (outcome : Result B Refusal)
    → Checked checks made → made ≡ Ok x → M ⊎ Then outcome → M ⊎ Passes checks Then outcome
all_passed checks Then made x outcome h is (inl p) = inl p
all_passed checks Then made x outcome h is (inr p) = inr (outcome_given checks Then outcome (h ∙ ap refusal_of is) p)

-- nothing that the function does after them may run out of memory
pub all_passed_for : {A B : Type 0} (checks : Checks) (Then : Result B Refusal → Type 0) (made : Result A Refusal) (x : A) (outcome : Result B Refusal)
    → Checked checks made → made ≡ Ok x → Then outcome → Passes checks Then outcome
all_passed_for checks Then made x outcome h is p = outcome_given checks Then outcome (h ∙ ap refusal_of is) p

-- a message was read, and opened
pub frame_passed : {M B : Type 0} (Then : Message → Result B Refusal → Type 0) (bytes : List ℕ) (m : Message) (outcome : Result B Refusal) → Spells m bytes
    → M ⊎ Then m outcome → M ⊎ Passes (frame_checks bytes) (Read Spells bytes Then) outcome
frame_passed Then bytes m outcome s (inl h) = inl h
frame_passed Then bytes m outcome s (inr h) =
    inr (outcome_given (frame_checks bytes) (Read Spells bytes Then) outcome (met_limit (length bytes) s.short) (inr (m, s, h)))
  where
    met_limit : (n : ℕ) → n ≤ frame_limit → first_unmet ((nat_le n frame_limit, FieldTooLong) ∷ []) ≡ None
    met_limit n le = rw (le-leb n frame_limit le) refl

pub frame_opened : (o : OpenerState) (number now at : ℕ) (bytes : List ℕ) (m : Message) (result : Outcome) → at ≡ now → Spells m bytes
    → OrMemory (OpensMessage o number at m) result → OrMemory (Opens o number now bytes) result
frame_opened o number now at bytes m result is s h =
    frame_passed (OpensMessage o number now) bytes m result s (subst (λ (z : ℕ). OrMemory (OpensMessage o number z m) result) is h)

-- ---- from the authentic body to the user data

-- a body goes on, and a refusal stays
abbrev pub GoesOn : Authenticity → (Body → Outcome → Type 0) → Outcome → Type 0
GoesOn (Ok b) Then outcome = Then b outcome
GoesOn (Err r) Then outcome = outcome ≡ Err r

refusal_stays : (Then : Body → Outcome → Type 0) (made : Authenticity) (r : Refusal) (outcome : Outcome) → made ≡ Err r → GoesOn made Then outcome → outcome ≡ Err r
refusal_stays Then made r outcome e g = subst (λ (z : Authenticity). GoesOn z Then outcome) e g

passes_on : (checks : Checks) (P : Authenticity → Type 0) (Q : Outcome → Type 0) (Then : Body → Outcome → Type 0) (made : Authenticity) (outcome : Outcome)
    → GoesOn made Then outcome → (P made → Q outcome) → Passes checks P made → Passes checks Q outcome
passes_on [] P Q Then made outcome g h p = h p
passes_on ((true, r) ∷ rest) P Q Then made outcome g h p = passes_on rest P Q Then made outcome g h p
passes_on ((false, r) ∷ rest) P Q Then made outcome g h p = refusal_stays Then made r outcome p g

read_on : (bytes : List ℕ) (Then : Body → Outcome → Type 0) (made : Authenticity) (outcome : Outcome)
    → GoesOn made Then outcome → Read SpellsPart bytes GivesBody made → Read SpellsPart bytes Then outcome
read_on bytes Then made outcome g (inl p) = inl (p.0, refusal_stays Then made Malformed outcome p.1 g)
read_on bytes Then made outcome g (inr p) = inr (p.0, p.1, subst (λ (z : Authenticity). GoesOn z Then outcome) p.2 g)

pub text_goes_on : (o : OpenerState) (number now : ℕ) (text tag : List ℕ) (made : Authenticity) (outcome : Outcome)
    → AuthenticText o.key text tag made → GoesOn made (OpensPart o.expect number now) outcome → OpensText o number now text tag outcome
text_goes_on o number now text tag made outcome p g =
    let Then = OpensPart o.expect number now in
    passes_on (text_checks o.key text tag) (Read SpellsPart (drop 16 text) GivesBody) (Read SpellsPart (drop 16 text) Then) Then made outcome g (read_on (drop 16 text) Then made outcome g) p

pub priv_goes_on : (o : OpenerState) (number now : ℕ) (m : PrivMsg) (made : Authenticity) (outcome : Outcome)
    → AuthenticMessage o (messages.Priv m) made → GoesOn made (OpensPart o.expect number now) outcome → OpensMessage o number now (messages.Priv m) outcome
priv_goes_on o number now m made outcome p g =
    let Then = OpensPart o.expect number now in
    passes_on (priv_header o.etype o.expect m) (Decrypt o.key m.cipher (AuthenticText o.key)) (Decrypt o.key m.cipher (OpensText o number now)) Then made outcome g
    (λ d. (d.0, d.1, d.2, text_goes_on o number now d.0 d.1 made outcome d.3 g)) p

pub text_refused : (o : OpenerState) (number now : ℕ) (text tag : List ℕ) (made : Authenticity) (r : Refusal) (result : Outcome)
    → OrMemory (AuthenticText o.key text tag) made → made ≡ Err r → IsErrAnd result (λ e. e ≡ r) → OrMemory (OpensText o number now text tag) result
text_refused o number now text tag made r (Ok v) h is p = absurd p
text_refused o number now text tag made r (Err x) (inl h) is p = inl (memory_of {A = Body} {B = List ℕ} x (ap Err p ∙ sym is ∙ h))
text_refused o number now text tag made r (Err x) (inr h) is p =
    inr (text_goes_on o number now text tag made (Err x) h (subst (λ (z : Authenticity). GoesOn z (OpensPart o.expect number now) (Err x)) (sym is) (ap Err p)))

pub body_given : (o : OpenerState) (number now : ℕ) (text tag : List ℕ) (made : Authenticity) (b : Body) (result : Outcome)
    → OrMemory (AuthenticText o.key text tag) made → made ≡ Ok b → OpensPart o.expect number now b result → OrMemory (OpensText o number now text tag) result
body_given o number now text tag made b result (inl h) is p = absurd (let e : Ok b ≡ Err Memory = sym is ∙ h in cc)
body_given o number now text tag made b result (inr h) is p =
    inr (text_goes_on o number now text tag made result h (subst (λ (z : Authenticity). GoesOn z (OpensPart o.expect number now) result) (sym is) p))

-- from the outcome of a text to that of its message
pub authentic_text_of : (o : OpenerState) (m : PrivMsg) (text tag : List ℕ) (answer : Authenticity) → AreMet (priv_header o.etype o.expect m) → IsEncryption o.key m.cipher text tag
    → AuthenticText o.key text tag answer → AuthenticMessage o (messages.Priv m) answer
authentic_text_of o m text tag answer met enc h =
    outcome_given (priv_header o.etype o.expect m) (Decrypt o.key m.cipher (AuthenticText o.key)) answer met (text, tag, enc, h)

-- without the number, a refusal is the same
pub refusal_alone : (Gives : Outcome → Type 0) (told : Result (List ℕ) Unopened) (u : Unopened) (result : Result (Vec ℕ) Refusal)
    → OrMemory Gives (untold told) → told ≡ Err u → IsErrAnd result (λ r. r ≡ u.refusal) → OrMemory Gives (seen result)
refusal_alone Gives told u (Ok v) h is p = absurd p
refusal_alone Gives told u (Err r) h is p =
    subst (λ (z : Refusal). OrMemory Gives (Err z)) (sym p) (subst (λ (z : Result (List ℕ) Unopened). OrMemory Gives (untold z)) is h)

-- ---- no check refuses by out of memory

abbrev pub OtherRefusals : Checks → Type 0
OtherRefusals [] = Unit {0}
OtherRefusals ((met, r) ∷ rest) = (r ≡ Memory → ⊥) × OtherRefusals rest

never_memory : (checks : Checks) → OtherRefusals checks → first_unmet checks ≡ Some Memory → ⊥
never_memory [] others e = absurd cc
never_memory ((true, r) ∷ rest) others e = never_memory rest others.1 e
never_memory ((false, r) ∷ rest) others e = others.0 cc

pub safe_others : (o : OpenerState) (number now : ℕ) (m : SafeMsg) → OtherRefusals (safe_checks o number now m)
safe_others o number now m = (λ e. absurd cc, (λ e. absurd cc, (λ e. absurd cc, (λ e. absurd cc, (λ e. absurd cc, (λ e. absurd cc, (λ e. absurd cc, tt)))))))

pub authentic_others : (o : OpenerState) (m : SafeMsg) → OtherRefusals (authentic_checks o m)
authentic_others o m = (λ e. absurd cc, (λ e. absurd cc, (λ e. absurd cc, (λ e. absurd cc, tt))))

pub priv_others : (o : OpenerState) (m : PrivMsg) → OtherRefusals (priv_header o.etype o.expect m)
priv_others o m = (λ e. absurd cc, (λ e. absurd cc, (λ e. absurd cc, (λ e. absurd cc, tt))))

-- so a refusal by one of them isn't out of memory
same_error : {A : Type 0} (r x : Refusal) → ◌≡◌ {A = Result A Refusal} (Err r) (Err x) → r ≡ x
same_error r x e = cc

pub refused_otherwise : {A B : Type 0} (checks : Checks) (made : Result A Refusal) (r : Refusal) (result : Result B Refusal)
    → Checked checks made → OtherRefusals checks → made ≡ Err r → IsErrAnd result (λ e. e ≡ r) → result ≡ Err Memory → AreMet checks
refused_otherwise checks made r (Ok x) h others is p e = absurd p
refused_otherwise checks made r (Err x) h others is p e =
    absurd (never_memory checks others (h ∙ ap refusal_of is ∙ ap Some (sym p ∙ same_error x Memory e)))

-- ---- what tells a number too

pub untold_err : {B : Type 0} (result : Result B Unopened) (u : Unopened) → IsErrAnd result (λ z. z ≡ u) → IsErrAnd (untold result) (λ e. e ≡ u.refusal)
untold_err (Ok x) u p = absurd p
untold_err (Err v) u p = ap (λ (z : Unopened). z.refusal) p

pub checked_untold : {A B : Type 0} (checks : Checks) (made : Result A Refusal) (r : Refusal) (result : Result B Unopened)
    → Checked checks made → made ≡ Err r → IsErrAnd result (λ u. u ≡ record { refusal = r; number = None }) → Checked checks (untold result)
checked_untold checks made r (Ok x) h is p = absurd p
checked_untold checks made r (Err u) h is p = h ∙ ap refusal_of is ∙ ap Some (sym (ap (λ (z : Unopened). z.refusal) p))

-- ---- what opens asked for memory

passes_met : {B : Type 0} (checks : Checks) (Then : Result B Refusal → Type 0) (x : B) → Passes checks Then (Ok x) → AreMet checks
passes_met [] Then x p = refl
passes_met ((true, r) ∷ rest) Then x p = passes_met rest Then x p
passes_met ((false, r) ∷ rest) Then x p = absurd cc

passed_on : {B : Type 0} (checks : Checks) (Then : Result B Refusal → Type 0) (x : B) → Passes checks Then (Ok x) → Then (Ok x)
passed_on [] Then x p = p
passed_on ((true, r) ∷ rest) Then x p = passed_on rest Then x p
passed_on ((false, r) ∷ rest) Then x p = absurd cc

opened_asks_for : (o : OpenerState) (number now : ℕ) (m : Message) (user : List ℕ) → OpensMessage o number now m (Ok user) → AsksForMessage o number now m
opened_asks_for o number now (messages.Safe m) user p = passes_met (safe_checks o number now m) (λ y. y ≡ Ok m.body.user_data) user p
opened_asks_for o number now (messages.Priv m) user p = passes_met (priv_header o.etype o.expect m) (Decrypt o.key m.cipher (OpensText o number now)) user p

pub opened_asks : (o : OpenerState) (number now : ℕ) (bytes user : List ℕ) → Opens o number now bytes (Ok user) → AsksForMemory o number now bytes
opened_asks o number now bytes user p =
    elim (passed_on (frame_checks bytes) (Read Spells bytes (OpensMessage o number now)) user p) [
      | inl none ↦ absurd (not_given user Malformed none.1)
      | inr read ↦ (read.0, read.1, opened_asks_for o number now read.0 user read.2)
    ]
  where
    not_given : (user : List ℕ) (r : Refusal) → ◌≡◌ {A = Outcome} (Ok user) (Err r) → ⊥
    not_given user r e = absurd cc
