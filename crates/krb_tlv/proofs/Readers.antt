-- Readers of a whole content: what is read was spelled so, and what is spelled is read again.
use Rattle.std.proofs.Common.{◌≡◌, ◌⊎◌, ℕ, ◌+◌, ◌^◌, ◌<◌, ◌≤◌, Bool, true, false, eqb, List, [], ◌∷◌, ◌++◌, length, Option, Some, None, refl, sym, ap, subst, ◌∙◌, arith, inl, inr, lit≤}
use Rattle.std.specs.List.{concat}
use Rattle.std.specs.Prelude.{IfSome}
use Rattle.std.proofs.lemmas.Bool.{eqb-true}
use Rattle.std.proofs.lemmas.List.{length-append, append-nil}
use Rattle.krb_tlv.specs.Length.{big_endian, length_octets}
use Rattle.krb_tlv.specs.Element.{header, tagged, optional}
use Rattle.krb_tlv.specs.Writing.{element_size}
use Rattle.krb_base.specs.Steps.{◌>>=◌}
use Rattle.krb_tlv.specs.Reading.{ended, tagged_at, alone, with_field, field_at, starts_with, optional_at}
use Rattle.krb_base.specs.Bytes.{AreBytes}
use Rattle.krb_tlv.proofs.Numbers.{if_case}
use Rattle.krb_base.proofs.OptionSteps.{bind_some, some_is}
use Rattle.krb_tlv.proofs.Elements.{tagged-again, tagged-found, eqb-same}

cases_bool : (b : Bool) → (b ≡ true) ⊎ (b ≡ false)
cases_bool true = inl refl
cases_bool false = inr refl

cases_eqb : (a b : ℕ) → (a ≡ b) ⊎ (eqb a b ≡ false)
cases_eqb a b = elim (cases_bool (eqb a b)) [ inl e ↦ inl (eqb-true a b e) | inr e ↦ inr e ]

-- The values that meet P are read from their spelling, and nothing else is read.
pub record Reads {V : Type 0} (P : V → Type 0) (spell : V → List ℕ) (of : List ℕ → Option V) : Type 0 where
  pub found : (c : List ℕ) (v : V) → AreBytes c → of c ≡ Some v → P v × (c ≡ spell v)
  pub again : (v : V) → P v → length (spell v) < 2 ^ 24 → of (spell v) ≡ Some v

-- each byte that can begin the bytes is above the tag
abbrev pub BeginsAbove : ℕ → List ℕ → Type 0
BeginsAbove low [] = Unit {0}
BeginsAbove low (b ∷ bytes) = low < b

-- The fields that are left, of a value of which K is known.
pub record ReadsFields {V : Type 0} (low : ℕ) (K P : V → Type 0) (spell : V → List (List ℕ)) (of : List ℕ → Option V) : Type 0 where
  pub found : (c : List ℕ) (v : V) → AreBytes c → of c ≡ Some v → K v × (P v × (c ≡ concat (spell v)))
  pub again : (v : V) → K v → P v → length (concat (spell v)) < 2 ^ 24 → of (concat (spell v)) ≡ Some v
  pub begins : (v : V) → BeginsAbove low (concat (spell v))

ended-found : {A : Type 0} (x v : A) (rest : List ℕ) → ended x rest ≡ Some v → (x ≡ v) × (rest ≡ [])
ended-found x v [] e = (cc, refl)
ended-found x v (b ∷ rest) e = absurd cc

-- no field is left
pub no_field : {V : Type 0} (low : ℕ) (K : V → Type 0) (x : V) → K x → ((v : V) → K v → x ≡ v) → ReadsFields low K (λ _. Unit {0}) (λ _. []) (ended x)
no_field low K x known only = record {
  found = λ c v fits e. let h = ended-found x v c e in (subst K h.0 known, (tt, h.1));
  again = λ v k p lt. rw (only v k) refl;
  begins = λ v. tt;
}

pub length-tagged : (tag : ℕ) (content : List ℕ) → length content < length (tagged tag content)
unfolding tagged header
length-tagged tag content = omega (arith, length-append (length_octets (length content)) content)

pub length-length_octets : (n : ℕ) → length (length_octets n) ≤ 4
unfolding length_octets
length-length_octets n =
    if_case (λ (s : List ℕ). length s ≤ 4) n 128 (n ∷ []) _ (λ _. lit≤ tt) (λ _.
    if_case (λ (s : List ℕ). length s ≤ 4) n 256 (0x81 ∷ big_endian 1 n) _ (λ _. lit≤ tt) (λ _.
    if_case (λ (s : List ℕ). length s ≤ 4) n 65536 (0x82 ∷ big_endian 2 n) (0x83 ∷ big_endian 3 n) (λ _. lit≤ tt) (λ _. lit≤ tt)))

pub tagged-short : (tag : ℕ) (content : List ℕ) → length (tagged tag content) ≤ length content + 5
unfolding tagged header
tagged-short tag content = omega (arith, length-append (length_octets (length content)) content, length-length_octets (length content))

glue : (tag : ℕ) (a b x y : List ℕ) → a ≡ x → b ≡ y → tagged tag a ++ b ≡ tagged tag x ++ y
glue tag a b x y p q = rw (p, q) refl

-- one field, and then the others
pub field : {A V : Type 0} (tag low : ℕ) (PA : A → Type 0) (spell : A → List ℕ) (of : List ℕ → Option A) (get : V → A) (K P : V → Type 0) (others : V → List (List ℕ)) (k : A → List ℕ → Option V)
    → Reads PA spell of → ((a : A) → ReadsFields tag (λ v. K v × (get v ≡ a)) P others (k a)) → low < tag
    → ReadsFields low K (λ v. PA (get v) × P v) (λ v. tagged tag (spell (get v)) ∷ others v) (with_field tag of k)
unfolding tagged header
field tag low PA spell of get K P others k one rest lt = record {
  found = λ c v fits e.
      let t = bind_some (tagged_at tag c) (λ t. of t.0 >>= λ x. k x t.1) v e in
      let x = bind_some (of t.0.0) (λ x. k x t.0.1) v t.2 in
      let p = tagged-found tag c t.0 fits t.1 in
      let a = one.found t.0.0 x.0 p.content_fits x.1 in
      let r = (rest x.0).found t.0.1 v p.rest_fits x.2 in
      let same : get v ≡ x.0 = r.0.1 in
      (r.0.0, ((subst PA (sym same) a.0, r.1.0), p.parts ∙ glue tag t.0.0 t.0.1 (spell (get v)) (concat (others v)) (a.1 ∙ ap spell (sym same)) r.1.1));
  again = λ v known h short.
      let inner : length (spell (get v)) < 2 ^ 24 = omega (arith, length-tagged tag (spell (get v)), length-append (tagged tag (spell (get v))) (concat (others v))) in
      let outer : length (concat (others v)) < 2 ^ 24 = omega (arith, length-append (tagged tag (spell (get v))) (concat (others v))) in
      rw (tagged-again tag (spell (get v)) (concat (others v)) inner, one.again (get v) h.0 inner) ((rest (get v)).again v (known, refl) h.1 outer);
  begins = λ v. lt;
}

abbrev Beside : {A : Type 0} → List ℕ → A → Option (A × List ℕ)
Beside rest x = Some (x, rest)

field-value : {A B : Type 0} (o : Option A) (rest : List ℕ) (k : A → List ℕ → Option B) → ((o >>= Beside rest) >>= λ y. k y.0 y.1) ≡ (o >>= λ x. k x rest)
field-value None rest k = refl
field-value (Some x) rest k = refl

field-content : {A B : Type 0} (t : Option (List ℕ × List ℕ)) (of : List ℕ → Option A) (k : A → List ℕ → Option B)
    → ((t >>= λ t. of t.0 >>= Beside t.1) >>= λ y. k y.0 y.1) ≡ (t >>= λ t. of t.0 >>= λ x. k x t.1)
field-content None of k = refl
field-content (Some t) of k = field-value (of t.0) t.1 k

taken : {A B : Type 0} (tag : ℕ) (of : List ℕ → Option A) (k : A → List ℕ → Option B) (c : List ℕ) → (field_at tag of c >>= λ x. k x.0 x.1) ≡ with_field tag of k c
unfolding field_at
taken tag of k c = field-content (tagged_at tag c) of k

-- the same, where the field is taken by a call of its own
pub taken_field : {A V : Type 0} (tag low : ℕ) (PA : A → Type 0) (spell : A → List ℕ) (of : List ℕ → Option A) (get : V → A) (K P : V → Type 0) (others : V → List (List ℕ)) (k : A → List ℕ → Option V)
    → Reads PA spell of → ((a : A) → ReadsFields tag (λ v. K v × (get v ≡ a)) P others (k a)) → low < tag
    → ReadsFields low K (λ v. PA (get v) × P v) (λ v. tagged tag (spell (get v)) ∷ others v) (λ c. field_at tag of c >>= λ x. k x.0 x.1)
taken_field tag low PA spell of get K P others k one rest lt =
    let all = field tag low PA spell of get K P others k one rest lt in record {
      found = λ c v fits e. all.found c v fits (sym (taken tag of k c) ∙ e);
      again = λ v known h short. taken tag of k (concat (tagged tag (spell (get v)) ∷ others v)) ∙ all.again v known h short;
      begins = all.begins;
    }

optional-none : {A : Type 0} (tag : ℕ) (of : List ℕ → Option A) (bytes : List ℕ) → starts_with tag bytes ≡ false → optional_at tag of bytes ≡ Some (None, bytes)
unfolding optional_at
optional-none tag of bytes h = rw h refl

optional-some : {A : Type 0} (tag : ℕ) (of : List ℕ → Option A) (bytes : List ℕ) → starts_with tag bytes ≡ true → optional_at tag of bytes ≡ with_field tag of (λ x rest. Some (Some x, rest)) bytes
unfolding optional_at
optional-some tag of bytes h = rw h refl

starts_not : (tag : ℕ) (bytes : List ℕ) → BeginsAbove tag bytes → starts_with tag bytes ≡ false
starts_not tag [] h = refl
starts_not tag (b ∷ bytes) h = elim (cases_eqb b tag) [ inl e ↦ absurd (omega arith) | inr e ↦ e ]

begins_lower : (low high : ℕ) (bytes : List ℕ) → low ≤ high → BeginsAbove high bytes → BeginsAbove low bytes
begins_lower low high [] le h = tt
begins_lower low high (b ∷ bytes) le h = omega arith

-- what an optional field leaves
pub record TakesOptional {A : Type 0} (tag : ℕ) (PA : A → Type 0) (spell : A → List ℕ) (bytes : List ℕ) (x : Option A × List ℕ) : Type 0 where
  pub parts : bytes ≡ optional tag spell x.0 ++ x.1
  pub fits : IfSome x.0 PA
  pub rest_fits : AreBytes x.1

optional-found : {A : Type 0} (tag : ℕ) (PA : A → Type 0) (spell : A → List ℕ) (of : List ℕ → Option A) (bytes : List ℕ) (x : Option A × List ℕ) → Reads PA spell of → AreBytes bytes
    → optional_at tag of bytes ≡ Some x → TakesOptional tag PA spell bytes x
optional-found tag PA spell of bytes x one fits e =
    elim (cases_bool (starts_with tag bytes)) [
      | inl s ↦ let e2 = sym (optional-some tag of bytes s) ∙ e in
          let t = bind_some (tagged_at tag bytes) (λ t. of t.0 >>= λ y. Some (Some y, t.1)) x e2 in
          let y = bind_some (of t.0.0) (λ y. Some (Some y, t.0.1)) x t.2 in
          let p = tagged-found tag bytes t.0 fits t.1 in
          let a = one.found t.0.0 y.0 p.content_fits y.1 in
          let made : TakesOptional tag PA spell bytes (Some y.0, t.0.1) = record { parts = p.parts ∙ glue tag t.0.0 t.0.1 (spell y.0) t.0.1 a.1 refl; fits = a.0; rest_fits = p.rest_fits } in
          subst (TakesOptional tag PA spell bytes) (some_is _ x y.2) made
      | inr s ↦ let e2 = sym (optional-none tag of bytes s) ∙ e in
          let made : TakesOptional tag PA spell bytes (None, bytes) = record { parts = refl; fits = tt; rest_fits = fits } in
          subst (TakesOptional tag PA spell bytes) (some_is _ x e2) made
    ]

optional-again : {A : Type 0} (tag : ℕ) (PA : A → Type 0) (spell : A → List ℕ) (of : List ℕ → Option A) (o : Option A) (rest : List ℕ) → Reads PA spell of → IfSome o PA → BeginsAbove tag rest
    → length (optional tag spell o) < 2 ^ 24 → optional_at tag of (optional tag spell o ++ rest) ≡ Some (o, rest)
unfolding tagged header
optional-again tag PA spell of None rest one h begins lt = optional-none tag of rest (starts_not tag rest begins)
optional-again tag PA spell of (Some x) rest one h begins lt =
    let inner : length (spell x) < 2 ^ 24 = omega (arith, length-tagged tag (spell x)) in
    optional-some tag of (tagged tag (spell x) ++ rest) (eqb-same tag) ∙ rw (tagged-again tag (spell x) rest inner, one.again x h inner) refl

optional-begins : {A : Type 0} (tag low : ℕ) (spell : A → List ℕ) (o : Option A) (rest : List ℕ) → low < tag → BeginsAbove tag rest → BeginsAbove low (optional tag spell o ++ rest)
unfolding tagged header
optional-begins tag low spell None rest lt h = begins_lower low tag rest (omega arith) h
optional-begins tag low spell (Some x) rest lt h = lt

glue_two : (a b y : List ℕ) → b ≡ y → a ++ b ≡ a ++ y
glue_two a b y q = rw q refl

-- one field that may be absent, and then the others
pub optional_field : {A V : Type 0} (tag low : ℕ) (PA : A → Type 0) (spell : A → List ℕ) (of : List ℕ → Option A) (get : V → Option A) (K P : V → Type 0) (others : V → List (List ℕ)) (k : Option A → List ℕ → Option V)
    → Reads PA spell of → ((a : Option A) → ReadsFields tag (λ v. K v × (get v ≡ a)) P others (k a)) → low < tag
    → ReadsFields low K (λ v. IfSome (get v) PA × P v) (λ v. optional tag spell (get v) ∷ others v) (λ c. optional_at tag of c >>= λ x. k x.0 x.1)
optional_field tag low PA spell of get K P others k one rest lt = record {
  found = λ c v fits e.
      let x = bind_some (optional_at tag of c) (λ x. k x.0 x.1) v e in
      let p = optional-found tag PA spell of c x.0 one fits x.1 in
      let r = (rest x.0.0).found x.0.1 v p.rest_fits x.2 in
      let same : get v ≡ x.0.0 = r.0.1 in
      let Fits : Option _ → Type 0 = λ o. IfSome o PA in
      (r.0.0, ((subst Fits (sym same) p.fits, r.1.0), p.parts ∙ glue_two (optional tag spell x.0.0) x.0.1 (concat (others v)) r.1.1 ∙ ap (λ (o : Option _). optional tag spell o ++ concat (others v)) (sym same)));
  again = λ v known h short.
      let inner : length (optional tag spell (get v)) < 2 ^ 24 = omega (arith, length-append (optional tag spell (get v)) (concat (others v))) in
      let outer : length (concat (others v)) < 2 ^ 24 = omega (arith, length-append (optional tag spell (get v)) (concat (others v))) in
      rw (optional-again tag PA spell of (get v) (concat (others v)) one h.0 ((rest (get v)).begins v) inner) ((rest (get v)).again v (known, refl) h.1 outer);
  begins = λ v. optional-begins tag low spell (get v) (concat (others v)) lt ((rest (get v)).begins v);
}

-- all fields, of a value whose conditions are Q
pub all_fields : {V : Type 0} (low : ℕ) (P Q : V → Type 0) (spell : V → List (List ℕ)) (of : List ℕ → Option V) → ReadsFields low (λ _. Unit {0}) P spell of → ((v : V) → P v → Q v) → ((v : V) → Q v → P v)
    → Reads Q (λ v. concat (spell v)) of
all_fields low P Q spell of r to from = record {
  found = λ c v fits e. let h = r.found c v fits e in (to v h.1.0, h.1.1);
  again = λ v h lt. r.again v tt (from v h) lt;
}

glue_end : (tag : ℕ) (a b x : List ℕ) → a ≡ x → b ≡ [] → tagged tag a ++ b ≡ tagged tag x
glue_end tag a b x p q = rw (p, q, append-nil (tagged tag x)) refl

alone-at : {A : Type 0} (tag : ℕ) (of : List ℕ → Option A) (x : A) (content : List ℕ) → length content < 2 ^ 24 → of content ≡ Some x → alone tag of (tagged tag content) ≡ Some x
alone-at tag of x content lt e =
    let whole : tagged_at tag (tagged tag content) ≡ Some (content, []) = ap (tagged_at tag) (sym (append-nil (tagged tag content))) ∙ tagged-again tag content [] lt in
    rw (whole, e) refl

-- one element, and nothing else
pub in_tag : {V : Type 0} (tag : ℕ) (P : V → Type 0) (spell : V → List ℕ) (of : List ℕ → Option V) → Reads P spell of → Reads P (λ v. tagged tag (spell v)) (alone tag of)
in_tag tag P spell of one = record {
  found = λ c v fits e.
      let t = bind_some (tagged_at tag c) (λ t. of t.0 >>= λ x. ended x t.1) v e in
      let x = bind_some (of t.0.0) (λ x. ended x t.0.1) v t.2 in
      let p = tagged-found tag c t.0 fits t.1 in
      let h = ended-found x.0 v t.0.1 x.2 in
      let a = one.found t.0.0 x.0 p.content_fits x.1 in
      (subst P h.0 a.0, p.parts ∙ glue_end tag t.0.0 t.0.1 (spell v) (a.1 ∙ ap spell h.0) h.1);
  again = λ v h lt.
      let inner : length (spell v) < 2 ^ 24 = omega (arith, length-tagged tag (spell v)) in
      alone-at tag of v (spell v) inner (one.again v h inner);
}

-- the same, where the content is cut out first and read then
pub under_tag : {V : Type 0} (tag : ℕ) (P : V → Type 0) (spell : V → List ℕ) (of : List ℕ → Option V) → Reads P spell of → Reads P (λ v. tagged tag (spell v)) (λ c. alone tag Some c >>= of)
under_tag tag P spell of one = record {
  found = λ c v fits e.
      let b = bind_some (alone tag Some c) of v e in
      let t = bind_some (tagged_at tag c) (λ t. ended t.0 t.1) b.0 b.1 in
      let p = tagged-found tag c t.0 fits t.1 in
      let h = ended-found t.0.0 b.0 t.0.1 t.2 in
      let a = one.found b.0 v (subst AreBytes h.0 p.content_fits) b.2 in
      (a.0, p.parts ∙ glue_end tag t.0.0 t.0.1 (spell v) (h.0 ∙ a.1) h.1);
  again = λ v h lt.
      let inner : length (spell v) < 2 ^ 24 = omega (arith, length-tagged tag (spell v)) in
      rw (alone-at tag Some (spell v) (spell v) inner refl) (one.again v h inner);
}

pub size-tagged : (tag : ℕ) (content : List ℕ) → length (tagged tag content) ≡ element_size (length content)
unfolding tagged header
size-tagged tag content = omega (arith, length-append (length_octets (length content)) content)
