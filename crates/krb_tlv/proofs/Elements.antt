-- Lengths, tags and whole numbers: what is read was spelled so, and what is spelled is read again.
use Rattle.std.proofs.Common.{◌≡◌, rules, ◌⊎◌, ℕ, ◌^◌, ◌<◌, ◌≤◌, Bool, true, false, cond, eqb, ltb, List, [], ◌∷◌, ◌++◌, length, get_or, take, drop, Option, Some, None, refl, sym, subst, ◌∙◌, arith, append_assoc, inl, inr}
use Rattle.std.proofs.lemmas.Bool.{cases_lt, lt-ltb, le-ltb, ltb-true, ltb-false, eqb-true}
use Rattle.std.proofs.lemmas.List.{take_at, drop_at, take-append-drop, length-append, length-take-le}
use Rattle.krb_tlv.specs.Length.{big_endian, length_octets}
use Rattle.krb_tlv.specs.Element.{header, tagged}
use Rattle.krb_tlv.specs.Integer.{width, int_octets}
use Rattle.krb_tlv.specs.Reading.{complement}
use Rattle.krb_tlv.specs.Reading.{be_value, wide_length_at, length_at, cut_at, tagged_at, signed, int_of}
use Rattle.krb_base.proofs.OptionSteps.{bind_some, provided, some_is}
use Rattle.krb_base.specs.Bytes.{AreBytes}
use Rattle.krb_tlv.proofs.Numbers.{AreBytes-drop, AreBytes-take, AreBytes-rest, AreBytes-big_endian, AreBytes-complement, length-big_endian, length-complement, complement-twice, be_value-below, be_value-again, big_endian-back, width_is}

pub chosen : {A : Type 0} (b : Bool) (x y z : A) → cond b x y ≡ z → ((b ≡ true) × (x ≡ z)) ⊎ ((b ≡ false) × (y ≡ z))
chosen true x y z e = inl (refl, e)
chosen false x y z e = inr (refl, e)

-- a test that must fail
pub unless : {A : Type 0} (b : Bool) (x : Option A) (y : A) → cond b None x ≡ Some y → (b ≡ false) × (x ≡ Some y)
unless true x y e = absurd cc
unless false x y e = (refl, e)

-- ---- lengths

wide-again : (k low n : ℕ) (rest : List ℕ) → n < 256 ^ k → low ≤ n → wide_length_at k low (big_endian k n ++ rest) ≡ Some (n, rest)
wide-again k low n rest lt le =
    let len = length-big_endian k n in
    let long : ltb (length (big_endian k n ++ rest)) k ≡ false = le-ltb _ _ (omega (arith, length-append (big_endian k n) rest)) in
    let high : ltb n low ≡ false = le-ltb _ _ le in
    rw (long, take_at (big_endian k n) rest k len, drop_at (big_endian k n) rest k len, be_value-again k n lt, high) refl

pub record WideLength (k low : ℕ) (bytes : List ℕ) (x : ℕ × List ℕ) : Type 0 where
  pub parts : bytes ≡ big_endian k x.0 ++ x.1
  pub high : low ≤ x.0
  pub below : x.0 < 256 ^ k

wide-found : (k low : ℕ) (bytes : List ℕ) (x : ℕ × List ℕ) → AreBytes bytes → wide_length_at k low bytes ≡ Some x → WideLength k low bytes x
wide-found k low bytes x fits e =
    let a = unless (ltb (length bytes) k) _ x e in
    let b = unless (ltb (be_value (take k bytes)) low) _ x a.1 in
    let long : k ≤ length bytes = ltb-false _ _ a.0 in
    let len : length (take k bytes) ≡ k = length-take-le k bytes long in
    let front : AreBytes (take k bytes) = AreBytes-take k bytes fits in
    let value : be_value (take k bytes) < 256 ^ k = subst (λ (j : ℕ). be_value (take k bytes) < 256 ^ j) len (be_value-below (take k bytes) front) in
    let back : big_endian k (be_value (take k bytes)) ≡ take k bytes = subst (λ (j : ℕ). big_endian j (be_value (take k bytes)) ≡ take k bytes) len (big_endian-back (take k bytes) front) in
    let made : WideLength k low bytes (be_value (take k bytes), drop k bytes) = record { parts = rw back (sym (take-append-drop k bytes)); high = ltb-false _ _ b.0; below = value } in
    subst (WideLength k low bytes) (some_is _ x b.1) made

one_byte : (n : ℕ) → n < 128 → length_octets n ≡ n ∷ []
unfolding length_octets
one_byte n lt = rw (lt-ltb n 128 lt) refl

two_bytes : (n : ℕ) → 128 ≤ n → n < 256 ^ 1 → length_octets n ≡ 0x81 ∷ big_endian 1 n
unfolding length_octets
two_bytes n le lt = rw (le-ltb n 128 le, lt-ltb n 256 lt) refl

three_bytes : (n : ℕ) → 256 ≤ n → n < 256 ^ 2 → length_octets n ≡ 0x82 ∷ big_endian 2 n
unfolding length_octets
three_bytes n le lt = let a : 128 ≤ n = omega arith in rw (le-ltb n 128 a, le-ltb n 256 le, lt-ltb n 65536 lt) refl

four_bytes : (n : ℕ) → 65536 ≤ n → length_octets n ≡ 0x83 ∷ big_endian 3 n
unfolding length_octets
four_bytes n le = let a : 128 ≤ n = omega arith in let b : 256 ≤ n = omega arith in rw (le-ltb n 128 a, le-ltb n 256 b, le-ltb n 65536 le) refl

pub length-again : (n : ℕ) (rest : List ℕ) → n < 2 ^ 24 → length_at (length_octets n ++ rest) ≡ Some (n, rest)
unfolding length_at
length-again n rest lt =
    elim (cases_lt n 128) [
      | inl a ↦ rw (one_byte n a, lt-ltb n 128 a) refl
      | inr a ↦ elim (cases_lt n 256) [
        | inl b ↦ rw (two_bytes n a b) (wide-again 1 128 n rest b a)
        | inr b ↦ elim (cases_lt n 65536) [
          | inl c ↦ rw (three_bytes n b c) (wide-again 2 256 n rest c b)
          | inr c ↦ rw (four_bytes n c) (wide-again 3 65536 n rest lt c)
        ]
      ]
    ]

pub record Length (bytes : List ℕ) (x : ℕ × List ℕ) : Type 0 where
  pub parts : bytes ≡ length_octets x.0 ++ x.1
  pub below : x.0 < 2 ^ 24

pub length-found : (bytes : List ℕ) (x : ℕ × List ℕ) → AreBytes bytes → length_at bytes ≡ Some x → Length bytes x
unfolding length_at
length-found [] x fits e = absurd cc
length-found (b ∷ rest) x fits e =
    let fr = AreBytes-rest b rest fits in
    elim (chosen (ltb b 128) _ _ (Some x) e) [
      | inl p ↦ let lt : b < 128 = ltb-true _ _ p.0 in
          let made : Length (b ∷ rest) (b, rest) = record { parts = rw (one_byte b lt) refl; below = omega arith } in
          subst (Length (b ∷ rest)) (some_is _ x p.1) made
      | inr p ↦ elim (chosen (eqb b 0x81) _ _ (Some x) p.1) [
        | inl q ↦ let w = wide-found 1 128 rest x fr q.1 in
            record { parts = rw (two_bytes x.0 w.high w.below, eqb-true _ _ q.0, w.parts) refl; below = omega (arith, w.below) }
        | inr q ↦ elim (chosen (eqb b 0x82) _ _ (Some x) q.1) [
          | inl s ↦ let w = wide-found 2 256 rest x fr s.1 in
              record { parts = rw (three_bytes x.0 w.high w.below, eqb-true _ _ s.0, w.parts) refl; below = omega (arith, w.below) }
          | inr s ↦ let t = provided (eqb b 0x83) _ x s.1 in
              let w = wide-found 3 65536 rest x fr t.1 in
              record { parts = rw (four_bytes x.0 w.high, eqb-true _ _ t.0, w.parts) refl; below = w.below }
        ]
      ]
    ]

-- ---- what stands under a tag

pub eqb-same : (n : ℕ) → eqb n n ≡ true
eqb-same n = search rules

pub tagged-again : (tag : ℕ) (content rest : List ℕ) → length content < 2 ^ 24 → tagged_at tag (tagged tag content ++ rest) ≡ Some (content, rest)
unfolding tagged_at tagged header
tagged-again tag content rest lt =
    let long : ltb (length (content ++ rest)) (length content) ≡ false = le-ltb _ _ (omega (arith, length-append content rest)) in
    let regrouped : (length_octets (length content) ++ content) ++ rest ≡ length_octets (length content) ++ (content ++ rest) = append_assoc (length_octets (length content)) content rest in
    rw (eqb-same tag, regrouped, length-again (length content) (content ++ rest) lt, long, take_at content rest (length content) refl, drop_at content rest (length content) refl) refl

pub record Tagged (tag : ℕ) (bytes : List ℕ) (x : List ℕ × List ℕ) : Type 0 where
  pub parts : bytes ≡ tagged tag x.0 ++ x.1
  pub below : length x.0 < 2 ^ 24
  pub content_fits : AreBytes x.0
  pub rest_fits : AreBytes x.1

pub AreBytes-back : (a b : List ℕ) → AreBytes (a ++ b) → AreBytes b
AreBytes-back [] b h = h
AreBytes-back (x ∷ a) b h = AreBytes-back a b (AreBytes-rest x (a ++ b) h)

parts_whole : (tag t n : ℕ) (rest after : List ℕ) → t ≡ tag → rest ≡ length_octets n ++ after → n ≤ length after → t ∷ rest ≡ tagged tag (take n after) ++ drop n after
unfolding tagged header
parts_whole tag t n rest after same parts le =
    let len : length (take n after) ≡ n = length-take-le n after le in
    rw (same, parts, len, append_assoc (length_octets n) (take n after) (drop n after), take-append-drop n after) refl

pub tagged-found : (tag : ℕ) (bytes : List ℕ) (x : List ℕ × List ℕ) → AreBytes bytes → tagged_at tag bytes ≡ Some x → Tagged tag bytes x
unfolding tagged_at
tagged-found tag [] x fits e = absurd cc
tagged-found tag (t ∷ rest) x fits e =
    let p = provided (eqb t tag) _ x e in
    let b = bind_some (length_at rest) cut_at x p.1 in
    let n = b.0 in
    let l = length-found rest n (AreBytes-rest t rest fits) b.1 in
    let g = unless (ltb (length n.1) n.0) _ x b.2 in
    let long : n.0 ≤ length n.1 = ltb-false _ _ g.0 in
    let len : length (take n.0 n.1) ≡ n.0 = length-take-le n.0 n.1 long in
    let after : AreBytes n.1 = AreBytes-back (length_octets n.0) n.1 (subst AreBytes l.parts (AreBytes-rest t rest fits)) in
    let whole = parts_whole tag t n.0 rest n.1 (eqb-true _ _ p.0) l.parts long in
    let made : Tagged tag (t ∷ rest) (take n.0 n.1, drop n.0 n.1) = record { parts = whole; below = omega (arith, l.below); content_fits = AreBytes-take n.0 n.1 after; rest_fits = AreBytes-drop n.0 n.1 after } in
    subst (Tagged tag (t ∷ rest)) (some_is _ x g.1) made

-- ---- whole numbers

pub int-found : (content : List ℕ) (x : Bool × ℕ) → AreBytes content → int_of content ≡ Some x → content ≡ int_octets (signed x.0 x.1)
unfolding int_of int_octets
int-found content x fits e =
    let a = unless (ltb 5 (length content)) _ x e in
    elim (chosen (ltb (get_or content 0 0) 128) _ _ (Some x) a.1) [
      | inl p ↦ let g = provided (eqb (width (be_value content)) (length content)) _ x p.1 in
          let w : width (be_value content) ≡ length content = eqb-true _ _ g.0 in
          let made : content ≡ int_octets (signed false (be_value content)) = rw w (sym (big_endian-back content fits)) in
          subst (λ (y : Bool × ℕ). content ≡ int_octets (signed y.0 y.1)) (some_is _ x g.1) made
      | inr p ↦ let g = provided (eqb (width (be_value (complement content))) (length content)) _ x p.1 in
          let w : width (be_value (complement content)) ≡ length (complement content) = eqb-true _ _ g.0 ∙ sym (length-complement content) in
          let made : content ≡ int_octets (signed true (be_value (complement content))) = rw (w, big_endian-back (complement content) (AreBytes-complement content)) (sym (complement-twice content fits)) in
          subst (λ (y : Bool × ℕ). content ≡ int_octets (signed y.0 y.1)) (some_is _ x g.1) made
    ]

complement-top : (bs : List ℕ) → 0 < length bs → get_or bs 0 0 < 128 → 128 ≤ get_or (complement bs) 0 0
complement-top [] some lt = absurd (omega arith)
complement-top (b ∷ bs) some lt = omega arith

pub int-again : (negative : Bool) (n : ℕ) → n < 2 ^ 39 → int_of (int_octets (signed negative n)) ≡ Some (negative, n)
unfolding int_of int_octets
int-again false n lt =
    let w = width_is n lt in
    let len : length (big_endian (width n) n) ≡ width n = length-big_endian (width n) n in
    let short : ltb 5 (width n) ≡ false = le-ltb _ _ w.short in
    rw (len, short, lt-ltb _ _ w.free, be_value-again (width n) n w.fits, eqb-same (width n)) refl
int-again true n lt =
    let w = width_is n lt in
    let bs = big_endian (width n) n in
    let len : length (complement bs) ≡ width n = length-complement bs ∙ length-big_endian (width n) n in
    let short : ltb 5 (width n) ≡ false = le-ltb _ _ w.short in
    let top : 128 ≤ get_or (complement bs) 0 0 = complement-top bs (omega (arith, length-big_endian (width n) n, w.some)) w.free in
    let back : complement (complement bs) ≡ bs = complement-twice bs (AreBytes-big_endian (width n) n w.fits) in
    rw (len, short, le-ltb _ _ top, back, be_value-again (width n) n w.fits, eqb-same (width n)) refl
