-- Where the data of a body stand in its spelling.
use Rattle.std.proofs.Common.{◌≡◌, ℕ, ◌+◌, ◌-◌, List, [], ◌∷◌, ◌++◌, length, take, drop, Option, Some, None, refl, sym, ap, subst, ◌∙◌, arith, append_assoc}
use Rattle.std.specs.Prelude.{IfSome}
use Rattle.std.proofs.lemmas.List.{take_at, drop_at, take-append-drop, length-append, append-nil}
use Rattle.krb_tlv.specs.Tag.{context}
use Rattle.krb_tlv.specs.UniversalTag.{octet_string_tag}
use Rattle.krb_tlv.specs.Length.{length_octets}
use Rattle.krb_tlv.specs.Element.{header, tagged}
use Rattle.krb_tlv.specs.Reading.{alone, tagged_at}
use Rattle.krb_der.specs.Reading.{EndsWith}
use Rattle.krb_base.specs.Bytes.{AreBytes}
use Rattle.krb_tlv.proofs.Elements.{AreBytes-back, tagged-found}
use Rattle.krb_tlv.proofs.Readers.{in_tag}
use Rattle.krb_der.proofs.Grammar.{all_bytes}

-- one element stands alone
alone-found : (tag : ℕ) (bytes content : List ℕ) → AreBytes bytes → alone tag Some bytes ≡ Some content → bytes ≡ tagged tag content
alone-found tag bytes content fits e = ((in_tag tag (λ _. Unit {0}) (λ c. c) Some all_bytes).found bytes content fits e).1

content-fits : (tag : ℕ) (content : List ℕ) → AreBytes (tagged tag content) → AreBytes content
unfolding tagged header
content-fits tag content h = AreBytes-back (tag ∷ length_octets (length content)) content h

-- bytes that end others end what those end, and what stands under a tag is the last of its element
ends-again : (last inner bytes : List ℕ) → EndsWith last inner → EndsWith inner bytes → EndsWith last bytes
ends-again last inner bytes (f, e) (g, h) = (g ++ f, h ∙ rw (e, append_assoc) refl)

ends-tagged : (tag : ℕ) (content rest : List ℕ) → EndsWith (content ++ rest) (tagged tag content ++ rest)
unfolding tagged header
ends-tagged tag content rest = (tag ∷ length_octets (length content), rw append_assoc refl)

pub ends-alone : (tag : ℕ) (last content bytes : List ℕ) → AreBytes bytes → alone tag Some bytes ≡ Some content → (AreBytes content → EndsWith last content) → EndsWith last bytes
ends-alone tag last content bytes fits e inside =
    let spelt = alone-found tag bytes content fits e in
    let one : EndsWith content bytes = subst (EndsWith content) (sym spelt) (rw (append-nil content, append-nil (tagged tag content)) at (ends-tagged tag content [])) in
    ends-again last content bytes (inside (content-fits tag content (subst AreBytes spelt fits))) one

-- the data, and what stands after them, end the fields of a body
pub ends-data : (fields element user_data rest : List ℕ) → AreBytes fields → tagged_at (context 0) fields ≡ Some (element, rest) → alone octet_string_tag Some element ≡ Some user_data → EndsWith (user_data ++ rest) fields
ends-data fields element user_data rest fits e d =
    let t = tagged-found (context 0) fields (element, rest) fits e in
    let spelt = alone-found octet_string_tag element user_data t.content_fits d in
    let outer : EndsWith (element ++ rest) fields = subst (EndsWith (element ++ rest)) (sym t.parts) (ends-tagged (context 0) element rest) in
    let inner : EndsWith (user_data ++ rest) (element ++ rest) = subst (λ (z : List ℕ). EndsWith (user_data ++ rest) (z ++ rest)) (sym spelt) (ends-tagged octet_string_tag user_data rest) in
    ends-again (user_data ++ rest) (element ++ rest) fields inner outer

-- so they are found by the lengths of what stands after them
pub data-place : (bytes user_data rest : List ℕ) (size : ℕ) → size ≡ length bytes → EndsWith (user_data ++ rest) bytes
    → take ((size - length rest) - ((size - length rest) - length user_data)) (drop ((size - length rest) - length user_data) bytes) ≡ user_data
data-place bytes user_data rest size whole (front, e) =
    let all : size ≡ length front + (length user_data + length rest) = omega (arith, whole, ap length e, length-append front (user_data ++ rest), length-append user_data rest) in
    let before : (size - length rest) - length user_data ≡ length front = omega (arith, all) in
    let inside : (size - length rest) - length front ≡ length user_data = omega (arith, all) in
    rw (before, inside, e, drop_at front (user_data ++ rest) (length front) refl) (take_at user_data rest (length user_data) refl)

pub ends-dropped : (n : ℕ) (last bytes : List ℕ) → EndsWith last (drop n bytes) → EndsWith last bytes
ends-dropped n last bytes h = ends-again last (drop n bytes) bytes h (take n bytes, sym (take-append-drop n bytes))

-- what is known of an optional value is known of what it implies
pub if-some : {A : Type 0} (P Q : A → Type 0) (o : Option A) → ((x : A) → P x → Q x) → IfSome o P → IfSome o Q
if-some P Q (Some x) f h = f x h
if-some P Q None f h = tt
