-- Sizes of elements, and elements that are written piece by piece.
use Rattle.std.proofs.Common.{◌≡◌, ℕ, ◌+◌, ◌<◌, ◌≤◌, Bool, true, false, List, ◌++◌, length, refl, sym, ap, ◌∙◌, arith, append_assoc, length-append}
use Rattle.std.proofs.lemmas.Bool.{lt-ltb}
use Rattle.krb_tlv.specs.Length.{length_octets}
use Rattle.krb_tlv.specs.Element.{header, tagged, octets}
use Rattle.krb_tlv.specs.UniversalTag.{octet_string_tag}
use Rattle.krb_tlv.specs.Integer.{width, int_octets, integer}
use Rattle.krb_tlv.specs.Writing.{element_size}
use Rattle.krb_tlv.specs.Reading.{signed}
use Rattle.krb_tlv.proofs.Numbers.{length-big_endian, length-complement}
use Rattle.krb_tlv.proofs.Readers.{size-tagged}

-- ---- sizes

-- an element with a short content has two octets before it
pub size-short : (n : ℕ) → n < 128 → element_size n ≡ 2 + n
unfolding length_octets
size-short n lt = rw (lt-ltb n 128 lt) refl

length-int_octets : (negative : Bool) (n : ℕ) → length (int_octets (signed negative n)) ≡ width n
unfolding int_octets
length-int_octets false n = length-big_endian (width n) n
length-int_octets true n = length-complement _ ∙ length-big_endian (width n) n

pub size-integer : (negative : Bool) (n w : ℕ) → w ≡ width n → w ≤ 5 → length (integer (signed negative n)) ≡ 2 + w
size-integer negative n w e le =
    size-tagged 0x02 (int_octets (signed negative n)) ∙ ap element_size (length-int_octets negative n ∙ sym e) ∙ size-short w (omega arith)

-- ---- writing

-- a header, and then the content
pub begun : (tag n : ℕ) (content s0 s1 s2 : List ℕ) → n ≡ length content → s1 ≡ s0 ++ header tag n → s2 ≡ s1 ++ content → s2 ≡ s0 ++ tagged tag content
unfolding tagged
begun tag n content s0 s1 s2 size first second = rw (second, first, size) (append_assoc s0 (header tag (length content)) content)

-- two headers, and then the content
pub begun_two : (outer inner n : ℕ) (content s0 s1 s2 : List ℕ) → n ≡ length content → s1 ≡ s0 ++ (header outer (element_size n) ++ header inner n) → s2 ≡ s1 ++ content
    → s2 ≡ s0 ++ tagged outer (tagged inner content)
unfolding tagged
begun_two outer inner n content s0 s1 s2 size first second =
    let a : List ℕ = header outer (element_size (length content)) in
    let b : List ℕ = header inner (length content) in
    let whole : s2 ≡ (s0 ++ (a ++ b)) ++ content = rw (second, first, size) refl in
    whole ∙ append_assoc s0 (a ++ b) content ∙ ap (λ (x : List ℕ). s0 ++ x) (append_assoc a b content)
    ∙ ap (λ (k : ℕ). s0 ++ (header outer k ++ (b ++ content))) (sym (size-tagged inner content))

-- the sizes of elements and of fields in a row
pub ruleset sizes = (size-tagged, length-append)

pub length-octets : (bytes : List ℕ) → length (octets bytes) ≡ element_size (length bytes)
length-octets bytes = size-tagged octet_string_tag bytes
