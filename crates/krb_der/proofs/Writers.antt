-- Sizes of spellings, and spellings that are written piece by piece.
use Rattle.std.proofs.Common.{◌≡◌, ℕ, ◌+◌, ℤ, pos, List, [], ◌∷◌, ◌++◌, length, Option, Some, None, refl, sym, ap, ◌∙◌, arith, append_assoc, length-append}
use Rattle.std.specs.List.{concat}
use Rattle.std.proofs.lemmas.List.{append-nil}
use Rattle.krb_tlv.specs.Element.{header, tagged, sequence, optional}
use Rattle.krb_tlv.specs.Tag.{context, application}
use Rattle.krb_tlv.specs.UniversalTag.{sequence_tag}
use Rattle.krb_tlv.specs.Length.{length_octets}
use Rattle.krb_tlv.specs.Integer.{int_octets, integer, natural}
use Rattle.krb_der.specs.declared.safe.SafeMsg.{SafeMsg}
use Rattle.krb_der.specs.declared.private.PrivMsg.{PrivMsg}
use Rattle.krb_der.specs.Typed.{typed_octets}
use Rattle.krb_der.specs.Safe.{safe_fields, before_checksum, checksum_field, without_checksum}
use Rattle.krb_der.specs.Message.{safe, safe_input}
use Rattle.krb_der.specs.Private.{encrypted_fields, encrypted_data, private_fields}
use Rattle.krb_der.specs.Message.{private}
use Rattle.krb_tlv.specs.Writing.{element_size}
use Rattle.krb_der.specs.Writing.{safe_headers, encrypted_fields_size, encrypted_before_cipher, private_fields_size, private_size, private_before_cipher}
use Rattle.krb_tlv.proofs.Writers.{begun, length-octets}
use Rattle.krb_tlv.proofs.Readers.{size-tagged}

-- ---- writing

-- a message from its two headers and its fields
pub message_written : (tag n k : ℕ) (fields : List (List ℕ)) (s0 s1 s2 s3 : List ℕ) → s0 ≡ [] → n ≡ length (concat fields) → k ≡ element_size n
    → s1 ≡ s0 ++ header tag k → s2 ≡ s1 ++ header 0x30 n → s3 ≡ s2 ++ concat fields → s3 ≡ tagged tag (sequence fields)
message_written tag n k fields s0 s1 s2 s3 none size around first second third =
    let outer : k ≡ length (sequence fields) = around ∙ ap element_size size ∙ sym (size-tagged 0x30 (concat fields)) in
    begun tag k (sequence fields) s0 s1 s3 outer first (begun 0x30 n (concat fields) s1 s2 s3 size second third) ∙ ap (λ s. s ++ tagged tag (sequence fields)) none

-- ---- KRB-SAFE, up to its checksum

fields_joined : (m : SafeMsg) → concat (safe_fields m) ≡ before_checksum m ++ checksum_field m.cksum_type m.checksum
fields_joined m = grind (arith, append_assoc, append-nil)

pub safe_is : (m : SafeMsg) (n : ℕ) → n ≡ length (concat (safe_fields m)) → safe_headers n ++ (before_checksum m ++ checksum_field m.cksum_type m.checksum) ≡ safe m
safe_is m n is =
    ap (λ s. safe_headers n ++ s) (sym (fields_joined m))
    ∙ message_written 0x74 n (element_size n) (safe_fields m) [] (header 0x74 (element_size n)) (safe_headers n) (safe_headers n ++ concat (safe_fields m)) refl is refl refl refl refl

-- checksum type 0 and an empty checksum
pub no_checksum_is : checksum_field (pos 0) [] ≡ 0xA3 ∷ 11 ∷ 0x30 ∷ 9 ∷ 0xA0 ∷ 3 ∷ 0x02 ∷ 1 ∷ 0 ∷ 0xA1 ∷ 2 ∷ 0x04 ∷ 0 ∷ []
unfolding tagged header length_octets typed_octets int_octets
no_checksum_is = refl

length-input : (m : SafeMsg) → length (concat (safe_fields (without_checksum m))) ≡ length (before_checksum m) + 13
length-input m =
    ap length (fields_joined (without_checksum m))
    ∙ length-append (before_checksum m) (checksum_field (pos 0) [])
    ∙ ap (λ (s : List ℕ). length (before_checksum m) + length s) no_checksum_is

-- what is under the checksum, with these fields between what stands around them
pub covered_is : (m : SafeMsg) (n : ℕ) (message sequence last : List ℕ) → length (before_checksum m) ≡ n
    → message ≡ header 0x74 (element_size (n + 13)) → sequence ≡ header 0x30 (n + 13) → last ≡ checksum_field (pos 0) []
    → message ++ (sequence ++ (before_checksum m ++ last)) ≡ safe_input m
covered_is m n message sequence last size a b c =
    let fields : List ℕ = before_checksum m ++ checksum_field (pos 0) [] in
    rw (a, b, c) (sym (append_assoc (header 0x74 (element_size (n + 13))) (header 0x30 (n + 13)) fields)
    ∙ safe_is (without_checksum m) (n + 13) (ap (λ k. k + 13) (sym size) ∙ sym (length-input m)))

-- ---- KRB-PRIV, up to its cipher

length-optional : (tag : ℕ) (n : Option ℕ) → length (optional tag natural n) ≡ length (optional 0 natural n)
length-optional tag None = refl
length-optional tag (Some n) = size-tagged tag (natural n) ∙ sym (size-tagged 0 (natural n))

length-encrypted_fields : (etype : ℤ) (kvno : Option ℕ) (cipher : List ℕ)
    → length (concat (encrypted_fields etype kvno cipher)) ≡ encrypted_fields_size etype kvno (length cipher)
length-encrypted_fields etype kvno cipher =
    grind (arith, length-append, size-tagged, length-optional (context 1) kvno, length-octets cipher)

length-private_fields : (m : PrivMsg) → length (concat (private_fields m)) ≡ private_fields_size m (length m.cipher)
unfolding encrypted_data
length-private_fields m =
    grind (arith, length-append, size-tagged, length-encrypted_fields m.etype m.kvno m.cipher)

pub length-private : (m : PrivMsg) → length (private m) ≡ private_size m (length m.cipher)
length-private m =
    size-tagged 0x75 (sequence (private_fields m)) ∙ ap element_size (size-tagged 0x30 (concat (private_fields m)) ∙ ap element_size (length-private_fields m))

encrypted_is : (etype : ℤ) (kvno : Option ℕ) (cipher : List ℕ) → encrypted_before_cipher etype kvno (length cipher) ++ cipher ≡ encrypted_data etype kvno cipher
unfolding encrypted_data tagged
encrypted_is etype kvno cipher =
    grind (arith, append_assoc, append-nil, length-encrypted_fields etype kvno cipher, length-octets cipher)

length-encrypted_data : (etype : ℤ) (kvno : Option ℕ) (cipher : List ℕ) → length (encrypted_data etype kvno cipher) ≡ element_size (encrypted_fields_size etype kvno (length cipher))
unfolding encrypted_data
length-encrypted_data etype kvno cipher =
    size-tagged sequence_tag (concat (encrypted_fields etype kvno cipher)) ∙ ap element_size (length-encrypted_fields etype kvno cipher)

-- a message of two fields and one that ends in a cipher
around_cipher : (tag k n i : ℕ) (a b inner front cipher : List ℕ) → front ++ cipher ≡ inner → i ≡ length inner
    → n ≡ length (a ++ (b ++ (tagged (context 3) inner ++ []))) → k ≡ length (tagged sequence_tag (a ++ (b ++ (tagged (context 3) inner ++ []))))
    → (header tag k ++ (header sequence_tag n ++ (a ++ (b ++ (header (context 3) i ++ front))))) ++ cipher ≡ tagged tag (tagged sequence_tag (a ++ (b ++ (tagged (context 3) inner ++ []))))
unfolding tagged
around_cipher tag k n i a b inner front cipher whole size fields sequence =
    rw (size, fields, sequence, ← whole) grind (arith, append_assoc, append-nil)

pub private_is : (m : PrivMsg) → private_before_cipher m (length m.cipher) ++ m.cipher ≡ private m
private_is m =
    around_cipher (application 21) _ _ _ (tagged (context 0) (integer m.pvno)) (tagged (context 1) (integer m.msg_type))
    (encrypted_data m.etype m.kvno m.cipher) (encrypted_before_cipher m.etype m.kvno (length m.cipher)) m.cipher
    (encrypted_is m.etype m.kvno m.cipher)
    (sym (length-encrypted_data m.etype m.kvno m.cipher))
    (sym (length-private_fields m))
    (sym (size-tagged sequence_tag (concat (private_fields m)) ∙ ap element_size (length-private_fields m)))
