-- Elements: a tag, the length of the content, and the content (X.690 section 8.1).
use Rattle.std.specs.Prelude.{ℕ, List, [], ◌∷◌, ◌++◌, length, Option, Some, None}
use Rattle.std.specs.List.{concat}
use Rattle.krb_tlv.specs.Length.{length_octets}

-- the tag and the length, before a content of so many octets
unfoldable pub header : ℕ → ℕ → List ℕ
header tag n = tag ∷ length_octets n

-- an element: its tag, the length of its content, and the content
unfoldable pub tagged : ℕ → List ℕ → List ℕ
tagged tag content = header tag (length content) ++ content

-- SEQUENCE, made of elements, has tag 16 (X.680 section 8.4), and 0x20 says that it is made of them:
-- its elements, one after another (X.690 section 8.9)
abbrev pub sequence : List (List ℕ) → List ℕ
sequence fields = tagged 0x30 (concat fields)

-- an OPTIONAL field under its tag
abbrev pub optional : {A : Type 0} → ℕ → (A → List ℕ) → Option A → List ℕ
optional tag spell None = []
optional tag spell (Some x) = tagged tag (spell x)

-- OCTET STRING (X.690 section 8.7): tag 4 (X.680 section 8.4)
abbrev pub octets : List ℕ → List ℕ
octets bytes = tagged 0x04 bytes
