-- What the code follows, and no definitions of the standard: what is read from left to right of the
-- bytes of an element, a field or a number, if it is spelt there.
use Rattle.std.specs.Prelude.{◌≡◌, ℕ, ◌+◌, ◌*◌, ◌^◌, Bool, true, false, ℤ, pos, negsuc, List, []}
use Rattle.std.specs.Prelude.{◌∷◌, length, get_or, take, drop, Option, Some, None}
use Rattle.std.specs.Prelude.{nat_lt, nat_eq, map, ◌-◌, if◌then◌else◌}
use Rattle.krb_base.specs.Steps.{◌>>=◌}
use Rattle.krb_tlv.specs.UniversalTag.{integer_tag, octet_string_tag}
use Rattle.krb_tlv.specs.Length.{big_endian}
use Rattle.krb_tlv.specs.Integer.{width}

-- What a function returned, seen by view, is what reading gives, or nothing where reading gives nothing.
abbrev pub Finds : {X Y : Type 0} → (X → Y) → Option X → Option Y → Type 0
Finds view (Some x) read = read ≡ Some (view x)
Finds view None read = read ≡ None

-- the same, with the rest of the bytes left in a reader
abbrev pub Takes : {X Y : Type 0} → (X → Y) → Option X → List ℕ → Option (Y × List ℕ) → Type 0
Takes view (Some x) rest read = read ≡ Some (view x, rest)
Takes view None rest read = read ≡ None

-- nothing is left
abbrev pub ended : {A : Type 0} → A → List ℕ → Option A
ended x [] = Some x
ended x (b ∷ rest) = None

-- ---- lengths, and what is under a tag

-- the complement of each octet
abbrev pub complement : List ℕ → List ℕ
complement bytes = map (λ b. 255 - b) bytes

-- the number that octets are, the most significant first
abbrev pub be_value : List ℕ → ℕ
be_value [] = 0
be_value (b ∷ bs) = b * 256 ^ length bs + be_value bs

abbrev pub wide_length_at : ℕ → ℕ → List ℕ → Option (ℕ × List ℕ)
wide_length_at k low bytes =
    if nat_lt (length bytes) k then None
    else if nat_lt (be_value (take k bytes)) low then None
    else Some (be_value (take k bytes), drop k bytes)

unfoldable pub length_at : List ℕ → Option (ℕ × List ℕ)
length_at [] = None
length_at (b ∷ rest) =
    if nat_lt b 128 then Some (b, rest)
    else if nat_eq b 0x81 then wide_length_at 1 128 rest
    else if nat_eq b 0x82 then wide_length_at 2 256 rest
    else if nat_eq b 0x83 then wide_length_at 3 65536 rest
    else None

abbrev pub cut_at : ℕ × List ℕ → Option (List ℕ × List ℕ)
cut_at n = if nat_lt (length n.1) n.0 then None else Some (take n.0 n.1, drop n.0 n.1)

unfoldable pub tagged_at : ℕ → List ℕ → Option (List ℕ × List ℕ)
tagged_at tag [] = None
tagged_at tag (t ∷ rest) = if nat_eq t tag then length_at rest >>= cut_at else None

-- the content has this tag, and nothing follows
abbrev pub alone : {A : Type 0} → ℕ → (List ℕ → Option A) → List ℕ → Option A
alone tag of bytes = do
  t ← tagged_at tag bytes
  x ← of t.0
  ended x t.1

-- a field, and then the others
abbrev pub with_field : {A B : Type 0} → ℕ → (List ℕ → Option A) → (A → List ℕ → Option B) → List ℕ
    → Option B
with_field tag of others bytes = do
  t ← tagged_at tag bytes
  x ← of t.0
  others x t.1

-- a field, and what is left
unfoldable pub field_at : {A : Type 0} → ℕ → (List ℕ → Option A) → List ℕ → Option (A × List ℕ)
field_at tag of bytes = with_field tag of (λ x rest. Some (x, rest)) bytes

abbrev pub starts_with : ℕ → List ℕ → Bool
starts_with tag [] = false
starts_with tag (t ∷ rest) = nat_eq t tag

unfoldable pub optional_at : {A : Type 0} → ℕ → (List ℕ → Option A) → List ℕ
    → Option (Option A × List ℕ)
optional_at tag of bytes =
    if starts_with tag bytes then with_field tag of (λ x rest. Some (Some x, rest)) bytes
    else Some (None, bytes)

-- ---- values

abbrev pub signed : Bool → ℕ → ℤ
signed false n = pos n
signed true n = negsuc n

-- five octets of a number, of which the last few are its content
abbrev pub five_octets : Bool → ℕ → List ℕ
five_octets false n = big_endian 5 n
five_octets true n = complement (big_endian 5 n)

abbrev pub fewest : Bool → ℕ → ℕ → Option (Bool × ℕ)
fewest negative n len = if nat_eq (width n) len then Some (negative, n) else None

-- whether the number is negative, and n for n or for -(n + 1)
unfoldable pub int_of : List ℕ → Option (Bool × ℕ)
int_of content =
    if nat_lt 5 (length content) then None
    else if nat_lt (get_or content 0 0) 128 then fewest false (be_value content) (length content)
    else fewest true (be_value (complement content)) (length content)

abbrev pub as_int32 : Bool × ℕ → Option ℤ
as_int32 p = if nat_lt p.1 (2 ^ 31) then Some (signed p.0 p.1) else None

abbrev pub as_below : ℕ → Bool × ℕ → Option ℕ
as_below limit p = if p.0 then None else if nat_lt p.1 limit then Some p.1 else None

unfoldable pub int32_of : List ℕ → Option ℤ
int32_of content = int_of content >>= as_int32

unfoldable pub below_of : ℕ → List ℕ → Option ℕ
below_of limit content = int_of content >>= as_below limit

abbrev pub int32_element_of : List ℕ → Option ℤ
int32_element_of bytes = alone integer_tag int32_of bytes

abbrev pub below_element_of : ℕ → List ℕ → Option ℕ
below_element_of limit bytes = alone integer_tag (below_of limit) bytes

unfoldable pub octets_of : List ℕ → Option (List ℕ)
octets_of content = alone octet_string_tag Some content
