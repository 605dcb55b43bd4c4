use Rattle.std.proofs.Common.{◌≡◌, ◌<◌, ◌≤◌, ◌+◌, ◌/◌, ◌++◌, ℕ, pos, List, [], ◌∷◌, length, refl, ap, ◌∙◌, arith}
use Rattle.std.proofs.lemmas.Bool.{lt-ltb}
use Rattle.std.proofs.lemmas.List.{append-nil}
use Rattle.krb_tlv.specs.Element.{header, tagged, octets}
use Rattle.krb_tlv.specs.Length.{big_endian, length_octets}
use Rattle.krb_tlv.specs.Integer.{width, int_octets, integer}
use Rattle.krb_der.specs.Typed.{typed_octets}
use Rattle.krb_der.proofs.typed.short_front.Goals as goal

-- an element with a short content
short : (tag n : ℕ) (content : List ℕ) → length content ≡ n → n < 128 → tagged tag content ≡ tag ∷ n ∷ content
unfolding tagged header length_octets
short tag n content is lt = rw (is, lt-ltb n 128 lt) refl

-- a small number
small : (k : ℕ) → k < 128 → integer (pos k) ≡ 2 ∷ 1 ∷ k ∷ []
unfolding tagged header length_octets int_octets
small k lt =
    let one : width k ≡ 1 = rw (lt-ltb k 128 lt) refl in
    let last : k / 1 ≡ k = omega arith in
    let octets : int_octets (pos k) ≡ k ∷ [] = ap (λ (w : ℕ). big_endian w k) one ∙ ap (λ (x : ℕ). x ∷ []) last in
    ap (tagged 2) octets

-- a field with a small type and few bytes
front : (tag k n a b c : ℕ) (bytes : List ℕ) → k < 128 → n ≤ 116 → length bytes ≡ n → a ≡ n + 11 → b ≡ n + 9 → c ≡ n + 2
    → tagged tag (typed_octets (pos k) bytes) ≡ tag ∷ a ∷ 0x30 ∷ b ∷ 0xA0 ∷ 3 ∷ 2 ∷ 1 ∷ k ∷ 0xA1 ∷ c ∷ 4 ∷ n ∷ bytes
unfolding typed_octets
front tag k n a b c bytes lt le is ea eb ec =
    let inner : octets bytes ≡ 4 ∷ n ∷ bytes = short 4 n bytes is (omega arith) in
    let second : tagged 0xA1 (octets bytes) ≡ 0xA1 ∷ c ∷ 4 ∷ n ∷ bytes =
    ap (tagged 0xA1) inner ∙ short 0xA1 c (4 ∷ n ∷ bytes) (omega (arith, is)) (omega arith) in
    let first : tagged 0xA0 (integer (pos k)) ≡ 0xA0 ∷ 3 ∷ 2 ∷ 1 ∷ k ∷ [] =
    ap (tagged 0xA0) (small k lt) ∙ short 0xA0 3 (2 ∷ 1 ∷ k ∷ []) refl (omega arith) in
    let fields : tagged 0xA0 (integer (pos k)) ++ (tagged 0xA1 (octets bytes) ++ []) ≡ 0xA0 ∷ 3 ∷ 2 ∷ 1 ∷ k ∷ 0xA1 ∷ c ∷ 4 ∷ n ∷ bytes =
    ap (λ (x : List ℕ). x ++ (tagged 0xA1 (octets bytes) ++ [])) first
    ∙ ap (λ (x : List ℕ). 0xA0 ∷ 3 ∷ 2 ∷ 1 ∷ k ∷ x) (append-nil (tagged 0xA1 (octets bytes)) ∙ second) in
    let whole : tagged 0x30 (tagged 0xA0 (integer (pos k)) ++ (tagged 0xA1 (octets bytes) ++ [])) ≡ 0x30 ∷ b ∷ 0xA0 ∷ 3 ∷ 2 ∷ 1 ∷ k ∷ 0xA1 ∷ c ∷ 4 ∷ n ∷ bytes =
    ap (tagged 0x30) fields ∙ short 0x30 b (0xA0 ∷ 3 ∷ 2 ∷ 1 ∷ k ∷ 0xA1 ∷ c ∷ 4 ∷ n ∷ bytes) (omega (arith, is)) (omega arith) in
    ap (tagged tag) whole ∙ short tag a (0x30 ∷ b ∷ 0xA0 ∷ 3 ∷ 2 ∷ 1 ∷ k ∷ 0xA1 ∷ c ∷ 4 ∷ n ∷ bytes) (omega (arith, is)) (omega arith)

pub returns : goal.returns
returns c bytes is =
    front c.args.tag c.args.kind c.args.count _ _ _ bytes c.requires.kind c.requires.count is refl refl refl
