-- What is enciphered is bytes.
use Rattle.std.proofs.Common.{ℕ, ℤ, pos, negsuc, suc, ◌^◌, ◌<◌, List, [], ◌∷◌, ◌++◌, length, Option, Some, None, arith, lit<, length-append}
use Rattle.std.specs.List.{concat}
use Rattle.std.specs.Prelude.{IfSome}
use Rattle.krb_base.specs.Bytes.{AreBytes}
use Rattle.krb_der.specs.declared.address.HostAddress.{HostAddress}
use Rattle.krb_der.specs.declared.body.Body.{Body}
use Rattle.krb_der.specs.Address.{host_address}
use Rattle.krb_der.specs.Body.{IsBody, body, part}
use Rattle.krb_der.specs.KerberosTime.{time}
use Rattle.krb_der.specs.Typed.{typed_octets}
use Rattle.krb_der.specs.Moment.{IsMicroseconds}
use Rattle.krb_der.specs.Time.{digit, kerberos_time}
use Rattle.krb_tlv.specs.Element.{tagged, header, sequence, optional, octets}
use Rattle.krb_tlv.specs.Integer.{IsInt32, IsUInt32, int_octets, integer, natural, width}
use Rattle.krb_tlv.specs.Length.{big_endian, length_octets}
use Rattle.krb_tlv.specs.Tag.{application, context}
use Rattle.krb_tlv.proofs.Numbers.{AreBytes-cons, AreBytes-big_endian, AreBytes-complement, if_case, width_is}
use Rattle.krb_tlv.proofs.Readers.{length-tagged}
use Rattle.krb_seal.specs.Exists.{IsHost}

pub joined : (a b : List ℕ) → AreBytes a → AreBytes b → AreBytes (a ++ b)
joined [] b one two = two
joined (x ∷ a) b one two = AreBytes-cons x (a ++ b) (one.small 0) (joined a b (record { small = λ i. one.small (suc i) }) two)

none : AreBytes []
none = record { small = λ i. lit< tt }

-- ---- elements

bytes_of_length : (n : ℕ) → n < 2 ^ 24 → AreBytes (length_octets n)
unfolding length_octets
bytes_of_length n lt =
    if_case AreBytes n 128 (n ∷ []) _ (λ small. AreBytes-cons n [] (omega (arith, small)) none) (λ _.
    if_case AreBytes n 256 (0x81 ∷ big_endian 1 n) _ (λ small. AreBytes-cons 0x81 (big_endian 1 n) (lit< tt) (AreBytes-big_endian 1 n small)) (λ _.
    if_case AreBytes n 65536 (0x82 ∷ big_endian 2 n) (0x83 ∷ big_endian 3 n) (λ small. AreBytes-cons 0x82 (big_endian 2 n) (lit< tt) (AreBytes-big_endian 2 n small))
    (λ _. AreBytes-cons 0x83 (big_endian 3 n) (lit< tt) (AreBytes-big_endian 3 n lt))))

-- an element within three octets' length
pub of_tagged : (tag : ℕ) (content : List ℕ) → tag < 256 → length content < 2 ^ 24 → AreBytes content → AreBytes (tagged tag content)
unfolding tagged header
of_tagged tag content small short bytes = AreBytes-cons tag (length_octets (length content) ++ content) small (joined (length_octets (length content)) content (bytes_of_length (length content) short) bytes)

of_integer : (z : ℤ) → AreBytes (int_octets z) → length (int_octets z) < 2 ^ 24 → AreBytes (integer z)
of_integer z bytes short = of_tagged 0x02 (int_octets z) (lit< tt) short bytes

octets_of : (z : ℤ) (n : ℕ) → n < 2 ^ 39 → AreBytes (big_endian (width n) n)
octets_of z n lt = AreBytes-big_endian (width n) n (width_is n lt).fits

pub of_natural : (n : ℕ) → n < 2 ^ 32 → AreBytes (int_octets (pos n))
unfolding int_octets
of_natural n lt = octets_of (pos n) n (omega (arith, lt))

pub of_int : (z : ℤ) → IsInt32 z → AreBytes (int_octets z)
unfolding int_octets
of_int (pos n) is = octets_of (pos n) n (omega (arith, is))
of_int (negsuc n) is = AreBytes-complement (big_endian (width n) n)

-- ---- times

of_digit : (n : ℕ) → digit n < 256
of_digit n = omega arith

of_time : (s : ℕ) → AreBytes (kerberos_time s)
unfolding kerberos_time
of_time s =
    AreBytes-cons _ _ (of_digit _) (AreBytes-cons _ _ (of_digit _) (AreBytes-cons _ _ (of_digit _) (AreBytes-cons _ _ (of_digit _) (
    AreBytes-cons _ _ (of_digit _) (AreBytes-cons _ _ (of_digit _) (AreBytes-cons _ _ (of_digit _) (AreBytes-cons _ _ (of_digit _) (
    AreBytes-cons _ _ (of_digit _) (AreBytes-cons _ _ (of_digit _) (AreBytes-cons _ _ (of_digit _) (AreBytes-cons _ _ (of_digit _) (
    AreBytes-cons _ _ (of_digit _) (AreBytes-cons _ _ (of_digit _) (AreBytes-cons 90 [] (lit< tt) none))))))))))))))

-- ---- a body

-- what stands inside an element is shorter
within : (tag : ℕ) (content : List ℕ) → tag < 256 → AreBytes content → length (tagged tag content) < 2 ^ 24 → AreBytes (tagged tag content)
within tag content small bytes short = of_tagged tag content small (omega (arith, length-tagged tag content, short)) bytes

-- a field in a field
inner : (tag : ℕ) (inside : ℕ) (content : List ℕ) → tag < 256 → inside < 256 → AreBytes content → length (tagged tag (tagged inside content)) < 2 ^ 24 → AreBytes (tagged tag (tagged inside content))
inner tag inside content small two bytes short =
    within tag (tagged inside content) small (within inside content two bytes (omega (arith, length-tagged tag (tagged inside content), short))) short

front : (a b : List ℕ) → length (a ++ b) < 2 ^ 24 → length a < 2 ^ 24
front a b short = omega (arith, length-append a b, short)

back : (a b : List ℕ) → length (a ++ b) < 2 ^ 24 → length b < 2 ^ 24
back a b short = omega (arith, length-append a b, short)

-- an element and what follows it
then_more : (a : List ℕ) (rest : List (List ℕ)) → length (concat (a ∷ rest)) < 2 ^ 24 → (length a < 2 ^ 24 → AreBytes a) → (length (concat rest) < 2 ^ 24 → AreBytes (concat rest)) → AreBytes (concat (a ∷ rest))
then_more a rest short one others = joined a (concat rest) (one (front a (concat rest) short)) (others (back a (concat rest) short))

of_optional : {A : Type 0} (tag : ℕ) (spell : A → List ℕ) (P : A → Type 0) (o : Option A) → tag < 256 → IfSome o P → ((x : A) → P x → length (tagged tag (spell x)) < 2 ^ 24 → AreBytes (spell x)) → length (optional tag spell o) < 2 ^ 24 → AreBytes (optional tag spell o)
of_optional tag spell P None small h each short = none
of_optional tag spell P (Some x) small h each short = within tag (spell x) small (each x h short) short

of_host : (a : HostAddress) → IsHost a → length (host_address a) < 2 ^ 24 → AreBytes (host_address a)
unfolding typed_octets
of_host a is short =
    let k : List ℕ = tagged (context 0) (integer a.kind) in
    let b : List ℕ = tagged (context 1) (octets a.bytes) in
    let fields : List (List ℕ) = k ∷ b ∷ [] in
    let inside : length (concat fields) < 2 ^ 24 = omega (arith, length-tagged 0x30 (concat fields), short) in
    within 0x30 (concat fields) (lit< tt)
    (then_more k (b ∷ []) inside
    (λ s. inner (context 0) 0x02 (int_octets a.kind) (lit< tt) (lit< tt) (of_int a.kind is.kind) s)
    (λ r. then_more b [] r (λ s. inner (context 1) 0x04 a.bytes (lit< tt) (lit< tt) is.bytes s) (λ _. none)))
    short

pub of_part : (b : Body) → IsBody b → AreBytes b.user_data → IsHost b.s_addr → IfSome b.r_addr IsHost → length (part b) < 2 ^ 24 → AreBytes (part b)
unfolding body
of_part b is user sender receiver short =
    let f0 : List ℕ = tagged (context 0) (octets b.user_data) in
    let f1 : List ℕ = optional (context 1) time b.time in
    let f2 : List ℕ = optional (context 2) natural b.usec in
    let f3 : List ℕ = optional (context 3) natural b.seq in
    let f4 : List ℕ = tagged (context 4) (host_address b.s_addr) in
    let f5 : List ℕ = optional (context 5) host_address b.r_addr in
    let fields : List (List ℕ) = f0 ∷ f1 ∷ f2 ∷ f3 ∷ f4 ∷ f5 ∷ [] in
    let whole : length (sequence fields) < 2 ^ 24 = omega (arith, length-tagged (application 28) (sequence fields), short) in
    let inside : length (concat fields) < 2 ^ 24 = omega (arith, length-tagged 0x30 (concat fields), whole) in
    within (application 28) (sequence fields) (lit< tt) (within 0x30 (concat fields) (lit< tt)
    (then_more f0 (f1 ∷ f2 ∷ f3 ∷ f4 ∷ f5 ∷ []) inside (λ s. inner (context 0) 0x04 b.user_data (lit< tt) (lit< tt) user s) (λ r1.
    then_more f1 (f2 ∷ f3 ∷ f4 ∷ f5 ∷ []) r1 (λ s. of_optional (context 1) time (λ t. Unit {0}) b.time (lit< tt) (any b.time) (λ t h l. of_second t l) s) (λ r2.
    then_more f2 (f3 ∷ f4 ∷ f5 ∷ []) r2 (λ s. of_optional (context 2) natural (λ n. n < 2 ^ 32) b.usec (lit< tt) (small_usec b.usec is.usec) (λ n h l. of_nat (context 2) n h l) s) (λ r3.
    then_more f3 (f4 ∷ f5 ∷ []) r3 (λ s. of_optional (context 3) natural (λ n. n < 2 ^ 32) b.seq (lit< tt) (small_seq b.seq is.seq) (λ n h l. of_nat (context 3) n h l) s) (λ r4.
    then_more f4 (f5 ∷ []) r4 (λ s. within (context 4) (host_address b.s_addr) (lit< tt) (host_in (context 4) b.s_addr sender s) s) (λ r5.
    then_more f5 [] r5 (λ s. of_optional (context 5) host_address IsHost b.r_addr (lit< tt) receiver (λ a h l. host_in (context 5) a h l) s) (λ _. none))))))) whole) short
  where
    of_second : (t : ℕ) → length (tagged (context 1) (time t)) < 2 ^ 24 → AreBytes (time t)
    of_second t l = within 0x18 (kerberos_time t) (lit< tt) (of_time t) (omega (arith, length-tagged (context 1) (time t), l))

    host_in : (tag : ℕ) (a : HostAddress) → IsHost a → length (tagged tag (host_address a)) < 2 ^ 24 → AreBytes (host_address a)
    host_in tag a h l = of_host a h (omega (arith, length-tagged tag (host_address a), l))

    any : (o : Option ℕ) → IfSome o (λ t. Unit {0})
    any None = tt
    any (Some x) = tt

    small_usec : (o : Option ℕ) → IfSome o IsMicroseconds → IfSome o (λ n. n < 2 ^ 32)
    small_usec None h = tt
    small_usec (Some x) h = omega (arith, h)

    small_seq : (o : Option ℕ) → IfSome o IsUInt32 → IfSome o (λ n. n < 2 ^ 32)
    small_seq None h = tt
    small_seq (Some x) h = h

    of_nat : (tag : ℕ) (n : ℕ) → n < 2 ^ 32 → length (tagged tag (natural n)) < 2 ^ 24 → AreBytes (natural n)
    of_nat tag n lt l = within 0x02 (int_octets (pos n)) (lit< tt) (of_natural n lt) (omega (arith, length-tagged tag (natural n), l))
