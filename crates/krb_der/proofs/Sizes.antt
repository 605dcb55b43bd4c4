-- What tags, lengths and numbers take.
use Rattle.std.proofs.Common.{◌≡◌, ◌⊎◌, inl, inr, ℕ, ◌+◌, ◌*◌, ◌^◌, ◌<◌, ◌≤◌, ℤ, pos, negsuc, List, [], ◌∷◌, length, Option, Some, None, refl, lit≤, arith, length-append}
use Rattle.std.specs.List.{concat}
use Rattle.krb_der.specs.declared.address.HostAddress.{HostAddress}
use Rattle.krb_der.specs.declared.body.Body.{Body}
use Rattle.krb_tlv.specs.Tag.{context, application}
use Rattle.krb_tlv.specs.UniversalTag.{integer_tag, octet_string_tag, sequence_tag, generalized_time_tag}
use Rattle.krb_tlv.specs.Length.{big_endian, length_octets}
use Rattle.krb_tlv.specs.Element.{tagged, sequence, optional, octets}
use Rattle.krb_tlv.specs.Integer.{width, int_octets, integer, natural}
use Rattle.krb_der.specs.Typed.{typed_fields, typed_octets}
use Rattle.krb_time.specs.Time.{kerberos_time}
use Rattle.krb_der.specs.KerberosTime.{time}
use Rattle.krb_der.specs.Address.{host_address}
use Rattle.krb_der.specs.Addresses.{address_fields}
use Rattle.krb_base.specs.Limits.{frame_limit}
use Rattle.std.specs.Prelude.{IfSome}
use Rattle.krb_der.specs.Body.{body, body_fields}
use Rattle.krb_der.specs.Safe.{checksum, safe_fields, with_checksum}
use Rattle.krb_der.specs.Private.{encrypted_fields, encrypted_data, private_fields}
use Rattle.krb_der.specs.Size.{optional_size, carried, SmallPart, SmallSafe, SmallPrivate, ShorterInput}
use Rattle.krb_tlv.proofs.Numbers.{length-big_endian, length-complement, if_case}
use Rattle.krb_tlv.proofs.Readers.{tagged-short, size-tagged}

width-small : (n : ℕ) → width n ≤ 5
width-small n =
    if_case (λ (w : ℕ). w ≤ 5) n (2 ^ 7) 1 _ (λ _. lit≤ tt) (λ _.
    if_case (λ (w : ℕ). w ≤ 5) n (2 ^ 15) 2 _ (λ _. lit≤ tt) (λ _.
    if_case (λ (w : ℕ). w ≤ 5) n (2 ^ 23) 3 _ (λ _. lit≤ tt) (λ _.
    if_case (λ (w : ℕ). w ≤ 5) n (2 ^ 31) 4 5 (λ _. lit≤ tt) (λ _. lit≤ tt))))

octets-small : (z : ℤ) → length (int_octets z) ≤ 5
unfolding int_octets
octets-small (pos n) = omega (arith, length-big_endian (width n) n, width-small n)
octets-small (negsuc n) = omega (arith, length-complement (big_endian (width n) n), length-big_endian (width n) n, width-small n)

integer-small : (z : ℤ) → length (integer z) ≤ 10
integer-small z = omega (arith, tagged-short integer_tag (int_octets z), octets-small z)

natural-small : (tag : ℕ) (o : Option ℕ) → length (optional tag natural o) ≤ 15
natural-small tag None = lit≤ tt
natural-small tag (Some n) = omega (arith, tagged-short tag (natural n), integer-small (pos n))

text-size : (s : ℕ) → length (kerberos_time s) ≡ 15
unfolding kerberos_time
text-size s = refl

time-small : (tag : ℕ) (o : Option ℕ) → length (optional tag time o) ≤ 25
time-small tag None = lit≤ tt
time-small tag (Some s) = omega (arith, tagged-short tag (time s), tagged-short generalized_time_tag (kerberos_time s), text-size s)

typed-small : (kind : ℤ) (bytes : List ℕ) → length (typed_octets kind bytes) ≤ length bytes + 30
unfolding typed_octets
typed-small kind bytes =
    let k : List ℕ = tagged (context 0) (integer kind) in
    let b : List ℕ = tagged (context 1) (octets bytes) in
    omega (
      arith,
      integer-small kind,
      tagged-short (context 0) (integer kind),
      tagged-short octet_string_tag bytes,
      tagged-short (context 1) (octets bytes),
      length-append b [],
      length-append k (concat (b ∷ [])),
      tagged-short sequence_tag (concat (typed_fields kind bytes)),
    )

address-small : (tag : ℕ) (o : Option HostAddress) → length (optional tag host_address o) ≤ optional_size o + 35
address-small tag None = omega arith
address-small tag (Some a) = omega (arith, tagged-short tag (host_address a), typed-small a.kind a.bytes)

-- the fields of both addresses
pub addresses-small : (s : HostAddress) (r : Option HostAddress) → length s.bytes ≤ frame_limit → IfSome r (λ a. length a.bytes ≤ frame_limit)
    → length (address_fields s r) ≤ 2 * frame_limit + 80
addresses-small s None sender receiver =
    omega (
      arith,
      typed-small s.kind s.bytes,
      tagged-short (context 4) (host_address s),
      length-append (tagged (context 4) (host_address s)) [],
      sender,
    )
addresses-small s (Some r) sender receiver =
    omega (
      arith,
      typed-small s.kind s.bytes,
      tagged-short (context 4) (host_address s),
      typed-small r.kind r.bytes,
      tagged-short (context 5) (host_address r),
      length-append (tagged (context 4) (host_address s)) (tagged (context 5) (host_address r)),
      sender,
      receiver,
    )

body-small : (b : Body) → length (body b) ≤ carried b + 145
unfolding body
body-small b =
    let user : List ℕ = tagged (context 0) (octets b.user_data) in
    let secs : List ℕ = optional (context 1) time b.time in
    let usec : List ℕ = optional (context 2) natural b.usec in
    let number : List ℕ = optional (context 3) natural b.seq in
    let sender : List ℕ = tagged (context 4) (host_address b.s_addr) in
    let receiver : List ℕ = optional (context 5) host_address b.r_addr in
    omega (
      arith,
      tagged-short octet_string_tag b.user_data,
      tagged-short (context 0) (octets b.user_data),
      time-small (context 1) b.time,
      natural-small (context 2) b.usec,
      natural-small (context 3) b.seq,
      typed-small b.s_addr.kind b.s_addr.bytes,
      tagged-short (context 4) (host_address b.s_addr),
      address-small (context 5) b.r_addr,
      length-append receiver [],
      length-append sender (concat (receiver ∷ [])),
      length-append number (concat (sender ∷ receiver ∷ [])),
      length-append usec (concat (number ∷ sender ∷ receiver ∷ [])),
      length-append secs (concat (usec ∷ number ∷ sender ∷ receiver ∷ [])),
      length-append user (concat (secs ∷ usec ∷ number ∷ sender ∷ receiver ∷ [])),
      tagged-short sequence_tag (concat (body_fields b)),
    )

pub small_part : SmallPart
small_part b = omega (arith, body-small b, tagged-short (application 28) (body b))

pub small_safe : SmallSafe
small_safe m =
    let pvno : List ℕ = tagged (context 0) (integer m.pvno) in
    let kind : List ℕ = tagged (context 1) (integer m.msg_type) in
    let inner : List ℕ = tagged (context 2) (body m.body) in
    let sum : List ℕ = tagged (context 3) (checksum m.cksum_type m.checksum) in
    omega (
      arith,
      integer-small m.pvno,
      tagged-short (context 0) (integer m.pvno),
      integer-small m.msg_type,
      tagged-short (context 1) (integer m.msg_type),
      body-small m.body,
      tagged-short (context 2) (body m.body),
      typed-small m.cksum_type m.checksum,
      tagged-short (context 3) (checksum m.cksum_type m.checksum),
      length-append sum [],
      length-append inner (concat (sum ∷ [])),
      length-append kind (concat (inner ∷ sum ∷ [])),
      length-append pvno (concat (kind ∷ inner ∷ sum ∷ [])),
      tagged-short sequence_tag (concat (safe_fields m)),
      tagged-short (application 20) (sequence (safe_fields m)),
    )

pub small_private : SmallPrivate
unfolding encrypted_data
small_private m =
    let etype : List ℕ = tagged (context 0) (integer m.etype) in
    let kvno : List ℕ = optional (context 1) natural m.kvno in
    let cipher : List ℕ = tagged (context 2) (octets m.cipher) in
    let pvno : List ℕ = tagged (context 0) (integer m.pvno) in
    let kind : List ℕ = tagged (context 1) (integer m.msg_type) in
    let inner : List ℕ = tagged (context 3) (encrypted_data m.etype m.kvno m.cipher) in
    omega (
      arith,
      integer-small m.etype,
      tagged-short (context 0) (integer m.etype),
      natural-small (context 1) m.kvno,
      tagged-short octet_string_tag m.cipher,
      tagged-short (context 2) (octets m.cipher),
      length-append cipher [],
      length-append kvno (concat (cipher ∷ [])),
      length-append etype (concat (kvno ∷ cipher ∷ [])),
      tagged-short sequence_tag (concat (encrypted_fields m.etype m.kvno m.cipher)),
      tagged-short (context 3) (encrypted_data m.etype m.kvno m.cipher),
      integer-small m.pvno,
      tagged-short (context 0) (integer m.pvno),
      integer-small m.msg_type,
      tagged-short (context 1) (integer m.msg_type),
      length-append inner [],
      length-append kind (concat (inner ∷ [])),
      length-append pvno (concat (kind ∷ inner ∷ [])),
      tagged-short sequence_tag (concat (private_fields m)),
      tagged-short (application 21) (sequence (private_fields m)),
    )

-- ---- longer contents

-- how many octets a length takes
OctetsOf : ℕ → ℕ → Type 0
OctetsOf n k = ((n < 128) × (k ≡ 1)) ⊎ (((128 ≤ n) × (n < 256) × (k ≡ 2)) ⊎ (((256 ≤ n) × (n < 65536) × (k ≡ 3)) ⊎ ((65536 ≤ n) × (k ≡ 4))))

length_octets-size : (n : ℕ) → OctetsOf n (length (length_octets n))
unfolding length_octets OctetsOf
length_octets-size n =
    if_case (λ (s : List ℕ). OctetsOf n (length s)) n 128 (n ∷ []) _ (λ h. inl (h, refl)) (λ a.
    if_case (λ (s : List ℕ). OctetsOf n (length s)) n 256 (0x81 ∷ big_endian 1 n) _ (λ h. inr (inl (a, h, refl))) (λ b.
    if_case (λ (s : List ℕ). OctetsOf n (length s)) n 65536 (0x82 ∷ big_endian 2 n) (0x83 ∷ big_endian 3 n) (λ h. inr (inr (inl (b, h, refl)))) (λ h. inr (inr (inr (h, refl))))))

octets-monotone : (a b j k : ℕ) → a ≤ b → OctetsOf a j → OctetsOf b k → j ≤ k
unfolding OctetsOf
octets-monotone a b j k le x y = grind (arith)

pub longer : (tag : ℕ) (a b : List ℕ) → length a ≤ length b → length (tagged tag a) ≤ length (tagged tag b)
longer tag a b le =
    let o = octets-monotone (length a) (length b) _ _ le (length_octets-size (length a)) (length_octets-size (length b)) in
    omega (arith, size-tagged tag a, size-tagged tag b)

width-some : (n : ℕ) → 1 ≤ width n
width-some n =
    if_case (λ (w : ℕ). 1 ≤ w) n (2 ^ 7) 1 _ (λ _. lit≤ tt) (λ _.
    if_case (λ (w : ℕ). 1 ≤ w) n (2 ^ 15) 2 _ (λ _. lit≤ tt) (λ _.
    if_case (λ (w : ℕ). 1 ≤ w) n (2 ^ 23) 3 _ (λ _. lit≤ tt) (λ _.
    if_case (λ (w : ℕ). 1 ≤ w) n (2 ^ 31) 4 5 (λ _. lit≤ tt) (λ _. lit≤ tt))))

octets-some : (z : ℤ) → 1 ≤ length (int_octets z)
unfolding int_octets
octets-some (pos n) = omega (arith, length-big_endian (width n) n, width-some n)
octets-some (negsuc n) = omega (arith, length-complement (big_endian (width n) n), length-big_endian (width n) n, width-some n)

typed-longer : (kind : ℤ) (bytes : List ℕ) → length (typed_octets (pos 0) []) ≤ length (typed_octets kind bytes)
unfolding typed_octets int_octets
typed-longer kind bytes =
    let none : List ℕ = tagged (context 0) (integer (pos 0)) in
    let some : List ℕ = tagged (context 0) (integer kind) in
    let empty : List ℕ = tagged (context 1) (octets []) in
    let full : List ℕ = tagged (context 1) (octets bytes) in
    let number : length none ≤ length some = longer (context 0) (integer (pos 0)) (integer kind) (longer integer_tag (int_octets (pos 0)) (int_octets kind) (octets-some kind)) in
    let string : length empty ≤ length full = longer (context 1) (octets []) (octets bytes) (longer octet_string_tag [] bytes (omega arith)) in
    longer sequence_tag (concat (typed_fields (pos 0) [])) (concat (typed_fields kind bytes))
    (omega (arith, number, string, length-append none (concat (empty ∷ [])), length-append empty [], length-append some (concat (full ∷ [])), length-append full []))

pub shorter_input : ShorterInput
shorter_input m =
    let pvno : List ℕ = tagged (context 0) (integer m.pvno) in
    let kind : List ℕ = tagged (context 1) (integer m.msg_type) in
    let inner : List ℕ = tagged (context 2) (body m.body) in
    let none : List ℕ = tagged (context 3) (checksum (pos 0) []) in
    let sum : List ℕ = tagged (context 3) (checksum m.cksum_type m.checksum) in
    let less : length none ≤ length sum = longer (context 3) (checksum (pos 0) []) (checksum m.cksum_type m.checksum) (typed-longer m.cksum_type m.checksum) in
    longer (application 20) (sequence (safe_fields (with_checksum m (pos 0) []))) (sequence (safe_fields m))
    (longer sequence_tag (concat (safe_fields (with_checksum m (pos 0) []))) (concat (safe_fields m))
    (omega (
      arith,
      less,
      length-append none [],
      length-append inner (concat (none ∷ [])),
      length-append kind (concat (inner ∷ none ∷ [])),
      length-append pvno (concat (kind ∷ inner ∷ none ∷ [])),
      length-append sum [],
      length-append inner (concat (sum ∷ [])),
      length-append kind (concat (inner ∷ sum ∷ [])),
      length-append pvno (concat (kind ∷ inner ∷ sum ∷ [])),
    )))
