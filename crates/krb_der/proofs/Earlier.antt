-- What the earlier grammar spells, today's spells the same: within the earlier limit no content is
-- so long that its length would take a third octet.
use Rattle.std.proofs.Common.{◌≡◌, ℕ, ◌<◌, ◌≤◌, ℤ, pos, List, [], ◌∷◌, ◌++◌, length, Option, Some, None, refl, subst, ap, ◌∙◌, arith}
use Rattle.std.specs.List.{concat}
use Rattle.std.proofs.lemmas.Bool.{lt-ltb}
use Rattle.std.proofs.lemmas.List.{length-append}
use Rattle.krb_der.specs.declared.address.HostAddress.{HostAddress}
use Rattle.krb_der.specs.declared.body.Body.{Body}
use Rattle.krb_der.specs.declared.message.Message.{Message}
use Rattle.krb_der.specs.declared.message.Message.TheVariants.{Safe, Priv}
use Rattle.krb_time.specs.Time.{kerberos_time}
use Rattle.krb_tlv.specs.Tag.{context, application}
use Rattle.krb_tlv.specs.UniversalTag.{integer_tag, octet_string_tag, generalized_time_tag, sequence_tag}
use Rattle.krb_tlv.specs.Length.{length_octets}
use Rattle.krb_tlv.specs.Element.{header, tagged, sequence, optional, octets}
use Rattle.krb_tlv.specs.Integer.{int_octets, integer, natural}
use Rattle.krb_der.specs.KerberosTime.{time}
use Rattle.krb_der.specs.Typed.{typed_fields, typed_octets}
use Rattle.krb_der.specs.Address.{host_address}
use Rattle.krb_der.specs.Body.{body_fields, body, part}
use Rattle.krb_der.specs.Safe.{safe_fields}
use Rattle.krb_der.specs.Private.{encrypted_fields, encrypted_data, private_fields}
use Rattle.krb_der.specs.Message.{message, SpellsWithin}
use Rattle.krb_der.specs.Earlier.{earlier_limit, earlier_octets, earlier, earlier_sequence, earlier_optional, earlier_string, earlier_integer, earlier_natural, earlier_time, earlier_typed_fields, earlier_typed, earlier_address, earlier_body_fields, earlier_body, earlier_part, earlier_safe_fields, earlier_encrypted_fields, earlier_encrypted, earlier_private_fields, earlier_message, SpellsAsEarlier, PartSpellsAsEarlier}

-- within the earlier limit both are the same
abbrev Same : List ℕ → List ℕ → Type 0
Same before now = length before ≤ earlier_limit → before ≡ now

lengths_same : (n : ℕ) → n < 65536 → earlier_octets n ≡ length_octets n
unfolding length_octets
lengths_same n lt = rw (lt-ltb n 65536 lt) refl

content_fits : (tag : ℕ) (content : List ℕ) → length content ≤ length (earlier tag content)
content_fits tag content = omega (arith, length-append (earlier_octets (length content)) content)

element : (tag : ℕ) (before now : List ℕ) → Same before now → Same (earlier tag before) (tagged tag now)
unfolding tagged header
element tag before now same le =
    let short : length before ≤ earlier_limit = omega (arith, content_fits tag before) in
    let lengths : earlier_octets (length before) ≡ length_octets (length before) = lengths_same (length before) (omega arith) in
    subst (λ (content : List ℕ). earlier tag before ≡ tagged tag content) (same short) (ap (λ (size : List ℕ). tag ∷ size ++ before) lengths)

-- a content that holds no elements
whole : (tag : ℕ) (content : List ℕ) → Same (earlier tag content) (tagged tag content)
whole tag content = element tag content content (λ le. refl)

abbrev AllSame : List (List ℕ) → List (List ℕ) → Type 0
AllSame [] [] = Unit {0}
AllSame [] (now ∷ nows) = ⊥
AllSame (before ∷ befores) [] = ⊥
AllSame (before ∷ befores) (now ∷ nows) = Same before now × AllSame befores nows

fields : (befores nows : List (List ℕ)) → AllSame befores nows → Same (concat befores) (concat nows)
fields [] [] same le = refl
fields [] (now ∷ nows) same le = absurd same
fields (before ∷ befores) [] same le = absurd same
fields (before ∷ befores) (now ∷ nows) same le =
    let front : before ≡ now = same.0 (omega (arith, length-append before (concat befores))) in
    let rest : concat befores ≡ concat nows = fields befores nows same.1 (omega (arith, length-append before (concat befores))) in
    subst (λ (x : List ℕ). before ++ concat befores ≡ x ++ concat nows) front (ap (λ (x : List ℕ). before ++ x) rest)

sequence_same : (befores nows : List (List ℕ)) → AllSame befores nows → Same (earlier_sequence befores) (sequence nows)
sequence_same befores nows same = element sequence_tag (concat befores) (concat nows) (fields befores nows same)

field : (n : ℕ) (before now : List ℕ) → Same before now → Same (earlier (context n) before) (tagged (context n) now)
field n = element (context n)

optional_same : {A : Type 0} (n : ℕ) (before now : A → List ℕ) (o : Option A) → ((x : A) → Same (before x) (now x))
    → Same (earlier_optional (context n) before o) (optional (context n) now o)
optional_same n before now None same le = refl
optional_same n before now (Some x) same le = field n (before x) (now x) (same x) le

integer_same : (z : ℤ) → Same (earlier_integer z) (integer z)
integer_same z = whole integer_tag (int_octets z)

natural_same : (n : ℕ) → Same (earlier_natural n) (natural n)
natural_same n = integer_same (pos n)

time_same : (s : ℕ) → Same (earlier_time s) (time s)
time_same s = whole generalized_time_tag (kerberos_time s)

string_same : (bytes : List ℕ) → Same (earlier_string bytes) (octets bytes)
string_same bytes = whole octet_string_tag bytes

typed_same : (kind : ℤ) (bytes : List ℕ) → Same (earlier_typed kind bytes) (typed_octets kind bytes)
unfolding typed_octets
typed_same kind bytes = sequence_same (earlier_typed_fields kind bytes) (typed_fields kind bytes) (
  field 0 (earlier_integer kind) (integer kind) (integer_same kind),
  (
    field 1 (earlier_string bytes) (octets bytes) (string_same bytes),
    tt,
  ),
)

address_same : (a : HostAddress) → Same (earlier_address a) (host_address a)
address_same a = typed_same a.kind a.bytes

body_same : (b : Body) → Same (earlier_body b) (body b)
unfolding body
body_same b = sequence_same (earlier_body_fields b) (body_fields b) (
  field 0 (earlier_string b.user_data) (octets b.user_data) (string_same b.user_data),
  (
    optional_same 1 earlier_time time b.time time_same,
    (
      optional_same 2 earlier_natural natural b.usec natural_same,
      (
        optional_same 3 earlier_natural natural b.seq natural_same,
        (
          field 4 (earlier_address b.s_addr) (host_address b.s_addr) (address_same b.s_addr),
          (
            optional_same 5 earlier_address host_address b.r_addr address_same,
            tt,
          ),
        ),
      ),
    ),
  ),
)

part_same : (b : Body) → Same (earlier_part b) (part b)
part_same b = element (application 28) (earlier_body b) (body b) (body_same b)

encrypted_same : (etype : ℤ) (kvno : Option ℕ) (cipher : List ℕ) → Same (earlier_encrypted etype kvno cipher) (encrypted_data etype kvno cipher)
unfolding encrypted_data
encrypted_same etype kvno cipher = sequence_same (earlier_encrypted_fields etype kvno cipher) (encrypted_fields etype kvno cipher) (
  field 0 (earlier_integer etype) (integer etype) (integer_same etype),
  (
    optional_same 1 earlier_natural natural kvno natural_same,
    (
      field 2 (earlier_string cipher) (octets cipher) (string_same cipher),
      tt,
    ),
  ),
)

message_same : (m : Message) → Same (earlier_message m) (message m)
message_same (Safe m) = element (application 20) (earlier_sequence (earlier_safe_fields m)) (sequence (safe_fields m)) (sequence_same (earlier_safe_fields m) (safe_fields m) (
  field 0 (earlier_integer m.pvno) (integer m.pvno) (integer_same m.pvno),
  (
    field 1 (earlier_integer m.msg_type) (integer m.msg_type) (integer_same m.msg_type),
    (
      field 2 (earlier_body m.body) (body m.body) (body_same m.body),
      (
        field 3 (earlier_typed m.cksum_type m.checksum) (typed_octets m.cksum_type m.checksum) (typed_same m.cksum_type m.checksum),
        tt,
      ),
    ),
  ),
))
message_same (Priv m) = element (application 21) (earlier_sequence (earlier_private_fields m)) (sequence (private_fields m)) (sequence_same (earlier_private_fields m) (private_fields m) (
  field 0 (earlier_integer m.pvno) (integer m.pvno) (integer_same m.pvno),
  (
    field 1 (earlier_integer m.msg_type) (integer m.msg_type) (integer_same m.msg_type),
    (
      field 3 (earlier_encrypted m.etype m.kvno m.cipher) (encrypted_data m.etype m.kvno m.cipher) (encrypted_same m.etype m.kvno m.cipher),
      tt,
    ),
  ),
))

stays : {V : Type 0} (P : V → Type 0) (before now : V → List ℕ) (limit : ℕ) → earlier_limit ≤ limit → ((v : V) → Same (before v) (now v))
    → (v : V) (bytes : List ℕ) → SpellsWithin earlier_limit P before v bytes → SpellsWithin limit P now v bytes
stays P before now limit le same v bytes s =
    let short : length (before v) ≤ earlier_limit = subst (λ (z : List ℕ). length z ≤ earlier_limit) s.spelt s.short in
    let within : length bytes ≤ limit = let h = s.short in omega arith in
    record { in_range = s.in_range; spelt = s.spelt ∙ same v short; short = within }

pub messages_stay : SpellsAsEarlier
messages_stay = stays _ earlier_message message _ (omega arith) message_same

pub parts_stay : PartSpellsAsEarlier
parts_stay = stays _ earlier_part part _ (omega arith) part_same
