-- The grammar of this project's first version, whose spellings stay: lengths had at most two octets
-- after the first, and messages at most 65,000. Values, fields and tags were those of today.
use Rattle.std.specs.Prelude.{ℕ, ℤ, pos, List, [], ◌∷◌, ◌++◌, length, Option, Some, None, nat_lt}
use Rattle.std.specs.List.{concat}
use Rattle.std.specs.Prelude.{if◌then◌else◌}
use Rattle.krb_time.specs.Time.{kerberos_time}
use Rattle.krb_der.specs.declared.address.HostAddress.{HostAddress}
use Rattle.krb_der.specs.declared.body.Body.{Body}
use Rattle.krb_der.specs.declared.safe.SafeMsg.{SafeMsg}
use Rattle.krb_der.specs.declared.private.PrivMsg.{PrivMsg}
use Rattle.krb_der.specs.declared.message.Message.{Message}
use Rattle.krb_der.specs.declared.message.Message.TheVariants.{Safe, Priv}
use Rattle.krb_tlv.specs.UniversalTag.{integer_tag, octet_string_tag, generalized_time_tag, sequence_tag}
use Rattle.krb_tlv.specs.Tag.{context, application}
use Rattle.krb_tlv.specs.Length.{big_endian}
use Rattle.krb_tlv.specs.Integer.{int_octets}
use Rattle.krb_der.specs.Body.{IsBody}
use Rattle.krb_der.specs.Message.{IsMessage, SpellsWithin, Spells, SpellsPart}

abbrev pub earlier_limit : ℕ
earlier_limit = 65000

-- the definite length in the fewest octets, up to two after the first
abbrev pub earlier_octets : ℕ → List ℕ
earlier_octets n =
    if nat_lt n 128 then n ∷ [] else if nat_lt n 256 then 0x81 ∷ big_endian 1 n
    else 0x82 ∷ big_endian 2 n

abbrev pub earlier : ℕ → List ℕ → List ℕ
earlier tag content = tag ∷ earlier_octets (length content) ++ content

abbrev pub earlier_sequence : List (List ℕ) → List ℕ
earlier_sequence fields = earlier sequence_tag (concat fields)

abbrev pub earlier_optional : {A : Type 0} → ℕ → (A → List ℕ) → Option A → List ℕ
earlier_optional tag spell None = []
earlier_optional tag spell (Some x) = earlier tag (spell x)

abbrev pub earlier_string : List ℕ → List ℕ
earlier_string bytes = earlier octet_string_tag bytes

abbrev pub earlier_integer : ℤ → List ℕ
earlier_integer z = earlier integer_tag (int_octets z)

abbrev pub earlier_natural : ℕ → List ℕ
earlier_natural n = earlier_integer (pos n)

abbrev pub earlier_time : ℕ → List ℕ
earlier_time s = earlier generalized_time_tag (kerberos_time s)

abbrev pub earlier_typed_fields : ℤ → List ℕ → List (List ℕ)
earlier_typed_fields kind bytes =
    earlier (context 0) (earlier_integer kind)
    ∷ earlier (context 1) (earlier_string bytes)
    ∷ []

abbrev pub earlier_typed : ℤ → List ℕ → List ℕ
earlier_typed kind bytes = earlier_sequence (earlier_typed_fields kind bytes)

abbrev pub earlier_address : HostAddress → List ℕ
earlier_address a = earlier_typed a.kind a.bytes

abbrev pub earlier_body_fields : Body → List (List ℕ)
earlier_body_fields b =
    earlier (context 0) (earlier_string b.user_data)
    ∷ earlier_optional (context 1) earlier_time b.time
    ∷ earlier_optional (context 2) earlier_natural b.usec
    ∷ earlier_optional (context 3) earlier_natural b.seq
    ∷ earlier (context 4) (earlier_address b.s_addr)
    ∷ earlier_optional (context 5) earlier_address b.r_addr
    ∷ []

abbrev pub earlier_body : Body → List ℕ
earlier_body b = earlier_sequence (earlier_body_fields b)

abbrev pub earlier_part : Body → List ℕ
earlier_part b = earlier (application 28) (earlier_body b)

abbrev pub earlier_safe_fields : SafeMsg → List (List ℕ)
earlier_safe_fields m =
    earlier (context 0) (earlier_integer m.pvno)
    ∷ earlier (context 1) (earlier_integer m.msg_type)
    ∷ earlier (context 2) (earlier_body m.body)
    ∷ earlier (context 3) (earlier_typed m.cksum_type m.checksum)
    ∷ []

abbrev pub earlier_encrypted_fields : ℤ → Option ℕ → List ℕ → List (List ℕ)
earlier_encrypted_fields etype kvno cipher =
    earlier (context 0) (earlier_integer etype)
    ∷ earlier_optional (context 1) earlier_natural kvno
    ∷ earlier (context 2) (earlier_string cipher)
    ∷ []

abbrev pub earlier_encrypted : ℤ → Option ℕ → List ℕ → List ℕ
earlier_encrypted etype kvno cipher = earlier_sequence (earlier_encrypted_fields etype kvno cipher)

abbrev pub earlier_private_fields : PrivMsg → List (List ℕ)
earlier_private_fields m =
    earlier (context 0) (earlier_integer m.pvno)
    ∷ earlier (context 1) (earlier_integer m.msg_type)
    ∷ earlier (context 3) (earlier_encrypted m.etype m.kvno m.cipher)
    ∷ []

abbrev pub earlier_message : Message → List ℕ
earlier_message (Safe m) = earlier (application 20) (earlier_sequence (earlier_safe_fields m))
earlier_message (Priv m) = earlier (application 21) (earlier_sequence (earlier_private_fields m))

-- what spelt a message, or an encrypted part, spells the same today
abbrev pub SpellsAsEarlier : Type 0
SpellsAsEarlier =
    (m : Message) (bytes : List ℕ) → SpellsWithin earlier_limit IsMessage earlier_message m bytes
    → Spells m bytes

abbrev pub PartSpellsAsEarlier : Type 0
PartSpellsAsEarlier =
    (b : Body) (bytes : List ℕ) → SpellsWithin earlier_limit IsBody earlier_part b bytes
    → SpellsPart b bytes
