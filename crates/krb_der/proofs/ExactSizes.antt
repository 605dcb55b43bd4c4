-- Sizes by lengths alone are those of the spellings.
use Rattle.std.proofs.Common.{◌≡◌, ℕ, ◌+◌, ℤ, List, length, Option, Some, None, refl, sym, ap, ◌∙◌, arith, length-append}
use Rattle.std.specs.List.{concat}
use Rattle.krb_der.specs.declared.address.HostAddress.{HostAddress}
use Rattle.krb_der.specs.declared.body.Body.{Body}
use Rattle.krb_der.specs.declared.safe.SafeMsg.{SafeMsg}
use Rattle.krb_der.specs.declared.private.PrivMsg.{PrivMsg}
use Rattle.krb_tlv.specs.Tag.{context, application}
use Rattle.krb_tlv.specs.UniversalTag.{sequence_tag}
use Rattle.krb_tlv.specs.Element.{sequence, optional}
use Rattle.krb_tlv.specs.Integer.{integer, natural}
use Rattle.krb_der.specs.KerberosTime.{time}
use Rattle.krb_der.specs.Typed.{typed_fields, typed_octets}
use Rattle.krb_der.specs.Address.{host_address}
use Rattle.krb_der.specs.Addresses.{address_fields}
use Rattle.krb_der.specs.Body.{body, body_fields}
use Rattle.krb_der.specs.Safe.{safe_fields}
use Rattle.krb_der.specs.Message.{safe}
use Rattle.krb_der.specs.Size.{HasPartSize, HasSafeSize, HasPrivateSize}
use Rattle.krb_tlv.specs.Writing.{element_size}
use Rattle.krb_der.specs.Writing.{typed_fields_size, typed_size, body_fields_size, body_size, safe_fields_size, encrypted_fields_size, private_size}
use Rattle.krb_tlv.proofs.Readers.{size-tagged}
use Rattle.krb_tlv.proofs.Writers.{length-octets}
use Rattle.krb_der.proofs.Writers.{length-private}

-- an optional field takes as many octets under any tag
length-field : {A : Type 0} (tag : ℕ) (spell : A → List ℕ) (x : Option A) → length (optional tag spell x) ≡ length (optional 0 spell x)
length-field tag spell None = refl
length-field tag spell (Some x) = size-tagged tag (spell x) ∙ sym (size-tagged 0 (spell x))

pub length-typed_fields : (kind : ℤ) (bytes : List ℕ) → length (concat (typed_fields kind bytes)) ≡ typed_fields_size kind (length bytes)
length-typed_fields kind bytes = grind (arith, length-append, size-tagged, length-octets bytes)

pub length-typed : (kind : ℤ) (bytes : List ℕ) → length (typed_octets kind bytes) ≡ typed_size kind (length bytes)
unfolding typed_octets
length-typed kind bytes =
    size-tagged sequence_tag (concat (typed_fields kind bytes)) ∙ ap element_size (length-typed_fields kind bytes)

-- the fields of both addresses
pub length-address_fields : (s : HostAddress) (r : Option HostAddress) → length (address_fields s r) ≡ element_size (length (host_address s)) + length (optional 0 host_address r)
length-address_fields s r =
    grind (arith, length-append, size-tagged, length-field (context 5) host_address r)

pub length-body_fields : (b : Body) → length (concat (body_fields b)) ≡ body_fields_size b (length b.user_data)
length-body_fields b =
    grind (
      arith,
      length-append,
      size-tagged,
      length-octets b.user_data,
      length-field (context 1) time b.time,
      length-field (context 2) natural b.usec,
      length-field (context 3) natural b.seq,
      length-field (context 5) host_address b.r_addr,
    )

pub length-body : (b : Body) → length (body b) ≡ body_size b (length b.user_data)
unfolding body
length-body b = size-tagged sequence_tag (concat (body_fields b)) ∙ ap element_size (length-body_fields b)

pub length-safe_fields : (m : SafeMsg) → length (concat (safe_fields m)) ≡ safe_fields_size m m.cksum_type (length m.checksum) (length m.body.user_data)
length-safe_fields m =
    grind (arith, length-append, size-tagged, length-body m.body, length-typed m.cksum_type m.checksum)

pub length-safe : (m : SafeMsg) → length (safe m) ≡ element_size (element_size (safe_fields_size m m.cksum_type (length m.checksum) (length m.body.user_data)))
length-safe m =
    size-tagged (application 20) (sequence (safe_fields m)) ∙ ap element_size (size-tagged sequence_tag (concat (safe_fields m)) ∙ ap element_size (length-safe_fields m))

pub part_size : (b : Body) (n size : ℕ) → size ≡ element_size (body_size b n) → HasPartSize b n size
part_size b n size is user same =
    size-tagged (application 28) (body (record b { user_data = user }))
    ∙ ap element_size (length-body (record b { user_data = user }) ∙ ap (body_size b) same)
    ∙ sym is

pub safe_size : (m : SafeMsg) (k n size : ℕ) → size ≡ element_size (element_size (safe_fields_size m m.cksum_type k n)) → HasSafeSize m k n size
safe_size m k n size is user sum same checksum =
    length-safe (record m { body = record m.body { user_data = user }; checksum = sum })
    ∙ ap (λ (i : ℕ). element_size (element_size (safe_fields_size m m.cksum_type i (length user)))) checksum
    ∙ ap (λ (i : ℕ). element_size (element_size (safe_fields_size m m.cksum_type k i))) same
    ∙ sym is

-- from its fields outwards
pub private_size_is : (m : PrivMsg) (n encrypted fields sequence size : ℕ) → encrypted ≡ encrypted_fields_size m.etype m.kvno n
    → fields ≡ element_size (length (integer m.pvno)) + element_size (length (integer m.msg_type)) + element_size (element_size encrypted)
    → sequence ≡ element_size fields → size ≡ element_size sequence → HasPrivateSize m n size
private_size_is m n encrypted fields sequence size inner outer around is cipher same =
    let whole : size ≡ private_size m n = rw (is, around, outer, inner) refl in
    length-private (record m { cipher = cipher }) ∙ ap (private_size m) same ∙ sym whole
