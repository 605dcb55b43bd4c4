-- A KRB-SAFE up to its checksum.
use Rattle.std.proofs.Common.{◌≡◌, ℕ, ◌+◌, ◌-◌, ◌<◌, ◌≤◌, ℤ, Bool, false, List, ◌++◌, length, take, drop, Result, Ok, Err, refl, sym, ap, subst, ◌∙◌, arith, append_assoc, length-append}
use Rattle.std.specs.Prelude.{IsErrAnd, IsTrue, ◌↔◌}
use Rattle.std.specs.List.{concat}
use Rattle.std.proofs.lemmas.List.{drop_at, take_at}
use Rattle.krb_base.specs.Limits.{frame_limit}
use Rattle.krb_der.specs.declared.error.DerError.{DerError}
use Rattle.krb_der.specs.declared.error.DerError.TheVariants as errors
use Rattle.krb_tlv.specs.Tag.{context}
use Rattle.krb_tlv.specs.Writing.{IsShort, element_size}
use Rattle.krb_tlv.proofs.Readers.{size-tagged}
use Rattle.krb_der.specs.declared.safe.SafeMsg.{SafeMsg}
use Rattle.krb_der.specs.declared.safe.SafeDraft.{SafeDraft}
use Rattle.krb_der.specs.declared.message.Message.TheVariants.{Safe}
use Rattle.krb_der.specs.Typed.{typed_octets}
use Rattle.krb_der.specs.Safe.{checksum, safe_fields, with_checksum, before_checksum, checksum_field, IsSafe}
use Rattle.krb_der.specs.Message.{safe}
use Rattle.krb_der.specs.Message.{Spells, IsSafeDraft, IsSafeWithinLimit, IsSafeOverLimit, DraftsSafe}
use Rattle.krb_der.specs.Writing.{IsShortBody, before_checksum_size, safe_fields_size, safe_headers}
use Rattle.krb_der.proofs.ExactSizes.{length-body, length-safe, length-safe_fields}
use Rattle.krb_der.proofs.Lengths.{long_safe_body, short_safe}
use Rattle.krb_der.proofs.Writers.{safe_is}

-- the size of the message with any checksum of n octets
size_with : (m : SafeMsg) (kind : ℤ) (n fields : ℕ) (sum : List ℕ) → length sum ≡ n → fields ≡ safe_fields_size m kind n (length m.body.user_data)
    → length (safe (with_checksum m kind sum)) ≡ element_size (element_size fields)
size_with m kind n fields sum size is =
    length-safe (with_checksum m kind sum)
    ∙ ap (λ (k : ℕ). element_size (element_size (safe_fields_size m kind k (length m.body.user_data)))) size
    ∙ ap (λ (k : ℕ). element_size (element_size k)) (sym is)

pub within_limit : (m : SafeMsg) (kind : ℤ) (n fields : ℕ) → fields ≡ safe_fields_size m kind n (length m.body.user_data) → element_size (element_size fields) ≤ frame_limit
    → IsSafeWithinLimit m kind n
within_limit m kind n fields is le sum size = subst (λ (k : ℕ). k ≤ frame_limit) (sym (size_with m kind n fields sum size is)) le

pub over_limit : (m : SafeMsg) (kind : ℤ) (n fields : ℕ) → fields ≡ safe_fields_size m kind n (length m.body.user_data) → frame_limit < element_size (element_size fields)
    → IsSafeOverLimit m kind n
over_limit m kind n fields is lt sum size = subst (λ (k : ℕ). frame_limit < k) (sym (size_with m kind n fields sum size is)) lt

pub over_by_body : (m : SafeMsg) (kind : ℤ) (n : ℕ) (short : Bool) → (IsTrue short ↔ IsShortBody m.body) → short ≡ false → IsSafeOverLimit m kind n
over_by_body m kind n short h e sum size = long_safe_body (with_checksum m kind sum) short h e

pub drafted : (m : SafeMsg) (kind : ℤ) (n fields : ℕ) (draft : SafeDraft) → fields ≡ safe_fields_size m kind n (length m.body.user_data) → element_size (element_size fields) ≤ frame_limit
    → ((sum : List ℕ) → IsSafe (with_checksum m kind sum))
    → draft.start ≡ length (safe_headers fields) → draft.bytes.items ≡ safe_headers fields ++ before_checksum m → IsSafeDraft m kind n draft
drafted m kind n fields draft is le range at bytes =
    let front : List ℕ = safe_headers fields in
    let text : List ℕ = before_checksum m in
    record {
      within = omega (arith, at, ap length bytes, length-append front text);
      fields = ap (drop draft.start) bytes ∙ drop_at front text draft.start (sym at);
      spelt = λ sum size.
          let last : List ℕ = checksum_field kind sum in
          let whole : draft.bytes.items ++ last ≡ safe (with_checksum m kind sum) =
          ap (λ (s : List ℕ). s ++ last) bytes ∙ append_assoc front text last
          ∙ safe_is (with_checksum m kind sum) fields (is ∙ ap (λ (k : ℕ). safe_fields_size m kind k (length m.body.user_data)) (sym size) ∙ sym (length-safe_fields (with_checksum m kind sum))) in
          record {
            in_range = range sum;
            spelt = whole;
            short = subst (λ (s : List ℕ). length s ≤ frame_limit) (sym whole) (within_limit m kind n fields is le sum size);
          };
    }

-- ---- what a draft that isn't made says

pub draft_memory : (m : SafeMsg) (kind : ℤ) (n : ℕ) (r : Result SafeDraft DerError) → IsErrAnd r (λ e. e ≡ errors.Memory) → IsSafeWithinLimit m kind n → DraftsSafe m kind n r
draft_memory m kind n (Ok draft) h le = absurd h
draft_memory m kind n (Err e) h le = subst (λ (x : DerError). DraftsSafe m kind n (Err x)) (sym h) le

-- ---- the fields before the checksum, within the bytes of the message

pub short_message : (m : SafeMsg) (bytes : List ℕ) → Spells (Safe m) bytes → IsShortBody m.body × IsShort m.checksum
short_message m bytes s = short_safe m (subst (λ (z : List ℕ). length z ≤ frame_limit) s.spelt s.short)

-- the last field, by its parts
pub last_size : (m : SafeMsg) (slice : List ℕ) (typed last : ℕ) → slice ≡ m.checksum → typed ≡ length (typed_octets m.cksum_type slice) → last ≡ element_size typed
    → last ≡ length (checksum_field m.cksum_type m.checksum)
last_size m slice typed last a b e =
    e ∙ ap element_size (b ∙ ap (λ (s : List ℕ). length (typed_octets m.cksum_type s)) a) ∙ sym (size-tagged (context 3) (checksum m.cksum_type m.checksum))

-- the fields before it
pub front_size : (m lent : SafeMsg) (slice : List ℕ) (size : ℕ) → slice ≡ m.body.user_data → lent ≡ m → size ≡ before_checksum_size lent (length slice) → size ≡ length (before_checksum m)
front_size m lent slice size a same e =
    e ∙ ap (λ (z : SafeMsg). before_checksum_size z (length slice)) same ∙ ap (λ (s : List ℕ). before_checksum_size m (length s)) a ∙ sym (length-front m)
  where
    length-front : (m : SafeMsg) → length (before_checksum m) ≡ before_checksum_size m (length m.body.user_data)
    length-front m = grind (arith, length-append, size-tagged, length-body m.body)

pub length-message : (m : SafeMsg) (bytes : List ℕ) → bytes ≡ safe m
    → length bytes ≡ length (safe_headers (length (concat (safe_fields m)))) + (length (before_checksum m) + length (checksum_field m.cksum_type m.checksum))
length-message m bytes is =
    let n : ℕ = length (concat (safe_fields m)) in
    let front : List ℕ = safe_headers n in
    let text : List ℕ = before_checksum m in
    let field : List ℕ = checksum_field m.cksum_type m.checksum in
    ap length (is ∙ sym (safe_is m n refl)) ∙ length-append front (text ++ field) ∙ ap (λ (k : ℕ). length front + k) (length-append text field)

pub fields_in : (m : SafeMsg) (bytes : List ℕ) (last fields : ℕ) → bytes ≡ safe m → last ≡ length (checksum_field m.cksum_type m.checksum) → fields ≡ length (before_checksum m)
    → take (length bytes - last - (length bytes - last - fields)) (drop (length bytes - last - fields) bytes) ≡ before_checksum m
fields_in m bytes last fields is following before =
    let n : ℕ = length (concat (safe_fields m)) in
    let front : List ℕ = safe_headers n in
    let text : List ℕ = before_checksum m in
    let field : List ℕ = checksum_field m.cksum_type m.checksum in
    let start : ℕ = length bytes - last - fields in
    let count : ℕ = length bytes - last - start in
    let whole : bytes ≡ front ++ (text ++ field) = is ∙ sym (safe_is m n refl) in
    let long = length-message m bytes is in
    let at : length front ≡ start = omega (arith, long, following, before) in
    let size : length text ≡ count = omega (arith, long, following, before) in
    ap (λ (s : List ℕ). take count (drop start s)) whole
    ∙ ap (take count) (drop_at front (text ++ field) start at)
    ∙ take_at text field count size
