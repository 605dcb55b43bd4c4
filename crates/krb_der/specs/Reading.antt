-- What the code follows, and no definitions of the standard: the value that bytes spell, read from
-- left to right, if they spell one. The law `reading_laws` ties `message_of` and `part_of` to the
-- grammar; the contracts of `decode` and `decode_part` are in the words of Message.antt.
use Rattle.std.specs.Prelude.{◌≡◌, ℕ, ◌+◌, ◌^◌, ◌≤◌, ◌↔◌, ℤ, List, ◌++◌, length}
use Rattle.std.specs.Prelude.{Option, Some, None, IsSome, Result, Ok, Err, if◌then◌else◌}
use Rattle.krb_base.specs.Bytes.{AreBytes}
use Rattle.krb_base.specs.Limits.{frame_limit}
use Rattle.krb_time.specs.Moment.{last_usec}
use Rattle.krb_time.specs.Reading.{time_of}
use Rattle.krb_base.specs.Steps.{◌>>=◌}
use Rattle.krb_der.specs.declared.address.HostAddress.{HostAddress}
use Rattle.krb_der.specs.declared.body.Body.{Body}
use Rattle.krb_der.specs.declared.body.Details.{Details}
use Rattle.krb_der.specs.declared.error.DerError.{DerError}
use Rattle.krb_der.specs.declared.error.DerError.TheVariants as errors
use Rattle.krb_der.specs.declared.safe.SafeMsg.{SafeMsg}
use Rattle.krb_der.specs.declared.private.PrivMsg.{PrivMsg}
use Rattle.krb_der.specs.declared.message.Message.{Message}
use Rattle.krb_der.specs.declared.message.Message.TheVariants.{Safe, Priv}
use Rattle.krb_tlv.specs.Tag.{context, application}
use Rattle.krb_tlv.specs.UniversalTag.{generalized_time_tag, sequence_tag}
use Rattle.krb_tlv.specs.Reading.{ended, tagged_at, alone, field_at, starts_with, optional_at}
use Rattle.krb_tlv.specs.Reading.{int32_element_of, below_element_of, octets_of}

-- What a call returned, seen by view, is what reading gives. It runs out of memory only where reading
-- gives something.
abbrev pub FailsToRead : {Y : Type 0} → DerError → Option Y → Type 0
FailsToRead errors.TooLong read = ⊥
FailsToRead errors.Malformed read = read ≡ None
FailsToRead errors.Memory read = IsSome read

abbrev pub Gives : {X Y : Type 0} → (X → Y) → Result X DerError → Option Y → Type 0
Gives view (Ok x) read = read ≡ Some (view x)
Gives view (Err e) read = FailsToRead e read

-- these bytes are the last of others
abbrev pub EndsWith : List ℕ → List ℕ → Type 0
EndsWith last bytes = (front : List ℕ) × (bytes ≡ front ++ last)

unfoldable pub typed_of : List ℕ → Option (ℤ × List ℕ)
typed_of content = do
  fields ← alone sequence_tag Some content
  kind ← field_at (context 0) int32_element_of fields
  bytes ← field_at (context 1) octets_of kind.1
  ended (kind.0, bytes.0) bytes.1

unfoldable pub address_of : List ℕ → Option HostAddress
address_of content = do
  typed ← typed_of content
  Some (record { kind = typed.0; bytes = typed.1 })

abbrev pub time_element_of : List ℕ → Option ℕ
time_element_of bytes = alone generalized_time_tag time_of bytes

abbrev pub body_with : List ℕ → Details → Body
body_with user_data d =
    record {
      user_data = user_data;
      time = d.time;
      usec = d.usec;
      seq = d.seq;
      s_addr = d.s_addr;
      r_addr = d.r_addr;
    }

-- the fields after the data
unfoldable pub after_of : List ℕ → List ℕ → Option Body
after_of user_data bytes = do
  time ← optional_at (context 1) time_element_of bytes
  usec ← optional_at (context 2) (below_element_of (last_usec + 1)) time.1
  seq ← optional_at (context 3) (below_element_of (2 ^ 32)) usec.1
  s ← tagged_at (context 4) seq.1
  s_addr ← address_of s.0
  r_addr ← optional_at (context 5) address_of s.1
  ended (record {
    user_data = user_data;
    time = time.0;
    usec = usec.0;
    seq = seq.0;
    s_addr = s_addr;
    r_addr = r_addr.0;
  }) r_addr.1

unfoldable pub body_of : List ℕ → Option Body
body_of bytes = do
  fields ← alone sequence_tag Some bytes
  d ← tagged_at (context 0) fields
  user_data ← octets_of d.0
  after_of user_data d.1

unfoldable pub safe_of : List ℕ → Option SafeMsg
safe_of bytes = do
  fields ← alone sequence_tag Some bytes
  pvno ← field_at (context 0) int32_element_of fields
  msg_type ← field_at (context 1) int32_element_of pvno.1
  b ← tagged_at (context 2) msg_type.1
  body ← body_of b.0
  checksum ← field_at (context 3) typed_of b.1
  ended (record {
    pvno = pvno.0;
    msg_type = msg_type.0;
    body = body;
    cksum_type = checksum.0.0;
    checksum = checksum.0.1;
  }) checksum.1

unfoldable pub encrypted_of : List ℕ → Option (ℤ × Option ℕ × List ℕ)
encrypted_of bytes = do
  fields ← alone sequence_tag Some bytes
  etype ← field_at (context 0) int32_element_of fields
  kvno ← optional_at (context 1) (below_element_of (2 ^ 32)) etype.1
  cipher ← field_at (context 2) octets_of kvno.1
  ended (etype.0, kvno.0, cipher.0) cipher.1

unfoldable pub private_of : List ℕ → Option PrivMsg
private_of bytes = do
  fields ← alone sequence_tag Some bytes
  pvno ← field_at (context 0) int32_element_of fields
  msg_type ← field_at (context 1) int32_element_of pvno.1
  e ← tagged_at (context 3) msg_type.1
  encrypted ← encrypted_of e.0
  ended (record {
    pvno = pvno.0;
    msg_type = msg_type.0;
    etype = encrypted.0;
    kvno = encrypted.1;
    cipher = encrypted.2;
  }) e.1

unfoldable pub message_of : List ℕ → Option Message
message_of bytes =
    if starts_with (application 20) bytes
    then (alone (application 20) Some bytes >>= safe_of) >>= (λ m. Some (Safe m))
    else ((alone (application 21) Some bytes >>= private_of) >>= (λ m. Some (Priv m)))

unfoldable pub part_of : List ℕ → Option Body
part_of bytes = do
  content ← alone (application 28) Some bytes
  body_of content

-- ---- the law that ties reading to the grammar

-- Of bytes within the limit, reading finds a value if and only if they spell it.
abbrev pub FindsSpelt : {V : Type 0} → (V → List ℕ → Type 0) → (List ℕ → Option V) → Type 0
FindsSpelt {V} Spelt of =
    (v : V) (bytes : List ℕ) → AreBytes bytes → length bytes ≤ frame_limit
    → (of bytes ≡ Some v) ↔ Spelt v bytes
