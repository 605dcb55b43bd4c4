-- The values of the grammar, each read from its spelling and from nothing else.
use Rattle.std.proofs.Common.{◌≡◌, ℕ, ◌+◌, ◌^◌, ◌<◌, ◌≤◌, Bool, true, false, ltb, ℤ, pos, negsuc, List, [], ◌∷◌, ◌++◌, length, Option, Some, None, Result, Ok, Err, refl, sym, ap, subst, ◌∙◌, arith, inl, inr, lit≤, lit<, ◌⊎◌}
use Rattle.std.specs.List.{concat}
use Rattle.std.specs.Prelude.{MatchResult, IfSome, IsSome, IsErrAnd}
use Rattle.std.proofs.lemmas.Bool.{lt-ltb, ltb-true}
use Rattle.krb_der.specs.declared.address.HostAddress.{HostAddress}
use Rattle.krb_der.specs.declared.body.Body.{Body}
use Rattle.krb_der.specs.declared.safe.SafeMsg.{SafeMsg}
use Rattle.krb_der.specs.declared.private.PrivMsg.{PrivMsg}
use Rattle.krb_der.specs.declared.message.Message.{Message}
use Rattle.krb_der.specs.declared.message.Message.TheVariants.{Safe, Priv}
use Rattle.krb_time.specs.Time.{IsSecond, kerberos_time}
use Rattle.krb_time.specs.Reading.{time_of}
use Rattle.krb_time.specs.Moment.{last_usec, IsMicroseconds}
use Rattle.krb_tlv.specs.Element.{header, tagged, sequence, optional, octets}
use Rattle.krb_tlv.specs.Integer.{int_octets, integer, natural, IsInt32}
use Rattle.krb_der.specs.KerberosTime.{time}
use Rattle.krb_der.specs.Typed.{typed_fields, typed_octets}
use Rattle.krb_der.specs.Address.{host_address, IsAddress}
use Rattle.krb_der.specs.Body.{body_fields, body, part, IsBody}
use Rattle.krb_der.specs.Safe.{safe_fields, IsSafe}
use Rattle.krb_der.specs.Message.{safe}
use Rattle.krb_der.specs.Private.{encrypted_data, private_fields, IsPrivate}
use Rattle.krb_der.specs.Message.{private}
use Rattle.krb_der.specs.MessageRef.{owned}
use Rattle.krb_der.specs.Message.{message, IsMessage, SpellsWithin, Spells, SpellsPart, OneSpelling, UniqueSpelling, Decodes, DecodesBorrowed}
use Rattle.krb_base.specs.Limits.{frame_limit}
use Rattle.krb_base.specs.Steps.{◌>>=◌}
use Rattle.krb_tlv.specs.Reading.{alone, signed, int_of, as_int32, as_below, int32_of, below_of, int32_element_of, below_element_of, octets_of, starts_with, tagged_at}
use Rattle.krb_der.specs.Reading.{typed_of, address_of, time_element_of, after_of, body_of, safe_of, encrypted_of, private_of, message_of, part_of, FindsSpelt, Gives}
use Rattle.krb_base.specs.Bytes.{AreBytes}
use Rattle.krb_time.proofs.Times.{time-found, time-again}
use Rattle.krb_base.proofs.OptionSteps.{bind_some, provided, some_is}
use Rattle.krb_tlv.proofs.Elements.{int-found, int-again, chosen, tagged-again}
use Rattle.krb_tlv.proofs.Readers.{Reads, no_field, field, taken_field, optional_field, all_fields, in_tag, under_tag, length-tagged}
use Rattle.std.proofs.lemmas.Option.{some_pair_parts, none-some}
use Rattle.krb_der.specs.declared.error.DerError.{DerError}
use Rattle.krb_der.specs.declared.error.DerError.TheVariants as errors

-- numbers of a range
number_reads : {V : Type 0} (P : V → Type 0) (value : V → ℤ) (of : Bool × ℕ → Option V)
    → ((p : Bool × ℕ) (v : V) → of p ≡ Some v → P v × (signed p.0 p.1 ≡ value v))
    → ((v : V) → P v → (p : Bool × ℕ) × (p.1 < 2 ^ 39) × (value v ≡ signed p.0 p.1) × (of p ≡ Some v))
    → Reads P (λ v. int_octets (value v)) (λ c. int_of c >>= of)
number_reads P value of found again = record {
  found = λ c v fits e.
      let b = bind_some (int_of c) of v e in
      let h = found b.0 v b.2 in
      (h.0, int-found c b.0 fits b.1 ∙ ap int_octets h.1);
  again = λ v h lt.
      let a = again v h in
      rw (a.2, int-again a.0.0 a.0.1 a.1) a.3;
}

signed-range : (b : Bool) (n : ℕ) → n < 2 ^ 31 → IsInt32 (signed b n)
signed-range false n lt = lt
signed-range true n lt = lt

int32-found : (p : Bool × ℕ) (z : ℤ) → as_int32 p ≡ Some z → IsInt32 z × (signed p.0 p.1 ≡ z)
int32-found p z e =
    let a = provided (ltb p.1 (2 ^ 31)) _ z e in
    let same = some_is (signed p.0 p.1) z a.1 in
    (subst IsInt32 same (signed-range p.0 p.1 (ltb-true _ _ a.0)), same)

int32-again : (z : ℤ) → IsInt32 z → (p : Bool × ℕ) × (p.1 < 2 ^ 39) × (z ≡ signed p.0 p.1) × (as_int32 p ≡ Some z)
int32-again (pos n) lt = ((false, n), omega arith, refl, rw (lt-ltb n (2 ^ 31) lt) refl)
int32-again (negsuc n) lt = ((true, n), omega arith, refl, rw (lt-ltb n (2 ^ 31) lt) refl)

int32_reads : Reads IsInt32 int_octets int32_of
unfolding int32_of
int32_reads = number_reads IsInt32 (λ z. z) as_int32 int32-found int32-again

below-found : (bound : ℕ) (p : Bool × ℕ) (n : ℕ) → as_below bound p ≡ Some n → (n < bound) × (signed p.0 p.1 ≡ pos n)
below-found bound (true, m) n e = absurd cc
below-found bound (false, m) n e =
    let a = provided (ltb m bound) _ n e in
    let same = some_is m n a.1 in
    (subst (λ (k : ℕ). k < bound) same (ltb-true _ _ a.0), ap pos same)

below-again : (bound n : ℕ) → bound ≤ 2 ^ 32 → n < bound → (p : Bool × ℕ) × (p.1 < 2 ^ 39) × (pos n ≡ signed p.0 p.1) × (as_below bound p ≡ Some n)
below-again bound n le lt = ((false, n), omega arith, refl, rw (lt-ltb n bound lt) refl)

below_reads : (bound : ℕ) → bound ≤ 2 ^ 32 → Reads (λ n. n < bound) (λ n. int_octets (pos n)) (below_of bound)
unfolding below_of
below_reads bound le = number_reads (λ n. n < bound) pos (as_below bound) (below-found bound) (λ n lt. below-again bound n le lt)

integer_reads : Reads IsInt32 integer int32_element_of
integer_reads = in_tag 0x02 IsInt32 int_octets int32_of int32_reads

natural_reads : (bound : ℕ) → bound ≤ 2 ^ 32 → Reads (λ n. n < bound) natural (below_element_of bound)
natural_reads bound le = in_tag 0x02 (λ n. n < bound) (λ n. int_octets (pos n)) (below_of bound) (below_reads bound le)

pub all_bytes : Reads (λ _. Unit {0}) (λ bytes. bytes) Some
all_bytes = record { found = λ c v fits e. (tt, some_is c v e); again = λ v h lt. refl }

octets_reads : Reads (λ _. Unit {0}) octets octets_of
unfolding octets_of
octets_reads = in_tag 0x04 (λ _. Unit {0}) (λ bytes. bytes) Some all_bytes

abbrev Any : {A : Type 0} → A → Type 0
Any x = Unit {0}

-- ---- bytes with their type

abbrev IsTyped : ℤ × List ℕ → Type 0
IsTyped t = IsInt32 t.0

abbrev typed : ℤ × List ℕ → List ℕ
typed t = typed_octets t.0 t.1

abbrev TypedFields : ℤ × List ℕ → List (List ℕ)
TypedFields t = typed_fields t.0 t.1

typed_reads : Reads IsTyped typed typed_of
unfolding typed_of typed_octets
typed_reads =
    let K1 : ℤ → ℤ × List ℕ → Type 0 = λ k v. Unit {0} × (v.0 ≡ k) in
    let K2 : ℤ → List ℕ → ℤ × List ℕ → Type 0 = λ k b v. K1 k v × (v.1 ≡ b) in
    let f3 = λ (k : ℤ) (b : List ℕ). no_field 0xA1 (K2 k b) (k, b) ((tt, refl), refl) (λ v h. rw (← h.0.1, ← h.1) refl) in
    let f2 = λ (k : ℤ). taken_field 0xA1 0xA0 Any octets octets_of (λ v. v.1) (K1 k) Any (λ _. []) _ octets_reads (f3 k) (omega arith) in
    let f1 = taken_field 0xA0 0 IsInt32 integer int32_element_of (λ v. v.0) Any _ _ _ integer_reads f2 (omega arith) in
    under_tag 0x30 IsTyped (λ t. concat (TypedFields t)) _ (all_fields 0 _ IsTyped TypedFields _ f1 (λ v h. h.0) (λ v h. (h, (tt, tt))))

address-found : (c : List ℕ) (a : HostAddress) → AreBytes c → address_of c ≡ Some a → IsAddress a × (c ≡ host_address a)
unfolding address_of
address-found c a fits e =
    let t = bind_some (typed_of c) (λ t. Some (record { kind = t.0; bytes = t.1 })) a e in
    subst (λ (x : HostAddress). IsAddress x × (c ≡ host_address x)) (some_is _ a t.2) (typed_reads.found c t.0 fits t.1)

address-again : (a : HostAddress) → IsAddress a → length (host_address a) < 2 ^ 24 → address_of (host_address a) ≡ Some a
unfolding address_of
address-again a h lt = let e : typed_of (host_address a) ≡ Some (a.kind, a.bytes) = typed_reads.again (a.kind, a.bytes) h lt in rw e refl

address_reads : Reads IsAddress host_address address_of
address_reads = record { found = address-found; again = address-again }

-- ---- times

pub time_text_reads : Reads IsSecond kerberos_time time_of
time_text_reads = record { found = λ c v fits e. time-found c v e; again = λ v h lt. time-again v h }

time_reads : Reads IsSecond time time_element_of
time_reads = in_tag 0x18 IsSecond kerberos_time time_of time_text_reads

abbrev IsU32 : ℕ → Type 0
IsU32 n = n < 2 ^ 32

u32_reads : Reads IsU32 natural (below_element_of (2 ^ 32))
u32_reads = natural_reads (2 ^ 32) (lit≤ tt)

below_micros : Reads (λ n. n < last_usec + 1) natural (below_element_of (last_usec + 1))
below_micros = natural_reads (last_usec + 1) (lit≤ tt)

micro-found : (c : List ℕ) (n : ℕ) → AreBytes c → below_element_of (last_usec + 1) c ≡ Some n → IsMicroseconds n × (c ≡ natural n)
micro-found c n fits e = let f = below_micros.found c n fits e in (omega (arith, f.0), f.1)

micro_reads : Reads IsMicroseconds natural (below_element_of (last_usec + 1))
micro_reads = record { found = micro-found; again = λ n h lt. below_micros.again n (omega (arith, h)) lt }

-- ---- the body

pub body_reads : Reads IsBody body body_of
unfolding body_of after_of body
body_reads =
    let K1 : List ℕ → Body → Type 0 = λ u v. Unit {0} × (v.user_data ≡ u) in
    let K2 : List ℕ → Option ℕ → Body → Type 0 = λ u t v. K1 u v × (v.time ≡ t) in
    let K3 : List ℕ → Option ℕ → Option ℕ → Body → Type 0 = λ u t c v. K2 u t v × (v.usec ≡ c) in
    let K4 : List ℕ → Option ℕ → Option ℕ → Option ℕ → Body → Type 0 = λ u t c q v. K3 u t c v × (v.seq ≡ q) in
    let K5 : List ℕ → Option ℕ → Option ℕ → Option ℕ → HostAddress → Body → Type 0 = λ u t c q s v. K4 u t c q v × (v.s_addr ≡ s) in
    let K6 : List ℕ → Option ℕ → Option ℕ → Option ℕ → HostAddress → Option HostAddress → Body → Type 0 = λ u t c q s r v. K5 u t c q s v × (v.r_addr ≡ r) in
    let f7 = λ (u : List ℕ) (t c q : Option ℕ) (s : HostAddress) (r : Option HostAddress). no_field 0xA5 (K6 u t c q s r)
    (record { user_data = u; time = t; usec = c; seq = q; s_addr = s; r_addr = r }) ((((((tt, refl), refl), refl), refl), refl), refl)
    (λ v h. rw (← h.0.0.0.0.0.1, ← h.0.0.0.0.1, ← h.0.0.0.1, ← h.0.0.1, ← h.0.1, ← h.1) refl) in
    let f6 = λ (u : List ℕ) (t c q : Option ℕ) (s : HostAddress). optional_field 0xA5 0xA4 IsAddress host_address address_of (λ v. v.r_addr) (K5 u t c q s) Any (λ _. []) _ address_reads (f7 u t c q s) (omega arith) in
    let f5 = λ (u : List ℕ) (t c q : Option ℕ). field 0xA4 0xA3 IsAddress host_address address_of (λ v. v.s_addr) (K4 u t c q) _ _ _ address_reads (f6 u t c q) (omega arith) in
    let f4 = λ (u : List ℕ) (t c : Option ℕ). optional_field 0xA3 0xA2 IsU32 natural (below_element_of (2 ^ 32)) (λ v. v.seq) (K3 u t c) _ _ _ u32_reads (f5 u t c) (omega arith) in
    let f3 = λ (u : List ℕ) (t : Option ℕ). optional_field 0xA2 0xA1 IsMicroseconds natural (below_element_of (last_usec + 1)) (λ v. v.usec) (K2 u t) _ _ _ micro_reads (f4 u t) (omega arith) in
    let f2 = λ (u : List ℕ). optional_field 0xA1 0xA0 IsSecond time time_element_of (λ v. v.time) (K1 u) _ _ _ time_reads (f3 u) (omega arith) in
    let f1 = field 0xA0 0 Any octets octets_of (λ v. v.user_data) Any _ _ _ octets_reads f2 (omega arith) in
    under_tag 0x30 IsBody (λ b. concat (body_fields b)) _ (all_fields 0 _ IsBody body_fields _ f1
    (λ v h. record { time = h.1.0; usec = h.1.1.0; seq = h.1.1.1.0; s_addr = h.1.1.1.1.0; r_addr = h.1.1.1.1.1.0 })
    (λ v h. (tt, (h.time, (h.usec, (h.seq, (h.s_addr, (h.r_addr, tt))))))))

pub part_reads : Reads IsBody part part_of
unfolding part_of
part_reads = under_tag 0x7C IsBody body body_of body_reads

-- ---- KRB-SAFE

safe_body_reads : Reads IsSafe (λ m. sequence (safe_fields m)) safe_of
unfolding safe_of
safe_body_reads =
    let K1 : ℤ → SafeMsg → Type 0 = λ p v. Unit {0} × (v.pvno ≡ p) in
    let K2 : ℤ → ℤ → SafeMsg → Type 0 = λ p t v. K1 p v × (v.msg_type ≡ t) in
    let K3 : ℤ → ℤ → Body → SafeMsg → Type 0 = λ p t b v. K2 p t v × (v.body ≡ b) in
    let K4 : ℤ → ℤ → Body → ℤ × List ℕ → SafeMsg → Type 0 = λ p t b c v. K3 p t b v × ((v.cksum_type, v.checksum) ≡ c) in
    let f5 = λ (p t : ℤ) (b : Body) (c : ℤ × List ℕ). no_field 0xA3 (K4 p t b c)
    (record { pvno = p; msg_type = t; body = b; cksum_type = c.0; checksum = c.1 }) ((((tt, refl), refl), refl), refl)
    (λ v h. rw (← h.0.0.0.1, ← h.0.0.1, ← h.0.1, ← h.1) refl) in
    let f4 = λ (p t : ℤ) (b : Body). taken_field 0xA3 0xA2 IsTyped typed typed_of (λ v. (v.cksum_type, v.checksum)) (K3 p t b) Any (λ _. []) _ typed_reads (f5 p t b) (omega arith) in
    let f3 = λ (p t : ℤ). field 0xA2 0xA1 IsBody body body_of (λ v. v.body) (K2 p t) _ _ _ body_reads (f4 p t) (omega arith) in
    let f2 = λ (p : ℤ). taken_field 0xA1 0xA0 IsInt32 integer int32_element_of (λ v. v.msg_type) (K1 p) _ _ _ integer_reads (f3 p) (omega arith) in
    let f1 = taken_field 0xA0 0 IsInt32 integer int32_element_of (λ v. v.pvno) Any _ _ _ integer_reads f2 (omega arith) in
    under_tag 0x30 IsSafe (λ m. concat (safe_fields m)) _ (all_fields 0 _ IsSafe safe_fields _ f1
    (λ v h. record { pvno = h.0; msg_type = h.1.0; body = h.1.1.0; cksum_type = h.1.1.1.0 })
    (λ v h. (h.pvno, (h.msg_type, (h.body, (h.cksum_type, tt))))))

safe_reads : Reads IsSafe safe (λ bytes. alone 0x74 Some bytes >>= safe_of)
safe_reads = under_tag 0x74 IsSafe (λ m. sequence (safe_fields m)) safe_of safe_body_reads

-- ---- KRB-PRIV

abbrev IsEncrypted : ℤ × Option ℕ × List ℕ → Type 0
IsEncrypted e = IsInt32 e.0 × IfSome e.1 IsU32

abbrev encrypted : ℤ × Option ℕ × List ℕ → List ℕ
encrypted e = encrypted_data e.0 e.1 e.2

abbrev EncryptedFields : ℤ × Option ℕ × List ℕ → List (List ℕ)
EncryptedFields e = tagged 0xA0 (integer e.0) ∷ optional 0xA1 natural e.1 ∷ tagged 0xA2 (octets e.2) ∷ []

encrypted_reads : Reads IsEncrypted encrypted encrypted_of
unfolding encrypted_of encrypted_data
encrypted_reads =
    let K1 : ℤ → ℤ × Option ℕ × List ℕ → Type 0 = λ t v. Unit {0} × (v.0 ≡ t) in
    let K2 : ℤ → Option ℕ → ℤ × Option ℕ × List ℕ → Type 0 = λ t k v. K1 t v × (v.1 ≡ k) in
    let K3 : ℤ → Option ℕ → List ℕ → ℤ × Option ℕ × List ℕ → Type 0 = λ t k c v. K2 t k v × (v.2 ≡ c) in
    let f4 = λ (t : ℤ) (k : Option ℕ) (c : List ℕ). no_field 0xA2 (K3 t k c) (t, k, c) (((tt, refl), refl), refl) (λ v h. rw (← h.0.0.1, ← h.0.1, ← h.1) refl) in
    let f3 = λ (t : ℤ) (k : Option ℕ). taken_field 0xA2 0xA1 Any octets octets_of (λ v. v.2) (K2 t k) Any (λ _. []) _ octets_reads (f4 t k) (omega arith) in
    let f2 = λ (t : ℤ). optional_field 0xA1 0xA0 IsU32 natural (below_element_of (2 ^ 32)) (λ v. v.1) (K1 t) _ _ _ u32_reads (f3 t) (omega arith) in
    let f1 = taken_field 0xA0 0 IsInt32 integer int32_element_of (λ v. v.0) Any _ _ _ integer_reads f2 (omega arith) in
    under_tag 0x30 IsEncrypted (λ e. concat (EncryptedFields e)) _ (all_fields 0 _ IsEncrypted EncryptedFields _ f1 (λ v h. (h.0, h.1.0)) (λ v h. (h.0, (h.1, (tt, tt)))))

priv_body_reads : Reads IsPrivate (λ m. sequence (private_fields m)) private_of
unfolding private_of
priv_body_reads =
    let K1 : ℤ → PrivMsg → Type 0 = λ p v. Unit {0} × (v.pvno ≡ p) in
    let K2 : ℤ → ℤ → PrivMsg → Type 0 = λ p t v. K1 p v × (v.msg_type ≡ t) in
    let K3 : ℤ → ℤ → ℤ × Option ℕ × List ℕ → PrivMsg → Type 0 = λ p t e v. K2 p t v × ((v.etype, v.kvno, v.cipher) ≡ e) in
    let f4 = λ (p t : ℤ) (e : ℤ × Option ℕ × List ℕ). no_field 0xA3 (K3 p t e)
    (record { pvno = p; msg_type = t; etype = e.0; kvno = e.1; cipher = e.2 }) (((tt, refl), refl), refl)
    (λ v h. rw (← h.0.0.1, ← h.0.1, ← h.1) refl) in
    let f3 = λ (p t : ℤ). field 0xA3 0xA1 IsEncrypted encrypted encrypted_of (λ v. (v.etype, v.kvno, v.cipher)) (K2 p t) Any (λ _. []) _ encrypted_reads (f4 p t) (omega arith) in
    let f2 = λ (p : ℤ). taken_field 0xA1 0xA0 IsInt32 integer int32_element_of (λ v. v.msg_type) (K1 p) _ _ _ integer_reads (f3 p) (omega arith) in
    let f1 = taken_field 0xA0 0 IsInt32 integer int32_element_of (λ v. v.pvno) Any _ _ _ integer_reads f2 (omega arith) in
    under_tag 0x30 IsPrivate (λ m. concat (private_fields m)) _ (all_fields 0 _ IsPrivate private_fields _ f1
    (λ v h. record { pvno = h.0; msg_type = h.1.0; etype = h.1.1.0.0; kvno = h.1.1.0.1 })
    (λ v h. (h.pvno, (h.msg_type, ((h.etype, h.kvno), tt)))))

priv_reads : Reads IsPrivate private (λ bytes. alone 0x75 Some bytes >>= private_of)
priv_reads = under_tag 0x75 IsPrivate (λ m. sequence (private_fields m)) private_of priv_body_reads

-- ---- a message of either kind

message-found : (c : List ℕ) (m : Message) → AreBytes c → message_of c ≡ Some m → IsMessage m × (c ≡ message m)
unfolding message_of
message-found c m fits e =
    elim (chosen (starts_with 0x74 c) _ _ (Some m) e) [
      | inl p ↦ let b = bind_some (alone 0x74 Some c >>= safe_of) (λ x. Some (Safe x)) m p.1 in
          let h = safe_reads.found c b.0 fits b.1 in
          subst (λ (x : Message). IsMessage x × (c ≡ message x)) (some_is (Safe b.0) m b.2) h
      | inr p ↦ let b = bind_some (alone 0x75 Some c >>= private_of) (λ x. Some (Priv x)) m p.1 in
          let h = priv_reads.found c b.0 fits b.1 in
          subst (λ (x : Message). IsMessage x × (c ≡ message x)) (some_is (Priv b.0) m b.2) h
    ]

message-again : (m : Message) → IsMessage m → length (message m) < 2 ^ 24 → message_of (message m) ≡ Some m
unfolding message_of tagged header
message-again (Safe m) h lt = let e : (alone 0x74 Some (safe m) >>= safe_of) ≡ Some m = safe_reads.again m h lt in rw e refl
message-again (Priv m) h lt = let e : (alone 0x75 Some (private m) >>= private_of) ≡ Some m = priv_reads.again m h lt in rw e refl

pub message_reads : Reads IsMessage message message_of
message_reads = record { found = message-found; again = message-again }

-- ---- laws

-- a value is known from its spelling
one_value : {V : Type 0} (P : V → Type 0) (spell : V → List ℕ) (of : List ℕ → Option V) → Reads P spell of → (a b : V) → P a → P b → length (spell a) < 2 ^ 24 → spell a ≡ spell b → a ≡ b
one_value P spell of r a b pa pb lt e =
    let lt2 : length (spell b) < 2 ^ 24 = subst (λ (s : List ℕ). length s < 2 ^ 24) e lt in
    some_is a b (sym (r.again a pa lt) ∙ ap of e ∙ r.again b pb lt2)

-- what stands under a tag is known, and so is what follows
same_tag : (tag : ℕ) (a b x y : List ℕ) → length a < 2 ^ 24 → length b < 2 ^ 24 → tagged tag a ++ x ≡ tagged tag b ++ y → (a ≡ b) × (x ≡ y)
same_tag tag a b x y la lb e =
    some_pair_parts a b x y (sym (tagged-again tag a x la) ∙ ap (tagged_at tag) e ∙ tagged-again tag b y lb)

content_below : (tag : ℕ) (a : List ℕ) → length (tagged tag a) ≤ frame_limit → length a < 2 ^ 24
content_below tag a le = omega (arith, length-tagged tag a)

tagged_apart : (tag : ℕ) (a b x y : List ℕ) → length (tagged tag a) ≤ frame_limit → length (tagged tag b) ≤ frame_limit → tagged tag a ++ x ≡ tagged tag b ++ y → (tagged tag a ≡ tagged tag b) × (x ≡ y)
tagged_apart tag a b x y la lb e =
    let h = same_tag tag a b x y (content_below tag a la) (content_below tag b lb) e in
    (ap (tagged tag) h.0, h.1)

heads_differ : (p q : ℕ) (s t : List ℕ) → p < q ⊎ q < p → p ∷ s ≡ q ∷ t → ⊥
heads_differ p q s t h e = let same : p ≡ q = cc in elim h [ inl lt ↦ omega arith | inr lt ↦ omega arith ]

-- spellings that go on to the same bytes are the same, and so is what follows them
abbrev Apart : {V : Type 0} → (V → List ℕ) → Type 0
Apart {V} spell = (a b : V) (x y : List ℕ) → length (spell a) ≤ frame_limit → length (spell b) ≤ frame_limit → spell a ++ x ≡ spell b ++ y → (spell a ≡ spell b) × (x ≡ y)

messages_apart : Apart message
unfolding tagged header
messages_apart (Safe a) (Safe b) x y la lb e = tagged_apart 0x74 (sequence (safe_fields a)) (sequence (safe_fields b)) x y la lb e
messages_apart (Safe a) (Priv b) x y la lb e = absurd (heads_differ 0x74 0x75 _ _ (inl (lit< tt)) e)
messages_apart (Priv a) (Safe b) x y la lb e = absurd (heads_differ 0x75 0x74 _ _ (inr (lit< tt)) e)
messages_apart (Priv a) (Priv b) x y la lb e = tagged_apart 0x75 (sequence (private_fields a)) (sequence (private_fields b)) x y la lb e

parts_apart : Apart part
parts_apart a b x y la lb e = tagged_apart 0x7C (body a) (body b) x y la lb e

-- one spelling for each value, one value for each spelling, and no spelling begins another
unique : {V : Type 0} (P : V → Type 0) (spell : V → List ℕ) (of : List ℕ → Option V) → Reads P spell of → Apart spell → UniqueSpelling (SpellsWithin frame_limit P spell)
unique P spell of r apart a b s t x y ha hb e =
    let la : length (spell a) ≤ frame_limit = subst (λ (z : List ℕ). length z ≤ frame_limit) ha.spelt ha.short in
    let lb : length (spell b) ≤ frame_limit = subst (λ (z : List ℕ). length z ≤ frame_limit) hb.spelt hb.short in
    let e2 : spell a ++ x ≡ spell b ++ y = ap (λ (z : List ℕ). z ++ x) (sym ha.spelt) ∙ e ∙ ap (λ (z : List ℕ). z ++ y) hb.spelt in
    let h = apart a b x y la lb e2 in
    (one_value P spell of r a b ha.in_range hb.in_range (omega arith) h.0, ha.spelt ∙ h.0 ∙ sym hb.spelt, h.1)

pub messages_unique : UniqueSpelling Spells
messages_unique = unique IsMessage message message_of message_reads messages_apart

pub parts_unique : UniqueSpelling SpellsPart
parts_unique = unique IsBody part part_of part_reads parts_apart

one_spelling : {V : Type 0} (P : V → Type 0) (spell : V → List ℕ) → OneSpelling (SpellsWithin frame_limit P spell)
one_spelling P spell v s t hs ht = hs.spelt ∙ sym ht.spelt

pub one_message_spelling : OneSpelling Spells
one_message_spelling = one_spelling IsMessage message

pub one_part_spelling : OneSpelling SpellsPart
one_part_spelling = one_spelling IsBody part

-- ---- reading finds what is spelt

finds : {V : Type 0} (P : V → Type 0) (spell : V → List ℕ) (of : List ℕ → Option V) → Reads P spell of → FindsSpelt (SpellsWithin frame_limit P spell) of
finds P spell of r v bytes fits le = (
  λ e. let h = r.found bytes v fits e in record { in_range = h.0; spelt = h.1; short = le },
  λ s.
      let short : length (spell v) ≤ frame_limit = subst (λ (z : List ℕ). length z ≤ frame_limit) s.spelt s.short in
      ap of s.spelt ∙ r.again v s.in_range (omega arith),
)

pub messages_found : FindsSpelt Spells message_of
messages_found = finds IsMessage message message_of message_reads

pub parts_found : FindsSpelt SpellsPart part_of
parts_found = finds IsBody part part_of part_reads

-- ---- decoding

spells-nothing : {V : Type 0} (P : V → Type 0) (spell : V → List ℕ) (of : List ℕ → Option V) → Reads P spell of → (bytes : List ℕ) → of bytes ≡ None
    → (v : V) → SpellsWithin frame_limit P spell v bytes → ⊥
spells-nothing P spell of r bytes e v s =
    let short : length (spell v) ≤ frame_limit = subst (λ (z : List ℕ). length z ≤ frame_limit) s.spelt s.short in
    none-some v (sym e ∙ ap of s.spelt ∙ r.again v s.in_range (omega arith))

spells-read : {V : Type 0} (P : V → Type 0) (spell : V → List ℕ) (of : List ℕ → Option V) → Reads P spell of → (bytes : List ℕ) (v : V) → AreBytes bytes → length bytes ≤ frame_limit
    → of bytes ≡ Some v → SpellsWithin frame_limit P spell v bytes
spells-read P spell of r bytes v fits le e = let h = r.found bytes v fits e in record { in_range = h.0; spelt = h.1; short = le }

spells-some : {V : Type 0} (P : V → Type 0) (spell : V → List ℕ) (of : List ℕ → Option V) → Reads P spell of → (bytes : List ℕ) (o : Option V) → AreBytes bytes → length bytes ≤ frame_limit
    → of bytes ≡ o → IsSome o → (v : V) × SpellsWithin frame_limit P spell v bytes
spells-some P spell of r bytes (Some v) fits le e some = (v, spells-read P spell of r bytes v fits le e)
spells-some P spell of r bytes None fits le e some = absurd cc

-- what a view of the bytes shows is what they spell
pub message_found : (bytes : List ℕ) (m : Message) → AreBytes bytes → length bytes ≤ frame_limit → message_of bytes ≡ Some m → Spells m bytes
message_found = spells-read IsMessage message message_of message_reads

pub message_absent : (bytes : List ℕ) → message_of bytes ≡ None → (m : Message) → Spells m bytes → ⊥
message_absent = spells-nothing IsMessage message message_of message_reads

decodes : {V : Type 0} (P : V → Type 0) (spell : V → List ℕ) (of : List ℕ → Option V) → Reads P spell of → (bytes : List ℕ) (r : Result V DerError)
    → AreBytes bytes → length bytes ≤ frame_limit → Gives (λ v. v) r (of bytes) → Decodes (SpellsWithin frame_limit P spell) r bytes
decodes P spell of r bytes (Ok v) fits le e = let h = r.found bytes v fits e in record { in_range = h.0; spelt = h.1; short = le }
decodes P spell of r bytes (Err errors.TooLong) fits le e = absurd e
decodes P spell of r bytes (Err errors.Malformed) fits le e = (le, spells-nothing P spell of r bytes e)
decodes P spell of r bytes (Err errors.Memory) fits le e = spells-some P spell of r bytes (of bytes) fits le refl e

pub message_decodes : (bytes : List ℕ) (r : Result Message DerError) → AreBytes bytes → length bytes ≤ frame_limit → Gives (λ m. m) r (message_of bytes) → Decodes Spells r bytes
message_decodes = decodes IsMessage message message_of message_reads

-- what isn't read isn't copied either
pub refused_alike : (bytes : List ℕ) (e : DerError) (r : Result Message DerError) → DecodesBorrowed Spells owned (Err e) bytes → IsErrAnd r (λ x. x ≡ e) → Decodes Spells r bytes
refused_alike bytes e (Ok m) h is = absurd is
refused_alike bytes errors.TooLong (Err x) h is = subst (λ (z : DerError). Decodes Spells (Err z) bytes) (sym is) h
refused_alike bytes errors.Malformed (Err x) h is = subst (λ (z : DerError). Decodes Spells (Err z) bytes) (sym is) h
refused_alike bytes errors.Memory (Err x) h is = absurd h

-- what is read is copied, or memory runs out
pub copied : (bytes : List ℕ) (m : Message) (r : Result Message DerError) → Spells m bytes → IsErrAnd r (λ x. x ≡ errors.Memory) → Decodes Spells r bytes
copied bytes m (Ok x) s is = absurd is
copied bytes m (Err x) s is = subst (λ (z : DerError). Decodes Spells (Err z) bytes) (sym is) (m, s)

pub part_decodes : (bytes : List ℕ) (r : Result Body DerError) → AreBytes bytes → length bytes ≤ frame_limit → Gives (λ b. b) r (part_of bytes) → Decodes SpellsPart r bytes
part_decodes = decodes IsBody part part_of part_reads

-- where bytes are spelt, reading gives their value, or memory runs out
decided : {V : Type 0} (P : V → Type 0) (spell : V → List ℕ) → UniqueSpelling (SpellsWithin frame_limit P spell)
    → (bytes : List ℕ) (r : Result V DerError) → Decodes (SpellsWithin frame_limit P spell) r bytes → (v : V) → SpellsWithin frame_limit P spell v bytes → MatchResult r (λ x. x ≡ v) (λ e. e ≡ errors.Memory)
decided P spell u bytes (Ok x) d v s = (u x v bytes bytes [] [] d s refl).0
decided P spell u bytes (Err errors.TooLong) d v s = let le = s.short in absurd (omega arith)
decided P spell u bytes (Err errors.Malformed) d v s = absurd (d.1 v s)
decided P spell u bytes (Err errors.Memory) d v s = refl

pub message_decided : (bytes : List ℕ) (r : Result Message DerError) → Decodes Spells r bytes → (m : Message) → Spells m bytes → MatchResult r (λ v. v ≡ m) (λ e. e ≡ errors.Memory)
message_decided = decided IsMessage message messages_unique

pub part_decided : (bytes : List ℕ) (r : Result Body DerError) → Decodes SpellsPart r bytes → (b : Body) → SpellsPart b bytes → MatchResult r (λ v. v ≡ b) (λ e. e ≡ errors.Memory)
part_decided = decided IsBody part parts_unique
