-- What the function `opens` gives is the outcome.
use Rattle.std.proofs.Common.{◌≡◌, ℕ, zero, suc, ◌-◌, ◌<◌, ◌≤◌, true, false, List, [], ◌∷◌, ◌++◌, length, take, drop, get_or, Option, Some, None, Ok, refl, sym, ap, subst, ◌∙◌, inl, inr, arith, length-drop, length-append}
use Rattle.std.specs.List.{concat}
use Rattle.std.proofs.lemmas.List.{take-append-drop, length-take-le}
use Rattle.std.proofs.lemmas.Bool.{leb-true}
use Rattle.std.proofs.lemmas.Option.{none-some}
use Rattle.krb_base.specs.Bytes.{AreBytes}
use Rattle.krb_aes.specs.Keys.{expanded_key}
use Rattle.krb_aes.specs.Stealing.{cts}
use Rattle.krb_aes.proofs.StealingLemmas.{cts_is, length-cts}
use Rattle.krb_aes.proofs.Opening.{uncts_is}
use Rattle.krb_aes.proofs.UniqueLemmas.{AreBytes-take, AreBytes-drop}
use Rattle.krb_base.specs.Limits.{frame_limit}
use Rattle.krb_der.specs.declared.body.Body.{Body}
use Rattle.krb_der.specs.declared.private.PrivMsg.{PrivMsg}
use Rattle.krb_der.specs.declared.message.Message.{Message}
use Rattle.krb_der.specs.declared.message.Message.TheVariants as messages
use Rattle.krb_tlv.specs.Tag.{context, application}
use Rattle.krb_tlv.specs.UniversalTag.{sequence_tag, octet_string_tag}
use Rattle.krb_tlv.specs.Length.{length_octets}
use Rattle.krb_tlv.specs.Element.{header, tagged, octets, optional, sequence}
use Rattle.krb_tlv.specs.Integer.{integer, natural}
use Rattle.krb_der.specs.Body.{part}
use Rattle.krb_der.specs.Private.{private_fields, encrypted_data, encrypted_fields}
use Rattle.krb_der.specs.Message.{private}
use Rattle.krb_der.specs.Message.{message, Spells, SpellsPart}
use Rattle.krb_der.specs.Reading.{message_of, part_of}
use Rattle.krb_der.proofs.Grammar.{message_reads, part_reads}
use Rattle.krb_etype.specs.Keys.{encryption_key, IsEncryption}
use Rattle.krb_seal.specs.Opens.{OpenerState, Passes, Read, Decrypt, OpensText, OpensMessage, Opens, safe_checks, priv_header, body_checks}
use Rattle.krb_seal.specs.OpensParts.{Outcome, Checks, OpensPart, frame_checks, text_checks}
use Rattle.krb_seal.specs.Opening.{passed, read, text_in, tag_in, opens_part, opens_text, opens_message, opens}
use Rattle.krb_seal.specs.Laws.{OneOutcome}
use Rattle.krb_seal.proofs.Outcomes.{outcomes_unique}
use Rattle.krb_seal.proofs.SealedFrames.{AllMet, long_cipher}

passes : (checks : Checks) (Then : Outcome → Type 0) (next : Outcome) → (AllMet checks → Then next) → Passes checks Then (passed checks next)
passes [] Then next h = h tt
passes ((true, r) ∷ rest) Then next h = passes rest Then next (λ m. h (refl, m))
passes ((false, r) ∷ rest) Then next h = refl

reads : {V : Type 0} (Spelt : V → List ℕ → Type 0) (bytes : List ℕ) (of : Option V) (Then : V → Outcome → Type 0) (next : V → Outcome)
    → ((v : V) → of ≡ Some v → Spelt v bytes) → ((v : V) → Spelt v bytes → of ≡ Some v) → ((v : V) → Spelt v bytes → Then v (next v))
    → Read Spelt bytes Then (read of next)
reads Spelt bytes None Then next found again h = inl (λ v s. none-some v (again v s), refl)
reads Spelt bytes (Some v) Then next found again h = inr (v, found v refl, h v (found v refl))

-- ---- reading is spelling

message_found : (bytes : List ℕ) (m : Message) → AreBytes bytes → length bytes ≤ frame_limit → message_of bytes ≡ Some m → Spells m bytes
message_found bytes m fits le e = let h = message_reads.found bytes m fits e in record { in_range = h.0; spelt = h.1; short = le }

message_again : (bytes : List ℕ) (m : Message) → Spells m bytes → message_of bytes ≡ Some m
message_again bytes m s =
    let short : length (message m) ≤ frame_limit = subst (λ (z : List ℕ). length z ≤ frame_limit) s.spelt s.short in
    ap message_of s.spelt ∙ message_reads.again m s.in_range (omega arith)

part_found : (bytes : List ℕ) (b : Body) → AreBytes bytes → length bytes ≤ frame_limit → part_of bytes ≡ Some b → SpellsPart b bytes
part_found bytes b fits le e = let h = part_reads.found bytes b fits e in record { in_range = h.0; spelt = h.1; short = le }

part_again : (bytes : List ℕ) (b : Body) → SpellsPart b bytes → part_of bytes ≡ Some b
part_again bytes b s =
    let short : length (part b) ≤ frame_limit = subst (λ (z : List ℕ). length z ≤ frame_limit) s.spelt s.short in
    ap part_of s.spelt ∙ part_reads.again b s.in_range (omega arith)

-- ---- what stands in bytes is bytes

after : (a b : List ℕ) → ((i : ℕ) → get_or (a ++ b) i 0 < 256) → (i : ℕ) → get_or b i 0 < 256
after [] b h i = h i
after (x ∷ xs) b h i = after xs b (λ j. h (suc j)) i

before : (a b : List ℕ) → ((i : ℕ) → get_or (a ++ b) i 0 < 256) → (i : ℕ) → get_or a i 0 < 256
before [] b h i = omega arith
before (x ∷ xs) b h zero = h 0
before (x ∷ xs) b h (suc i) = before xs b (λ j. h (suc j)) i

after_tag : (tag : ℕ) (content : List ℕ) → AreBytes (tagged tag content) → AreBytes content
unfolding tagged header
after_tag tag content h = record { small = after (tag ∷ length_octets (length content)) content h.small }

first_field : (a : List ℕ) (rest : List (List ℕ)) → AreBytes (concat (a ∷ rest)) → AreBytes a
first_field a rest h = record { small = before a (concat rest) h.small }

other_fields : (a : List ℕ) (rest : List (List ℕ)) → AreBytes (concat (a ∷ rest)) → AreBytes (concat rest)
other_fields a rest h = record { small = after a (concat rest) h.small }

cipher_bytes : (m : PrivMsg) → AreBytes (private m) → AreBytes m.cipher
unfolding encrypted_data
cipher_bytes m h =
    let kvno : List ℕ = optional (context 1) natural m.kvno in
    let cipher : List ℕ = tagged (context 2) (octets m.cipher) in
    let etype : List ℕ = tagged (context 0) (integer m.etype) in
    let fields : List (List ℕ) = encrypted_fields m.etype m.kvno m.cipher in
    let inner : List ℕ = tagged (context 3) (encrypted_data m.etype m.kvno m.cipher) in
    let pvno : List ℕ = tagged (context 0) (integer m.pvno) in
    let kind : List ℕ = tagged (context 1) (integer m.msg_type) in
    let outer = other_fields kind (inner ∷ []) (other_fields pvno (kind ∷ inner ∷ []) (after_tag sequence_tag (concat (private_fields m)) (after_tag (application 21) (sequence (private_fields m)) h))) in
    let within = after_tag sequence_tag (concat fields) (after_tag (context 3) (sequence fields) (first_field inner [] outer)) in
    after_tag octet_string_tag m.cipher (after_tag (context 2) (octets m.cipher) (first_field cipher [] (other_fields kvno (cipher ∷ []) (other_fields etype (kvno ∷ cipher ∷ []) within))))

-- ---- decryption

is_encryption : (key cipher : List ℕ) → AreBytes cipher → 28 ≤ length cipher → IsEncryption key cipher (text_in key cipher) (tag_in cipher)
is_encryption key cipher h long =
    let w : List ℕ = expanded_key (encryption_key key) in
    let n : ℕ = length cipher - 12 in
    let front : List ℕ = take n cipher in
    let lf : length front ≡ n = length-take-le n cipher (omega arith) in
    let u = uncts_is w front (omega arith) (AreBytes-take n cipher h) in
    record {
      bytes = u.bytes;
      long = omega (arith, u.size);
      size = omega (arith, length-drop n cipher);
      image = sym (take-append-drop n cipher) ∙ ap (λ (z : List ℕ). z ++ drop n cipher) (sym u.image ∙ sym (cts_is w (text_in key cipher)));
    }

-- ---- the outcome

text_opens : (o : OpenerState) (q now : ℕ) (text tag : List ℕ) → AreBytes text → length text ≤ frame_limit → OpensText o q now text tag (opens_text o q now text tag)
text_opens o q now text tag h le =
    let inside : List ℕ = drop 16 text in
    passes (text_checks o.key text tag) (Read SpellsPart inside (OpensPart o.expect q now)) (read (part_of inside) (opens_part o.expect q now)) (λ _.
    reads SpellsPart inside (part_of inside) (OpensPart o.expect q now) (opens_part o.expect q now)
    (λ b e. part_found inside b (AreBytes-drop 16 text h) (omega (arith, length-drop 16 text)) e)
    (λ b s. part_again inside b s)
    (λ b s. passes (body_checks o.expect q now b) (λ y. y ≡ Ok b.user_data) (Ok b.user_data) (λ _. refl)))

message_opens : (o : OpenerState) (q now : ℕ) (m : Message) → AreBytes (message m) → length (message m) ≤ frame_limit → OpensMessage o q now m (opens_message o q now m)
message_opens o q now (messages.Safe m) h le = passes (safe_checks o q now m) (λ y. y ≡ Ok m.body.user_data) (Ok m.body.user_data) (λ _. refl)
message_opens o q now (messages.Priv m) h le =
    passes (priv_header o.etype o.expect m) (Decrypt o.key m.cipher (OpensText o q now)) (opens_text o q now (text_in o.key m.cipher) (tag_in m.cipher)) (λ met.
    let long : 28 ≤ length m.cipher = leb-true 28 (length m.cipher) met.1.1.1.0 in
    let w : List ℕ = expanded_key (encryption_key o.key) in
    let text : List ℕ = text_in o.key m.cipher in
    let tag : List ℕ = tag_in m.cipher in
    let enc = is_encryption o.key m.cipher (cipher_bytes m h) long in
    let short : length text ≤ frame_limit = omega (arith, long_cipher m, ap length enc.image, length-append (cts w text) tag, length-cts w text enc.long) in
    (text, tag, enc, text_opens o q now text tag enc.bytes short))

is_outcome : (o : OpenerState) (q now : ℕ) (bytes : List ℕ) → AreBytes bytes → Opens o q now bytes (opens o q now bytes)
unfolding opens
is_outcome o q now bytes h =
    passes (frame_checks bytes) (Read Spells bytes (OpensMessage o q now)) (read (message_of bytes) (opens_message o q now)) (λ met.
    let le : length bytes ≤ frame_limit = leb-true (length bytes) frame_limit met.0 in
    reads Spells bytes (message_of bytes) (OpensMessage o q now) (opens_message o q now)
    (λ m e. message_found bytes m h le e)
    (λ m s. message_again bytes m s)
    (λ m s. message_opens o q now m (subst AreBytes s.spelt h) (subst (λ (z : List ℕ). length z ≤ frame_limit) s.spelt s.short)))

pub one_outcome : OneOutcome
one_outcome o q now bytes outcome h = (
  λ p. outcomes_unique o q now bytes outcome (opens o q now bytes) p (is_outcome o q now bytes h),
  λ e. subst (Opens o q now bytes) (sym e) (is_outcome o q now bytes h),
)
