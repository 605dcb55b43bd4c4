-- What is made of one message, from what is known of it.
use Rattle.std.proofs.Common.{◌≡◌, ℕ, ◌+◌, ◌<◌, ◌≤◌, List, [], ◌∷◌, ◌++◌, length, take, drop, Option, Some, Result, Ok, Err, refl, sym, ap, subst, ◌∙◌, arith, get_or, length-append}
use Rattle.std.specs.Prelude.{IfOk, slice_get}
use Rattle.std.proofs.lemmas.List.{append_assoc}
use Rattle.std.proofs.lemmas.Option.{get_or_from_slice_get, slice_get-get_or}
use Rattle.krb_aes.specs.Keys.{expanded_key}
use Rattle.krb_aes.specs.Stealing.{cts}
use Rattle.krb_base.specs.Bytes.{AreBytes}
use Rattle.krb_der.specs.declared.address.HostAddress.{HostAddress}
use Rattle.krb_der.specs.declared.body.Body.{Body}
use Rattle.krb_der.specs.declared.private.Draft.{Draft}
use Rattle.krb_der.specs.declared.message.Message.TheVariants as messages
use Rattle.krb_der.specs.Body.{part}
use Rattle.krb_der.specs.Message.{IsDraft, Spells}
use Rattle.krb_etype.specs.declared.etype.Etype.{Etype}
use Rattle.krb_etype.specs.Etype.{confounder_size, number_of}
use Rattle.krb_etype.specs.Keys.{encrypted, encryption_key, tag_of}
use Rattle.krb_seal.specs.declared.session.Mode.{Mode}
use Rattle.krb_seal.specs.declared.session.Mode.TheVariants.{Priv}
use Rattle.krb_seal.specs.Seals.{SealsBody, unenciphered}
use Rattle.krb_seal.proofs.Frames.{length-encrypted}
use Rattle.krb_seal.specs.Body.{IsSmall}
use Rattle.krb_seal.specs.Session.{HasShortAddresses}
use Rattle.krb_base.specs.Limits.{user_data_limit}
use Rattle.krb_bulk.specs.declared.bulk.Bulk.{Bulk}
use Rattle.krb_bulk.specs.declared.unsealed.Unsealed.{Unsealed}
use Rattle.krb_bulk.specs.declared.private.Plain.{Plain}
use Rattle.krb_bulk.specs.declared.four.Four.{Four}
use Rattle.krb_bulk.specs.Four.{AreEach, AreFrom}
use Rattle.krb_bulk.specs.BulkInside.{body_at, Enciphers, IsLong, IsPlain, IsPlainAt, SealsAt}

-- what holds of the message at an index holds of the message with it
pub of_index : {A : Type 0} (P : A → Type 0) (xs : List A) (i : ℕ) (d : A) → P (get_or xs i d) → (x : A) → slice_get xs i ≡ Some x → P x
of_index {A} P xs i d h x e = subst P (get_or_from_slice_get xs i x d e) h

-- the same of the message that was found there
same_found : {A : Type 0} (x y : A) → ◌≡◌ {A = Option A} (Some x) (Some y) → x ≡ y
same_found x y e = cc

pub of_found : {A : Type 0} (P : A → Type 0) (xs : List A) (i : ℕ) (x : A) → slice_get xs i ≡ Some x → P x → (y : A) → slice_get xs i ≡ Some y → P y
of_found P xs i x found h y e = subst P (same_found x y (sym found ∙ e)) h

-- what follows from what holds of a success
pub if_ok : {T E : Type 0} (P Q : T → Type 0) (r : Result T E) → ((v : T) → P v → Q v) → IfOk r P → IfOk r Q
if_ok P Q (Ok v) f h = f v h
if_ok P Q (Err e) f h = h

-- what a message carries is small
pub small_body : (b : Bulk) (k : ℕ) (m : Unsealed) (body : Body) → body ≡ body_at b k m → length m.user_data.now ≤ user_data_limit → HasShortAddresses b.parts.session.now
    → IsSmall body
small_body b k m body is short addresses =
    subst IsSmall (sym is) (record { user = short; sender = addresses.sender; receiver = addresses.receiver })

-- a body between the addresses of a call is that of the session
pub body_between : (b : Bulk) (k : ℕ) (m : Unsealed) (made : Body) → b.addresses.now.s_addr ≡ b.parts.session.now.s_addr → b.addresses.now.r_addr ≡ b.parts.session.now.r_addr
    → made ≡ record (body_at b k m) { s_addr = b.addresses.now.s_addr; r_addr = b.addresses.now.r_addr } → made ≡ body_at b k m
body_between b k m made sender receiver is =
    is ∙ ap (λ (a : HostAddress). record (body_at b k m) { s_addr = a; r_addr = b.addresses.now.r_addr }) sender
    ∙ ap (λ (a : Option HostAddress). record (body_at b k m) { r_addr = a }) receiver

-- a text that begins with its confounder is long enough
pub long_plain : (etype : Etype) (conf : List ℕ) (b : Body) (plain : Plain) → IsPlain etype conf b plain → IsLong plain
long_plain etype conf b plain p = record {
  within = p.within;
  long = omega (arith, ap length p.text, length-append conf (part b), p.confounder);
}

-- a draft of what the message carries
pub plain_of : (etype : Etype) (conf : List ℕ) (made b : Body) (draft : Draft) (held : List ℕ) → length conf ≡ confounder_size → made ≡ b → held ≡ draft.bytes.items
    → IsDraft (unenciphered etype) conf made (length conf + length (part made) + 12) draft → IsPlain etype conf b (record { bytes = held; start = draft.start })
plain_of etype conf made b draft held size is holds d =
    subst (λ (x : Body). IsPlain etype conf x (record { bytes = held; start = draft.start })) is
    (subst (λ (x : List ℕ). IsPlain etype conf made (record { bytes = x; start = draft.start })) (sym holds)
    (record { confounder = size; body = d.body; within = d.within; front = d.front; text = d.text }))

-- the frame of a KRB-PRIV
pub private_frame : (etype : Etype) (key conf : List ℕ) (b : Body) (plain : Plain) (written tag frame : List ℕ) → IsPlain etype conf b plain
    → Enciphers key plain written → tag ≡ tag_of key (drop plain.start plain.bytes) → frame ≡ written ++ tag → SealsBody Priv (number_of etype) key conf b frame
private_frame etype key conf b plain written tag frame p e t is =
    let text : List ℕ = conf ++ part b in
    let front : List ℕ = take plain.start plain.bytes in
    let held : List ℕ = drop plain.start plain.bytes in
    let w : List ℕ = expanded_key (encryption_key key) in
    let joined : written ++ tag ≡ (front ++ cts w held) ++ tag_of key held =
    ap (λ (x : List ℕ). x ++ tag) e.cipher ∙ ap (λ (x : List ℕ). (front ++ cts w held) ++ x) t in
    let same : frame ≡ front ++ encrypted key text =
    is ∙ joined ∙ append_assoc front (cts w held) (tag_of key held) ∙ ap (λ (x : List ℕ). front ++ encrypted key x) p.text in
    let size : length text ≡ length conf + length (part b) = length-append conf (part b) in
    let long : length (encrypted key text) ≡ length conf + length (part b) + 12 =
    omega (arith, size, p.confounder, length-encrypted key text (omega (arith, size, p.confounder))) in
    record {
      etype = etype;
      known = refl;
      body = p.body;
      confounder = p.confounder;
      plain = λ _. subst (λ (x : List ℕ). AreBytes x) p.text e.text;
      spelt = subst (λ (s : List ℕ). Spells (messages.Priv (record (unenciphered etype) { cipher = encrypted key text })) s) (sym same) (p.front (encrypted key text) long);
    }

-- ---- of the messages of a call

-- the message with an index
pub message_at : {A : Type 0} (xs : List A) (i : ℕ) → i < length xs → (x : A) × (slice_get xs i ≡ Some x)
message_at [] i lt = absurd (omega (arith, lt))
message_at (x ∷ xs) i lt = (get_or (x ∷ xs) i x, slice_get-get_or (x ∷ xs) i x lt)

-- one of them is long enough
long_at : (b : Bulk) (k : ℕ) (plain : Plain) → k < length b.messages.now → IsPlainAt b k plain → IsLong plain
long_at b k plain lt h =
    let m = message_at b.messages.now k lt in
    long_plain b.parts.etype m.0.confounder (body_at b k m.0) plain (h m.0 m.1)

-- four are
pub long_from : (b : Bulk) (from : ℕ) (four : Four Plain) → from + 4 ≤ length b.messages.now → AreFrom (IsPlainAt b) from four → AreEach IsLong four
long_from b from four le h = record {
  a = long_at b from four.a (omega (arith, le)) h.a;
  b = long_at b (from + 1) four.b (omega (arith, le)) h.b;
  c = long_at b (from + 2) four.c (omega (arith, le)) h.c;
  d = long_at b (from + 3) four.d (omega (arith, le)) h.d;
}

-- the frame of one in the mode of KRB-PRIV
pub private_at : (b : Bulk) (k : ℕ) (plain : Plain) (written tag frame : List ℕ) → b.parts.session.now.mode ≡ Priv → IsPlainAt b k plain
    → Enciphers b.parts.keys.now.key plain written → tag ≡ tag_of b.parts.keys.now.key (drop plain.start plain.bytes) → frame ≡ written ++ tag → SealsAt b k frame
private_at b k plain written tag frame mode h e t is m at =
    subst (λ (x : Mode). SealsBody x (number_of b.parts.etype) b.parts.keys.now.key m.confounder (body_at b k m) frame) (sym mode)
    (private_frame b.parts.etype b.parts.keys.now.key m.confounder (body_at b k m) plain written tag frame (h m at) e t is)
