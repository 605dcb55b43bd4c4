-- From the spellings that the code wrote to the frame.
use Rattle.std.proofs.Common.{◌≡◌, ℕ, ◌+◌, ◌*◌, ◌≤◌, ℤ, List, ◌++◌, length, take, drop, replicate, Option, Some, None, Result, Ok, Err, refl, sym, ap, subst, ◌∙◌, arith, length-append, length-drop}
use Rattle.std.proofs.lemmas.List.{length-replicate}
use Rattle.krb_aes.specs.Keys.{expanded_key}
use Rattle.krb_aes.specs.Stealing.{cts}
use Rattle.krb_base.specs.Bytes.{AreBytes}
use Rattle.krb_aes.proofs.StealingLemmas.{length-cts}
use Rattle.krb_keys.proofs.HmacLemmas.{length-hmac96}
use Rattle.std.specs.Prelude.{IfOk, OnOk}
use Rattle.std.specs.Global.{Vec}
use Rattle.std.specs.Option.{ForSome}
use Rattle.krb_base.specs.Limits.{frame_limit, user_data_limit}
use Rattle.krb_der.specs.declared.error.DerError.{DerError}
use Rattle.krb_der.specs.declared.error.DerError.TheVariants as errors
use Rattle.krb_der.specs.declared.address.HostAddress.{HostAddress}
use Rattle.krb_der.specs.declared.body.Body.{Body}
use Rattle.krb_der.specs.declared.safe.SafeMsg.{SafeMsg}
use Rattle.krb_der.specs.declared.private.PrivMsg.{PrivMsg}
use Rattle.krb_der.specs.declared.message.Message.TheVariants as messages
use Rattle.krb_der.specs.Body.{part}
use Rattle.krb_der.specs.Message.{Drafts, DraftsSafe, IsDraft, IsSafeDraft, Spells}
use Rattle.krb_der.specs.Size.{optional_size, carried, private_overhead}
use Rattle.krb_der.specs.Safe.{checksum_field, with_checksum}
use Rattle.krb_der.proofs.Sizes.{small_part, small_safe, small_private}
use Rattle.krb_der.specs.declared.private.Draft.{Draft}
use Rattle.krb_der.specs.declared.safe.SafeDraft.{SafeDraft}
use Rattle.krb_seal.specs.declared.session.Mode.TheVariants.{Priv}
use Rattle.krb_etype.specs.declared.etype.Etype.{Etype}
use Rattle.krb_etype.specs.Etype.{number_of}
use Rattle.krb_etype.specs.Keys.{encryption_key, integrity_key, tag_of, encrypted}
use Rattle.krb_seal.specs.Seals.{SealsBody, unenciphered}
use Rattle.krb_seal.specs.Session.{IsShortAddress, session_address_limit}
use Rattle.krb_seal.specs.Body.{IsSmall}

pub optional-small : (r : Option HostAddress) → ForSome r IsShortAddress → optional_size r ≤ session_address_limit
optional-small None h = omega arith
optional-small (Some a) h = h a refl

carried-small : (b : Body) → IsSmall b → carried b ≤ user_data_limit + 2 * session_address_limit
carried-small b h = omega (arith, h.user, h.sender, optional-small b.r_addr h.receiver)

-- a draft within the limit fails for want of memory alone
pub memory_safe : (m : SafeMsg) (kind : ℤ) (r : Result SafeDraft DerError) → DraftsSafe m kind 12 r → IsSmall m.body → (e : DerError) → r ≡ Err e → e ≡ errors.Memory
memory_safe m kind (Ok draft) h small e is = absurd cc
memory_safe m kind (Err errors.TooLong) h small e is =
    let any : List ℕ = replicate 12 0 in
    absurd (omega (arith, h any refl, small_safe (with_checksum m kind any), carried-small m.body small))
memory_safe m kind (Err errors.Malformed) h small e is = absurd h
memory_safe m kind (Err errors.Memory) h small e is = cc

pub memory_draft : (m : PrivMsg) (conf : List ℕ) (b : Body) (n : ℕ) (r : Result Draft DerError) → Drafts m conf b n r → n + private_overhead ≤ frame_limit
    → (e : DerError) → r ≡ Err e → e ≡ errors.Memory
memory_draft m conf b n (Ok draft) h le e is = absurd cc
memory_draft m conf b n (Err errors.TooLong) h le e is =
    let any : List ℕ = replicate n 0 in
    absurd (omega (arith, h any (length-replicate {A = ℕ} n 0), length-replicate {A = ℕ} n 0, small_private (record m { cipher = any })))
memory_draft m conf b n (Err errors.Malformed) h le e is = absurd h
memory_draft m conf b n (Err errors.Memory) h le e is = cc

-- the cipher of a small body is well below the limit
pub small_cipher : (b : Body) → IsSmall b → 16 + length (part b) + 12 + private_overhead ≤ frame_limit
small_cipher b h = omega (arith, small_part b, carried-small b h)

-- ---- KRB-PRIV from a draft

pub length-encrypted : (key text : List ℕ) → 16 ≤ length text → length (encrypted key text) ≡ length text + 12
length-encrypted key text long =
    let w : List ℕ = expanded_key (encryption_key key) in
    omega (arith, length-append (cts w text) (tag_of key text), length-cts w text long, length-hmac96 (integrity_key key) text)

sealed_draft : (etype : Etype) (key conf : List ℕ) (b : Body) (draft : Draft) (frame : List ℕ) → length conf ≡ 16
    → IsDraft (unenciphered etype) conf b (length conf + length (part b) + 12) draft
    → frame ≡ take draft.start draft.bytes.items ++ encrypted key (drop draft.start draft.bytes.items)
    → AreBytes (drop draft.start draft.bytes.items)
    → SealsBody Priv (number_of etype) key conf b frame
sealed_draft etype key conf b draft frame size d is plain =
    let text : List ℕ = conf ++ part b in
    let front : List ℕ = take draft.start draft.bytes.items in
    let same : frame ≡ front ++ encrypted key text = is ∙ ap (λ (t : List ℕ). front ++ encrypted key t) d.text in
    let long : length (encrypted key text) ≡ length conf + length (part b) + 12 =
    omega (arith, length-append conf (part b), length-encrypted key text (omega (arith, length-append conf (part b)))) in
    record {
      etype = etype;
      known = refl;
      body = d.body;
      confounder = size;
      plain = λ _. subst (λ (t : List ℕ). AreBytes t) d.text plain;
      spelt = subst (λ (s : List ℕ). Spells (messages.Priv (record (unenciphered etype) { cipher = encrypted key text })) s) (sym same) (d.front (encrypted key text) long);
    }

pub seals_draft : {E : Type 0} (etype : Etype) (key conf : List ℕ) (b : Body) (draft : Draft) (r : Result (Vec ℕ) E) → length conf ≡ 16
    → IsDraft (unenciphered etype) conf b (length conf + length (part b) + 12) draft
    → IfOk r (λ frame. frame.items ≡ take draft.start draft.bytes.items ++ encrypted key (drop draft.start draft.bytes.items))
    → OnOk r (AreBytes (drop draft.start draft.bytes.items))
    → IfOk r (λ frame. SealsBody Priv (number_of etype) key conf b frame.items)
seals_draft etype key conf b draft (Ok frame) size d is plain = sealed_draft etype key conf b draft frame.items size d is plain
seals_draft etype key conf b draft (Err e) size d is plain = tt

-- ---- KRB-SAFE from a draft

-- what is hashed of it is short
pub short_fields : (m : SafeMsg) (kind : ℤ) (draft : SafeDraft) → IsSafeDraft m kind 12 draft → length (drop draft.start draft.bytes.items) ≤ frame_limit
short_fields m kind draft d =
    let any : List ℕ = replicate 12 0 in
    omega (arith, (d.spelt any refl).short, length-append draft.bytes.items (checksum_field kind any), length-drop draft.start draft.bytes.items)
