-- A KRB-PRIV up to its cipher, with the text that is to be enciphered.
use Rattle.std.proofs.Common.{◌≡◌, ℕ, ◌<◌, ◌≤◌, List, ◌++◌, length, take, drop, Result, Ok, Err, inl, inr, refl, sym, ap, subst, ◌∙◌, arith, length-append}
use Rattle.std.specs.Prelude.{IsErrAnd}
use Rattle.std.proofs.lemmas.Bool.{cases_lt}
use Rattle.std.proofs.lemmas.List.{drop_at, take_at}
use Rattle.std.specs.Global.{Vec}
use Rattle.krb_base.specs.Limits.{frame_limit}
use Rattle.krb_der.specs.declared.error.DerError.{DerError}
use Rattle.krb_der.specs.declared.error.DerError.TheVariants as errors
use Rattle.krb_der.specs.declared.body.Body.{Body}
use Rattle.krb_der.specs.declared.private.PrivMsg.{PrivMsg}
use Rattle.krb_der.specs.declared.private.Draft.{Draft}
use Rattle.krb_der.specs.declared.message.Message.TheVariants.{Priv}
use Rattle.krb_der.specs.Body.{part, IsBody}
use Rattle.krb_der.specs.Private.{IsPrivate}
use Rattle.krb_der.specs.Message.{private}
use Rattle.krb_der.specs.Message.{message, Spells, Encodes, Precedes, IsDraft, IsWithinLimit, IsOverLimit, Drafts}
use Rattle.krb_der.specs.Writing.{private_size, private_before_cipher}
use Rattle.krb_der.proofs.Writers.{length-private, private_is}

size_with : (m : PrivMsg) (n : ℕ) (cipher : List ℕ) → length cipher ≡ n → length (private (record m { cipher = cipher })) ≡ private_size m n
size_with m n cipher e = length-private (record m { cipher = cipher }) ∙ ap (private_size m) e

pub within_limit : (m : PrivMsg) (k n : ℕ) → k ≡ n → private_size m k ≤ frame_limit → IsWithinLimit m n
within_limit m k n same le = λ cipher e. subst (λ (z : ℕ). z ≤ frame_limit) (sym (size_with m k cipher (e ∙ sym same))) le

pub over_limit : (m : PrivMsg) (n : ℕ) → frame_limit < private_size m n → IsOverLimit m n
over_limit m n lt = λ cipher e. subst (λ (k : ℕ). frame_limit < k) (sym (size_with m n cipher e)) lt

-- more octets than a message may have make it too long
pub over_by_more : (m : PrivMsg) (k n : ℕ) → frame_limit < k → k ≤ n → IsOverLimit m n
over_by_more m k n lt le = over_limit m n (omega arith)

-- the size was computed of n, or n is over the limit
pub over_limit_at : (m : PrivMsg) (k n : ℕ) → (n ≤ frame_limit → k ≡ n) → frame_limit < private_size m k → IsOverLimit m n
over_limit_at m k n same lt = elim (cases_lt frame_limit n) [
  | inl over ↦ over_by_more m n n over (omega arith)
  | inr le ↦ over_limit m n (subst (λ (z : ℕ). frame_limit < private_size m z) (same le) lt)
]

precedes : (m : PrivMsg) (n : ℕ) → IsPrivate m → private_size m n ≤ frame_limit → Precedes m n (private_before_cipher m n)
precedes m n is le = λ cipher e.
    let spelt : private_before_cipher m n ++ cipher ≡ private (record m { cipher = cipher }) =
    subst (λ (k : ℕ). private_before_cipher m k ++ cipher ≡ private (record m { cipher = cipher })) e (private_is (record m { cipher = cipher })) in
    record {
      in_range = record { pvno = is.pvno; msg_type = is.msg_type; etype = is.etype; kvno = is.kvno };
      spelt = spelt;
      short = subst (λ (s : List ℕ). length s ≤ frame_limit) (sym spelt) (within_limit m n n refl le cipher e);
    }

pub drafted : (m : PrivMsg) (before : List ℕ) (b : Body) (k n : ℕ) (draft : Draft) → k ≡ n → IsPrivate m → IsBody b → private_size m k ≤ frame_limit
    → draft.start ≡ length (private_before_cipher m k) → draft.bytes.items ≡ private_before_cipher m k ++ (before ++ part b) → IsDraft m before b n draft
drafted m before b k n draft same is body le at bytes =
    let front : List ℕ = private_before_cipher m k in
    let text : List ℕ = before ++ part b in
    record {
      body = body;
      within = omega (arith, at, ap length bytes, length-append front text);
      front = subst (λ (z : ℕ). Precedes m z (take draft.start draft.bytes.items)) same
          (subst (λ (s : List ℕ). Precedes m k s) (sym (ap (take draft.start) bytes ∙ take_at front text draft.start (sym at))) (precedes m k is le));
      text = ap (drop draft.start) bytes ∙ drop_at front text draft.start (sym at);
    }

pub draft_too_long : (m : PrivMsg) (before : List ℕ) (b : Body) (n : ℕ) (r : Result Draft DerError) (x : DerError) → IsErrAnd r (λ e. e ≡ x) → x ≡ errors.TooLong → IsOverLimit m n
    → Drafts m before b n r
draft_too_long m before b n (Ok draft) x h is over = absurd h
draft_too_long m before b n (Err e) x h is over = subst (λ (y : DerError). Drafts m before b n (Err y)) (sym (h ∙ is)) over

-- ---- the whole message

pub private_spelt : (m : PrivMsg) (n : ℕ) (bytes : List ℕ) → n ≡ length m.cipher → IsPrivate m → private_size m n ≤ frame_limit → bytes ≡ private m → Spells (Priv m) bytes
private_spelt m n bytes same is le e = record {
  in_range = is;
  spelt = e;
  short = subst (λ (s : List ℕ). length s ≤ frame_limit) (sym e) (within_limit m n (length m.cipher) same le m.cipher refl);
}

pub private_too_long : (m : PrivMsg) (n : ℕ) (r : Result (Vec ℕ) DerError) (x : DerError) → n ≡ length m.cipher → IsErrAnd r (λ e. e ≡ x) → x ≡ errors.TooLong → frame_limit < private_size m n
    → Encodes Spells message (Priv m) r
private_too_long m n (Ok bytes) x same h is over = absurd h
private_too_long m n (Err e) x same h is over =
    subst (λ (y : DerError). Encodes Spells message (Priv m) (Err y)) (sym (h ∙ is)) (over_limit m n over m.cipher (sym same))

-- a refusal to grow is told as such, of a message that isn't too long
pub draft_memory : (m : PrivMsg) (before : List ℕ) (b : Body) (n : ℕ) (r : Result Draft DerError) → IsErrAnd r (λ e. e ≡ errors.Memory) → IsWithinLimit m n → Drafts m before b n r
draft_memory m before b n (Ok x) h le = absurd h
draft_memory m before b n (Err e) h le = subst (λ (x : DerError). Drafts m before b n (Err x)) (sym h) le
