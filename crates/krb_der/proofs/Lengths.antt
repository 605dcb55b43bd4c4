-- What is spelled inside is no longer than the whole.
use Rattle.std.proofs.Common.{◌≡◌, inl, inr, ℕ, zero, suc, ◌<◌, ◌≤◌, Bool, true, false, ℤ, List, [], ◌∷◌, length, get_or, Option, Some, None, Result, Ok, Err, arith, sym, subst}
use Rattle.std.specs.List.{concat}
use Rattle.std.specs.Prelude.{IfSome, IsTrue, ◌↔◌, IsErrAnd}
use Rattle.std.specs.Global.{Vec}
use Rattle.krb_der.specs.declared.error.DerError.{DerError}
use Rattle.krb_der.specs.declared.error.DerError.TheVariants as errors
use Rattle.krb_der.specs.Message.{Encodes}
use Rattle.std.proofs.lemmas.Bool.{cases_lt}
use Rattle.std.proofs.lemmas.List.{length-append}
use Rattle.krb_der.specs.declared.address.HostAddress.{HostAddress}
use Rattle.krb_der.specs.declared.body.Body.{Body}
use Rattle.krb_der.specs.declared.safe.SafeMsg.{SafeMsg}
use Rattle.krb_tlv.specs.Element.{tagged, sequence, optional, octets}
use Rattle.krb_tlv.specs.Integer.{integer}
use Rattle.krb_der.specs.Typed.{typed_octets}
use Rattle.krb_der.specs.Address.{host_address}
use Rattle.krb_der.specs.Body.{body, body_fields, part}
use Rattle.krb_tlv.specs.Writing.{IsShort}
use Rattle.krb_der.specs.Writing.{IsShortBody}
use Rattle.krb_der.specs.Safe.{checksum, safe_fields}
use Rattle.krb_der.specs.Message.{safe}
use Rattle.krb_base.specs.Limits.{frame_limit}
use Rattle.krb_tlv.proofs.Readers.{length-tagged}

nth : (fs : List (List ℕ)) (i : ℕ) → length (get_or fs i []) ≤ length (concat fs)
nth [] i = omega arith
nth (f ∷ fs) zero = omega (arith, length-append f (concat fs))
nth (f ∷ fs) (suc i) = omega (arith, length-append f (concat fs), nth fs i)

-- the bytes that stand with a type
typed_holds : (kind : ℤ) (bytes : List ℕ) → length bytes ≤ length (typed_octets kind bytes)
unfolding typed_octets
typed_holds kind bytes =
    let fs : List (List ℕ) = tagged 0xA0 (integer kind) ∷ tagged 0xA1 (octets bytes) ∷ [] in
    omega (arith, nth fs 1, length-tagged 0x30 (concat fs), length-tagged 0xA1 (octets bytes), length-tagged 0x04 bytes)

address_holds : (a : HostAddress) → length a.bytes ≤ length (host_address a)
unfolding typed_octets
address_holds a = typed_holds a.kind a.bytes

body_holds : (b : Body) (i : ℕ) → length (get_or (body_fields b) i []) ≤ length (body b)
unfolding body
body_holds b i = omega (arith, nth (body_fields b) i, length-tagged 0x30 (concat (body_fields b)))

safe_holds : (m : SafeMsg) (i : ℕ) → length (get_or (safe_fields m) i []) ≤ length (safe m)
safe_holds m i = omega (arith, nth (safe_fields m) i, length-tagged 0x30 (concat (safe_fields m)), length-tagged 0x74 (sequence (safe_fields m)))

optional_short : (n : ℕ) (o : Option HostAddress) → length (optional 0xA5 host_address o) ≤ n → IfSome o (λ a. length a.bytes ≤ n)
optional_short n None h = tt
optional_short n (Some a) h = omega (arith, length-tagged 0xA5 (host_address a), address_holds a)

short_body : (b : Body) → length (body b) ≤ frame_limit → IsShortBody b
short_body b h = (
  omega (arith, body_holds b 0, length-tagged 0xA0 (octets b.user_data), length-tagged 0x04 b.user_data),
  omega (arith, body_holds b 4, length-tagged 0xA4 (host_address b.s_addr), address_holds b.s_addr),
  optional_short frame_limit b.r_addr (omega (arith, body_holds b 5)),
)

pub short_safe : (m : SafeMsg) → length (safe m) ≤ frame_limit → IsShortBody m.body × IsShort m.checksum
short_safe m h = (
  short_body m.body (omega (arith, safe_holds m 2, length-tagged 0xA2 (body m.body))),
  omega (arith, safe_holds m 3, length-tagged 0xA3 (checksum m.cksum_type m.checksum), typed_holds m.cksum_type m.checksum),
)

short_part : (b : Body) → length (part b) ≤ frame_limit → IsShortBody b
short_part b h = short_body b (omega (arith, length-tagged 0x7C (body b)))

not_both : (b : Bool) → b ≡ false → IsTrue b → ⊥
not_both true e t = absurd cc
not_both false e t = absurd cc

too_long : (P : Type 0) (n : ℕ) (b : Bool) → (IsTrue b ↔ P) → b ≡ false → (n ≤ frame_limit → P) → frame_limit < n
too_long P n b h e short = elim (cases_lt frame_limit n) [ inl lt ↦ lt | inr le ↦ absurd (not_both b e (h.1 (short le))) ]

pub long_safe_body : (m : SafeMsg) (b : Bool) → (IsTrue b ↔ IsShortBody m.body) → b ≡ false → frame_limit < length (safe m)
long_safe_body m b h e = too_long (IsShortBody m.body) (length (safe m)) b h e (λ le. (short_safe m le).0)

pub long_safe_checksum : (m : SafeMsg) (b : Bool) → (IsTrue b ↔ IsShort m.checksum) → b ≡ false → frame_limit < length (safe m)
long_safe_checksum m b h e = too_long (IsShort m.checksum) (length (safe m)) b h e (λ le. (short_safe m le).1)

pub long_part : (b : Body) (t : Bool) → (IsTrue t ↔ IsShortBody b) → t ≡ false → frame_limit < length (part b)
long_part b t h e = too_long (IsShortBody b) (length (part b)) t h e (short_part b)

-- a refusal to grow is told as such, of a value that isn't too long
pub memory_only : {V : Type 0} (Spelt : V → List ℕ → Type 0) (spelling : V → List ℕ) (v : V) (r : Result (Vec ℕ) DerError) → IsErrAnd r (λ e. e ≡ errors.Memory) → length (spelling v) ≤ frame_limit → Encodes Spelt spelling v r
memory_only Spelt spelling v (Ok x) h le = absurd h
memory_only Spelt spelling v (Err e) h le = subst (λ (x : DerError). Encodes Spelt spelling v (Err x)) (sym h) le
