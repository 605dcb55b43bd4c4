-- What a sealer lends seals as the sealer does.
use Rattle.std.proofs.Common.{◌≡◌, ℕ, ◌<◌, ℤ, List, length, Option, Some, None, Bool, false, refl, sym, ap, subst, ◌∙◌, arith}
use Rattle.std.specs.Option.{ForSome}
use Rattle.std.specs.Prelude.{IfSome}
use Rattle.std.specs.Global.{Vec}
use Rattle.krb_etype.specs.declared.private_keys.End.TheVariants.{Sealer}
use Rattle.krb_etype.specs.Etype.{number_of}
use Rattle.krb_etype.specs.HeldKeys.{HeldKeys, fresh_keys}
use Rattle.krb_seal.specs.declared.session.Session.{Session}
use Rattle.krb_seal.specs.Mode.{purpose_of}
use Rattle.krb_seal.specs.Sealer.{SealerState}
use Rattle.krb_seal.specs.Lent.{keys_of}
use Rattle.krb_der.specs.declared.address.HostAddress.{HostAddress}
use Rattle.krb_tlv.specs.Writing.{IsShort}
use Rattle.krb_seal.specs.Session.{HasShortAddresses, IsShortAddress}
use Rattle.krb_bulk.specs.declared.bulk.Bulk.{Bulk}
use Rattle.krb_bulk.specs.Many.{CanSealInTurn, SealsInTurn}
use Rattle.krb_bulk.specs.BulkInside.{IsReady, sealer_of}
use Rattle.krb_bulk.proofs.TurnLemmas.{live_in_turn}

-- what a sealer lends, and its next number
pub record IsLent (s : SealerState) (b : Bulk) : Type 0 where
  pub etype : number_of b.parts.etype ≡ s.etype
  pub keys : b.parts.keys.now ≡ keys_of s
  pub session : b.parts.session.now ≡ s.session
  pub next : b.next ≡ s.next

pub as_lent : (P : SealerState → Type 0) (s : SealerState) (b : Bulk) → IsLent s b → P (sealer_of b) → P s
as_lent P s b h held =
    let key : b.parts.keys.now.key ≡ s.key = ap (λ (k : HeldKeys). k.key) h.keys in
    let wiped : b.parts.keys.now.wiped ≡ s.wiped = ap (λ (k : HeldKeys). k.wiped) h.keys in
    let a = subst (λ (x : ℤ). P (record (sealer_of b) { etype = x })) h.etype held in
    let c = subst (λ (x : List ℕ). P (record (sealer_of b) { etype = s.etype; key = x })) key a in
    let d = subst (λ (x : Session). P (record (sealer_of b) { etype = s.etype; key = s.key; session = x })) h.session c in
    let e = subst (λ (x : ℕ). P (record { etype = s.etype; key = s.key; session = s.session; next = x; wiped = b.parts.keys.now.wiped })) h.next d in
    subst (λ (x : Bool). P (record { etype = s.etype; key = s.key; session = s.session; next = s.next; wiped = x })) wiped e

pub as_own : (P : SealerState → Type 0) (s : SealerState) (b : Bulk) → IsLent s b → P s → P (sealer_of b)
as_own P s b h held =
    as_lent (λ (t : SealerState). P t → P (sealer_of b)) s b h (λ it. it) held

keys_ready : (s : SealerState) (k : HeldKeys) (held : Session) → k ≡ keys_of s → held ≡ s.session → s.wiped ≡ false → k ≡ fresh_keys k.key Sealer (purpose_of held.mode)
keys_ready s k held is same live =
    is ∙ ap (λ (w : Bool). record (keys_of s) { wiped = w }) live
    ∙ ap (λ (x : List ℕ). fresh_keys x Sealer (purpose_of s.session.mode)) (sym (ap (λ (h : HeldKeys). h.key) is))
    ∙ ap (λ (x : Session). fresh_keys k.key Sealer (purpose_of x.mode)) (sym same)

pub lent_ready : (s : SealerState) (b : Bulk) → IsLent s b → b.addresses.now.s_addr ≡ b.parts.session.now.s_addr → b.addresses.now.r_addr ≡ b.parts.session.now.r_addr
    → HasShortAddresses s.session → CanSealInTurn s b.messages.now → 0 < length b.messages.now → IsReady b
lent_ready s b h sender receiver addresses each lt = record {
  keys = keys_ready s b.parts.keys.now b.parts.session.now h.keys h.session (live_in_turn s b.messages.now each lt);
  sender = sender;
  receiver = receiver;
  addresses = subst (λ (x : Session). HasShortAddresses x) (sym h.session) addresses;
  each = as_own (λ (t : SealerState). CanSealInTurn t b.messages.now) s b h each;
}

pub lent_frames : (s : SealerState) (b : Bulk) (fs : List (Vec ℕ)) → IsLent s b → SealsInTurn (sealer_of b) b.messages.now fs → SealsInTurn s b.messages.now fs
lent_frames s b fs h sealed = as_lent (λ (t : SealerState). SealsInTurn t b.messages.now fs) s b h sealed

-- the addresses of a session are no longer than a message may be
pub sender_within : (s held : Session) → held ≡ s → HasShortAddresses s → IsShort held.s_addr.bytes
sender_within s held same h = subst (λ (x : Session). IsShort x.s_addr.bytes) (sym same) (omega (arith, h.sender))

optional_within : (r : Option HostAddress) → ForSome r IsShortAddress → IfSome r (λ a. IsShort a.bytes)
optional_within None h = tt
optional_within (Some a) h = omega (arith, h a refl)

pub receiver_within : (s held : Session) → held ≡ s → HasShortAddresses s → IfSome held.r_addr (λ a. IsShort a.bytes)
receiver_within s held same h =
    subst (λ (x : Session). IfSome x.r_addr (λ a. IsShort a.bytes)) (sym same) (optional_within s.r_addr h.receiver)
