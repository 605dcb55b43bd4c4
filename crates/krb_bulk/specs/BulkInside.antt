-- Messages of one call, and what is made of each.
use Rattle.std.specs.Prelude.{◌≡◌, ℕ, ◌+◌, ◌-◌, ◌≤◌, List, ◌++◌, length, take, drop, Some, slice_get}
use Rattle.std.specs.Global.{Vec}
use Rattle.krb_aes.specs.Keys.{expanded_key}
use Rattle.krb_aes.specs.Stealing.{cts}
use Rattle.krb_base.specs.Bytes.{AreBytes}
use Rattle.krb_base.specs.Limits.{frame_limit}
use Rattle.krb_der.specs.declared.body.Body.{Body}
use Rattle.krb_der.specs.declared.safe.SafeDraft.{SafeDraft}
use Rattle.krb_der.specs.declared.safe.SafeMsg.{SafeMsg}
use Rattle.krb_der.specs.Body.{IsBody, part}
use Rattle.krb_der.specs.Safe.{checksum_field}
use Rattle.krb_der.specs.Message.{IsSafeDraft, Precedes, safe_input}
use Rattle.krb_etype.specs.declared.etype.Etype.{Etype}
use Rattle.krb_etype.specs.declared.private_keys.End.TheVariants.{Sealer}
use Rattle.krb_etype.specs.Etype.{checksum_number, confounder_size, number_of}
use Rattle.krb_etype.specs.HeldKeys.{fresh_keys}
use Rattle.krb_etype.specs.Keys.{encryption_key, tag_of, checksum_key}
use Rattle.krb_keys.specs.Hmac.{hmac96}
use Rattle.krb_seal.specs.Mode.{purpose_of}
use Rattle.krb_seal.specs.Seals.{body_of, safe_checksum, unenciphered, unsigned}
use Rattle.krb_seal.specs.Sealer.{SealerState}
use Rattle.krb_seal.specs.Lent.{advanced_by}
use Rattle.krb_seal.specs.Session.{HasShortAddresses}
use Rattle.krb_bulk.specs.declared.bulk.Bulk.{Bulk}
use Rattle.krb_bulk.specs.declared.four.Four.{Four}
use Rattle.krb_bulk.specs.declared.private.Plain.{Plain}
use Rattle.krb_bulk.specs.declared.safe.FourUnsummed.{FourUnsummed}
use Rattle.krb_bulk.specs.declared.safe.Unsummed.{Unsummed}
use Rattle.krb_bulk.specs.declared.unsealed.Unsealed.{Unsealed}
use Rattle.krb_bulk.specs.Four.{AreBoth, AreFrom}
use Rattle.krb_bulk.specs.Many.{CanSealInTurn, SealsInTurn, SealsMessage}

-- The sealer that seals them.
abbrev pub sealer_of : Bulk → SealerState
sealer_of b = record {
  etype = number_of b.parts.etype;
  key = b.parts.keys.now.key;
  session = b.parts.session.now;
  next = b.next;
  wiped = b.parts.keys.now.wiped;
}

-- Its keys are a live sealer's for its mode, its addresses are those of its session and short, and it
-- can seal all of them.
pub record IsReady (b : Bulk) : Type 0 where
  pub keys : b.parts.keys.now
      ≡ fresh_keys b.parts.keys.now.key Sealer (purpose_of b.parts.session.now.mode)
  pub sender : b.addresses.now.s_addr ≡ b.parts.session.now.s_addr
  pub receiver : b.addresses.now.r_addr ≡ b.parts.session.now.r_addr
  pub addresses : HasShortAddresses b.parts.session.now
  pub each : CanSealInTurn (sealer_of b) b.messages.now

-- What holds of the message with this index.
abbrev pub OfMessage : Bulk → ℕ → (Unsealed → Type 0) → Type 0
OfMessage b k P = (m : Unsealed) → slice_get b.messages.now k ≡ Some m → P m

-- What it carries.
abbrev pub body_at : Bulk → ℕ → Unsealed → Body
body_at b k m = body_of b.parts.session.now (b.next + k) m.user_data.now m.at

abbrev pub CarriesAt : Bulk → ℕ → Body → Type 0
CarriesAt b k body = OfMessage b k (λ m. body ≡ body_at b k m)

-- The bytes are its frame.
abbrev pub SealsAt : Bulk → ℕ → List ℕ → Type 0
SealsAt b k bytes = OfMessage b k (λ m. SealsMessage (advanced_by (sealer_of b) k) m bytes)

-- The frames are those of the first messages, and no more than there are.
abbrev pub SealsFirst : Bulk → List (Vec ℕ) → Type 0
SealsFirst b frames =
    (length frames ≤ length b.messages.now)
    × SealsInTurn (sealer_of b) (take (length frames) b.messages.now) frames

-- ---- KRB-PRIV

-- A KRB-PRIV under a confounder, whose part isn't enciphered yet.
pub record IsPlain (etype : Etype) (conf : List ℕ) (b : Body) (plain : Plain) : Type 0 where
  pub confounder : length conf ≡ confounder_size
  pub body : IsBody b
  pub within : plain.start ≤ length plain.bytes
  pub front : Precedes (unenciphered etype) (length conf + length (part b) + 12)
      (take plain.start plain.bytes)
  pub text : drop plain.start plain.bytes ≡ conf ++ part b

-- It is that of the message with this index.
abbrev pub IsPlainAt : Bulk → ℕ → Plain → Type 0
IsPlainAt b k plain = OfMessage b k (λ m. IsPlain b.parts.etype m.confounder (body_at b k m) plain)

-- It can be enciphered.
pub record IsLong (plain : Plain) : Type 0 where
  pub within : plain.start ≤ length plain.bytes
  pub long : 16 ≤ length (drop plain.start plain.bytes)

-- They are the codes of these texts.
abbrev pub AreTags : List ℕ → Four Plain → Four (List ℕ) → Type 0
AreTags key = AreBoth (λ p tag. tag ≡ tag_of key (drop p.start p.bytes))

-- The bytes are this KRB-PRIV with its part enciphered, up to the code.
pub record Enciphers (key : List ℕ) (plain : Plain) (written : List ℕ) : Type 0 where
  pub text : AreBytes (drop plain.start plain.bytes)
  pub cipher : written ≡ take plain.start plain.bytes
      ++ cts (expanded_key (encryption_key key)) (drop plain.start plain.bytes)

-- ---- KRB-SAFE

-- A KRB-SAFE that has no checksum yet. The confounder goes nowhere.
pub record IsDraft (etype : Etype) (conf : List ℕ) (b : Body) (draft : SafeDraft) : Type 0 where
  pub confounder : length conf ≡ confounder_size
  pub made : IsSafeDraft (unsigned etype b) (checksum_number etype) 12 draft

-- It is that of the message with this index.
abbrev pub IsDraftAt : Bulk → ℕ → SafeDraft → Type 0
IsDraftAt b k draft = OfMessage b k (λ m. IsDraft b.parts.etype m.confounder (body_at b k m) draft)

abbrev pub IsUnsummedAt : Bulk → ℕ → Unsummed → Type 0
IsUnsummedAt b k u = IsDraftAt b k u.draft

-- The fields before its checksum are in it, and no more than a frame may have.
pub record HasShortFields (draft : SafeDraft) : Type 0 where
  pub within : draft.start ≤ length draft.bytes.items
  pub short : length (drop draft.start draft.bytes.items) ≤ frame_limit

-- The bytes of a buffer that belong to it.
abbrev pub input_of : List ℕ → Unsummed → List ℕ
input_of inputs u = take (u.end - u.start) (drop u.start inputs)

pub record LiesIn (inputs : List ℕ) (u : Unsummed) : Type 0 where
  pub order : u.start ≤ u.end
  pub within : u.end ≤ length inputs

-- They are those under the checksum of a message.
pub record HasInput (m : SafeMsg) (inputs : List ℕ) (u : Unsummed) : Type 0 where
  pub lies : LiesIn inputs u
  pub input : input_of inputs u ≡ safe_input m

-- They are those of the message with this index.
abbrev pub HasInputAt : Bulk → List ℕ → ℕ → Unsummed → Type 0
HasInputAt b inputs k u =
    OfMessage b k (λ m. HasInput (unsigned b.parts.etype (body_at b k m)) inputs u)

-- Bytes were appended.
abbrev pub Extends : List ℕ → List ℕ → Type 0
Extends old new = (more : List ℕ) × (new ≡ old ++ more)

-- Those under the checksum of the message with this index were.
pub record PutsInput (b : Bulk) (k : ℕ) (old new : List ℕ) (u : Unsummed) : Type 0 where
  pub unsummed : IsUnsummedAt b k u
  pub input : HasInputAt b new k u
  pub kept : Extends old new

-- They are those of the messages from this index on, with what is under their checksums.
pub record HasInputs (b : Bulk) (from : ℕ) (four : FourUnsummed) : Type 0 where
  pub unsummed : AreFrom (IsUnsummedAt b) from four.messages
  pub input : AreFrom (HasInputAt b four.inputs.items) from four.messages

-- The bytes are this KRB-SAFE with this checksum.
abbrev pub HasSum : Etype → Unsummed → List ℕ → List ℕ → Type 0
HasSum etype u sum bytes =
    bytes ≡ u.draft.bytes.items ++ checksum_field (checksum_number etype) sum

-- They are the checksums of what belongs to these messages.
abbrev pub AreSums : List ℕ → List ℕ → Four Unsummed → Four (List ℕ) → Type 0
AreSums key inputs = AreBoth (λ u sum. sum ≡ hmac96 (checksum_key key) (input_of inputs u))

-- It is the checksum of the message with this index.
abbrev pub IsSumAt : Bulk → ℕ → List ℕ → Type 0
IsSumAt b k sum =
    OfMessage b k (λ m.
    sum ≡ safe_checksum b.parts.keys.now.key (unsigned b.parts.etype (body_at b k m)))
