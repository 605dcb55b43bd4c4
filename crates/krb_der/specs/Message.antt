-- What bytes spell (the messages of RFC 4120 sections 5.6 and 5.7), and what reading and writing
-- return.
use Rattle.std.specs.Prelude.{◌≡◌, ℕ, ◌<◌, ◌≤◌, ℤ, pos, List, [], ◌++◌, length, take, drop, Result, Ok, Err}
use Rattle.std.specs.Global.{Vec}
use Rattle.krb_base.specs.Limits.{frame_limit}
use Rattle.krb_der.specs.declared.error.DerError.{DerError}
use Rattle.krb_der.specs.declared.error.DerError.TheVariants as errors
use Rattle.krb_der.specs.declared.body.Body.{Body}
use Rattle.krb_der.specs.declared.safe.SafeMsg.{SafeMsg}
use Rattle.krb_der.specs.declared.safe.Covering.{Covering}
use Rattle.krb_der.specs.declared.safe.SafeDraft.{SafeDraft}
use Rattle.krb_der.specs.declared.private.Draft.{Draft}
use Rattle.krb_der.specs.declared.private.PrivMsg.{PrivMsg}
use Rattle.krb_der.specs.declared.message.Message.{Message}
use Rattle.krb_der.specs.declared.message.Message.TheVariants.{Safe, Priv}
use Rattle.krb_der.specs.Body.{part, IsBody}
use Rattle.krb_tlv.specs.Tag.{application}
use Rattle.krb_tlv.specs.Element.{tagged, sequence}
use Rattle.krb_der.specs.Safe.{safe_fields, with_checksum, before_checksum, checksum_field, IsSafe}
use Rattle.krb_der.specs.Private.{private_fields, IsPrivate}

-- the spelling of a message: KRB-SAFE ::= [APPLICATION 20] SEQUENCE, and
-- KRB-PRIV ::= [APPLICATION 21] SEQUENCE
abbrev pub message : Message → List ℕ
message (Safe m) = tagged (application 20) (sequence (safe_fields m))
message (Priv m) = tagged (application 21) (sequence (private_fields m))

-- the same of each kind
abbrev pub safe : SafeMsg → List ℕ
safe m = message (Safe m)

abbrev pub private : PrivMsg → List ℕ
private m = message (Priv m)

-- the bytes under the checksum: the spelling of the message with checksum type 0 and an empty
-- checksum (RFC 4120 section 5.6.1)
abbrev pub safe_input : SafeMsg → List ℕ
safe_input m = message (Safe (record m { cksum_type = pos 0; checksum = [] }))

-- the numbers of a message are in the ranges of their types
abbrev pub IsMessage : Message → Type 0
IsMessage (Safe m) = IsSafe m
IsMessage (Priv m) = IsPrivate m

-- the bytes are the one spelling of a value of the grammar, and no more than a limit
pub record SpellsWithin {V : Type 0} (limit : ℕ) (IsValue : V → Type 0) (spelling : V → List ℕ)
    (v : V) (bytes : List ℕ) : Type 0 where
  pub in_range : IsValue v
  pub spelt : bytes ≡ spelling v
  pub short : length bytes ≤ limit

-- the bytes spell the message
abbrev pub Spells : Message → List ℕ → Type 0
Spells = SpellsWithin frame_limit IsMessage message

-- the bytes spell the body as an encrypted part
abbrev pub SpellsPart : Body → List ℕ → Type 0
SpellsPart = SpellsWithin frame_limit IsBody part

-- What a reading returns: the value, that the bytes are too many, or that they spell nothing. It runs
-- out of memory only where they spell a value.
abbrev pub Decodes : {V : Type 0} → (V → List ℕ → Type 0) → Result V DerError → List ℕ → Type 0
Decodes Spelt (Ok v) bytes = Spelt v bytes
Decodes Spelt (Err errors.TooLong) bytes = frame_limit < length bytes
Decodes Spelt (Err errors.Malformed) bytes =
    (length bytes ≤ frame_limit) × ((v : _) → Spelt v bytes → ⊥)
Decodes {V} Spelt (Err errors.Memory) bytes = (v : V) × Spelt v bytes

-- What a reading returns that copies nothing, of which this is seen: it never runs out of memory.
abbrev pub DecodesBorrowed : {X V : Type 0} → (V → List ℕ → Type 0) → (X → V) → Result X DerError → List ℕ
    → Type 0
DecodesBorrowed Spelt view (Ok x) bytes = Spelt (view x) bytes
DecodesBorrowed Spelt view (Err errors.TooLong) bytes = frame_limit < length bytes
DecodesBorrowed Spelt view (Err errors.Malformed) bytes =
    (length bytes ≤ frame_limit) × ((v : _) → Spelt v bytes → ⊥)
DecodesBorrowed Spelt view (Err errors.Memory) bytes = ⊥

-- What a writing returns: the spelling, or that it would be too long.
abbrev pub Encodes : {V : Type 0} → (V → List ℕ → Type 0) → (V → List ℕ) → V
    → Result (Vec ℕ) DerError → Type 0
Encodes Spelt spelling v (Ok bytes) = Spelt v bytes.items
Encodes Spelt spelling v (Err errors.TooLong) = frame_limit < length (spelling v)
Encodes Spelt spelling v (Err errors.Malformed) = ⊥
Encodes Spelt spelling v (Err errors.Memory) = length (spelling v) ≤ frame_limit

-- The prefix of a message up to its cipher: with any cipher of n octets after it, the bytes spell
-- the message.
abbrev pub Precedes : PrivMsg → ℕ → List ℕ → Type 0
Precedes m n front =
    (cipher : List ℕ) → length cipher ≡ n
    → Spells (Priv (record m { cipher = cipher })) (front ++ cipher)

-- A message whose cipher is to be of n octets: its prefix up to `start`, and from there the
-- plaintext, which is other bytes and the part of a body after them.
pub record IsDraft (m : PrivMsg) (before : List ℕ) (b : Body) (n : ℕ) (draft : Draft) : Type 0 where
  pub body : IsBody b
  pub within : draft.start ≤ length draft.bytes.items
  pub front : Precedes m n (take draft.start draft.bytes.items)
  pub text : drop draft.start draft.bytes.items ≡ before ++ part b

-- the message with any cipher of n octets is within the limit, or over it
abbrev pub IsWithinLimit : PrivMsg → ℕ → Type 0
IsWithinLimit m n =
    (cipher : List ℕ) → length cipher ≡ n
    → length (private (record m { cipher = cipher })) ≤ frame_limit

abbrev pub IsOverLimit : PrivMsg → ℕ → Type 0
IsOverLimit m n =
    (cipher : List ℕ) → length cipher ≡ n
    → frame_limit < length (private (record m { cipher = cipher }))

-- What writing such a draft returns, for a cipher of n octets.
abbrev pub Drafts : PrivMsg → List ℕ → Body → ℕ → Result Draft DerError → Type 0
Drafts m before b n (Ok draft) = IsDraft m before b n draft
Drafts m before b n (Err errors.TooLong) = IsOverLimit m n
Drafts m before b n (Err errors.Malformed) = ⊥
Drafts m before b n (Err errors.Memory) = IsWithinLimit m n

-- Around the fields before the checksum of any message, if these have n octets, it makes the bytes
-- under the checksum.
abbrev pub Covers : ℕ → Covering → Type 0
Covers n around =
    (m : SafeMsg) → length (before_checksum m) ≡ n
    → around.message ++ (around.sequence ++ (before_checksum m ++ around.last)) ≡ safe_input m

-- A message that is to have a checksum of this type and n octets: with any such checksum as its last
-- field, the bytes spell it, and from `start` on they are the fields before it.
pub record IsSafeDraft (m : SafeMsg) (kind : ℤ) (n : ℕ) (draft : SafeDraft) : Type 0 where
  pub within : draft.start ≤ length draft.bytes.items
  pub fields : drop draft.start draft.bytes.items ≡ before_checksum m
  pub spelt : (sum : List ℕ) → length sum ≡ n
      → Spells (Safe (with_checksum m kind sum)) (draft.bytes.items ++ checksum_field kind sum)

-- the message with any checksum of n octets is within the limit, or over it
abbrev pub IsSafeWithinLimit : SafeMsg → ℤ → ℕ → Type 0
IsSafeWithinLimit m kind n =
    (sum : List ℕ) → length sum ≡ n → length (safe (with_checksum m kind sum)) ≤ frame_limit

abbrev pub IsSafeOverLimit : SafeMsg → ℤ → ℕ → Type 0
IsSafeOverLimit m kind n =
    (sum : List ℕ) → length sum ≡ n → frame_limit < length (safe (with_checksum m kind sum))

-- What writing such a draft returns.
abbrev pub DraftsSafe : SafeMsg → ℤ → ℕ → Result SafeDraft DerError → Type 0
DraftsSafe m kind n (Ok draft) = IsSafeDraft m kind n draft
DraftsSafe m kind n (Err errors.TooLong) = IsSafeOverLimit m kind n
DraftsSafe m kind n (Err errors.Malformed) = ⊥
DraftsSafe m kind n (Err errors.Memory) = IsSafeWithinLimit m kind n

-- One spelling for each value.
abbrev pub OneSpelling : {V : Type 0} → (V → List ℕ → Type 0) → Type 0
OneSpelling {V} Spelt = (v : V) (s t : List ℕ) → Spelt v s → Spelt v t → s ≡ t

-- One value for each spelling, and no spelling begins another.
abbrev pub UniqueSpelling : {V : Type 0} → (V → List ℕ → Type 0) → Type 0
UniqueSpelling {V} Spelt =
    (a b : V) (s t x y : List ℕ) → Spelt a s → Spelt b t → s ++ x ≡ t ++ y → (a ≡ b) × (s ≡ t)
    × (x ≡ y)
