-- Bytes and their code, in a frame that opens.
use Rattle.std.specs.Prelude.{◌≡◌, ℕ, ◌+◌, true, false, List, ◌++◌, slice_get, Some, Ok}
use Rattle.std.specs.List.{flat_map}
use Rattle.krb_base.specs.Prefix.{IsPrefix}
use Rattle.krb_der.specs.declared.body.Body.{Body}
use Rattle.krb_der.specs.declared.message.Message.{Message}
use Rattle.krb_der.specs.declared.message.Message.TheVariants as messages
use Rattle.krb_der.specs.Address.{same_address}
use Rattle.krb_der.specs.Body.{part}
use Rattle.krb_der.specs.Message.{Spells, safe_input}
use Rattle.krb_etype.specs.declared.etype.Etype.{Etype}
use Rattle.krb_etype.specs.Keys.{IsEncryption}
use Rattle.krb_keys.specs.Hmac.{hmac96}
use Rattle.krb_peers.specs.declared.delivery.Delivery.{Delivery}
use Rattle.krb_peers.specs.Attempt.{Attempt, DemandsAfter, HasKey, IsAttempt, demand_at}
use Rattle.krb_peers.specs.Claims.{texts_with}
use Rattle.krb_peers.specs.Log.{has_closed}
use Rattle.krb_peers.specs.Session.{AreRecords, IsFrameOf}
use Rattle.krb_peers.specs.Verdicts.{AreJudged, events_from, record_of}
use Rattle.krb_record.specs.declared.record.Record.{Record}
use Rattle.krb_record.specs.Record.{bytes_of, texts_of}
use Rattle.krb_seal.specs.declared.coded.Covered.{Covered}
use Rattle.krb_seal.specs.declared.coded.Covered.TheVariants as covered
use Rattle.krb_seal.specs.declared.session.Mode.{Mode}
use Rattle.krb_seal.specs.declared.session.Mode.TheVariants.{Safe, Priv}
use Rattle.krb_seal.specs.Covered.{code_key_of}
use Rattle.krb_seal.specs.Opens.{OpenerState, Opens}
use Rattle.krb_seal.specs.Sealer.{SealerState}
use Rattle.krb_seal.specs.Seals.{Seals, body_of, unsigned}

-- ---- what was coded

-- The bytes under the code of a message that carries a body: of a KRB-SAFE the message with checksum type 0 and an
-- empty checksum (RFC 4120 section 5.6.1), of a KRB-PRIV the confounder and the part (RFC 3961 section 5.3).
abbrev pub coded_as : Mode → Etype → List ℕ → Body → List ℕ
coded_as Safe etype conf b = safe_input (unsigned etype b)
coded_as Priv etype conf b = conf ++ part b

-- They were coded: a frame is sealed of the user data at the number, at some timestamp and under some confounder, and
-- these are the bytes under its code.
pub record IsCoded (maker : SealerState) (number : ℕ) (user bytes : List ℕ) : Type 0 where
  pub at : ℕ
  pub confounder : List ℕ
  pub frame : List ℕ
  pub seals : Seals maker.etype maker.key maker.session number user at confounder frame
  pub is : bytes ≡ coded_as maker.session.mode seals.etype confounder (body_of maker.session number user at)

-- It seals under the opener's key, in its mode: the other end, or the opener's own.
pub record HasSameKey (maker : SealerState) (o : OpenerState) : Type 0 where
  pub key : maker.key ≡ o.key
  pub mode : maker.session.mode ≡ o.expect.mode

-- ---- what a frame shows

-- the bytes that a message has under its code, and that code
abbrev pub HasCode : List ℕ → Message → List ℕ → List ℕ → Type 0
HasCode key (messages.Safe m) bytes code = (bytes ≡ safe_input m) × (code ≡ m.checksum)
HasCode key (messages.Priv m) bytes code = IsEncryption key m.cipher bytes code

-- the frame is a message that has them
pub record Has (key frame bytes code : List ℕ) : Type 0 where
  pub message : Message
  pub spells : Spells message frame
  pub has : HasCode key message bytes code

-- and the code is that of the bytes, under the key of the opener's codes
pub record Shows (o : OpenerState) (frame bytes code : List ℕ) : Type 0 where
  pub has : Has o.key frame bytes code
  pub is_code : code ≡ hmac96 (code_key_of o) bytes

-- the code that a frame has, of which this is covered
abbrev pub code_in : Covered → List ℕ
code_in (covered.Safe m bytes) = m.checksum
code_in (covered.Priv m text tag) = tag

-- ---- what is claimed of any frame that opens

-- the frame opens as what was sealed so: at its number, with its user data, and from its sender's address
pub record OpensAsSealed (o : OpenerState) (number : ℕ) (user : List ℕ) (maker : SealerState) (q : ℕ)
    (content : List ℕ) : Type 0 where
  pub number_is : number ≡ q
  pub user_is : user ≡ content
  pub sender : same_address maker.session.s_addr o.expect.s_addr ≡ true

-- Each frame that opens shows bytes and their code. Where somebody with the key coded these bytes of user data at a
-- number, it opens as what was sealed so.
abbrev pub OpensCodedBytes : Type 0
OpensCodedBytes =
    (o : OpenerState) (number now : ℕ) (frame user : List ℕ) → Opens o number now frame (Ok user)
    → (bytes : List ℕ) × ((code : List ℕ) × Shows o frame bytes code
    × ((maker : SealerState) (q : ℕ) (content : List ℕ) → HasSameKey maker o → IsCoded maker q content bytes
    → OpensAsSealed o number user maker q content))

-- So what an end with another sender's address than the expected one has made, as the receiver's own, never has the
-- bytes that a frame shows which opens.
abbrev pub NoneIsReflected : Type 0
NoneIsReflected =
    (o : OpenerState) (number now : ℕ) (frame user : List ℕ) → Opens o number now frame (Ok user)
    → (bytes : List ℕ) × ((code : List ℕ) × Shows o frame bytes code
    × ((maker : SealerState) (q : ℕ) (content : List ℕ) → HasSameKey maker o
    → same_address maker.session.s_addr o.expect.s_addr ≡ false → IsCoded maker q content bytes → ⊥))

-- ---- what is claimed of a receiver

-- a frame that the receiver accepts at a place
pub record Accepts (attempt : Attempt) (place : ℕ) (frame : List ℕ) (d : Delivery) : Type 0 where
  pub took : slice_get attempt.took place ≡ Some frame
  pub verdict : slice_get attempt.verdicts place ≡ Some (Ok d)

-- A break: a frame is accepted that was sealed of none of the records, and doesn't carry the record of the number that
-- is demanded there. That is what `no_forgery` of `IsAttempt` excludes.
pub record Breaks (sealer : SealerState) (records : List Record) (attempt : Attempt) (place : ℕ)
    (frame : List ℕ) (d : Delivery) : Type 0 where
  pub accepts : Accepts attempt place frame d
  pub not_sealed : IsFrameOf sealer records frame → ⊥
  pub not_carried :
      ((k : ℕ) → (demand_at attempt place).expected ≡ sealer.next + k → slice_get records k ≡ Some (record_of d))
      → ⊥

-- The bytes were coded of one of the records, under its number.
pub record IsCodedOfOne (sealer : SealerState) (records : List Record) (bytes : List ℕ) : Type 0 where
  pub k : ℕ
  pub record_k : Record
  pub there : slice_get records k ≡ Some record_k
  pub coded : IsCoded sealer (sealer.next + k) (bytes_of record_k) bytes

-- A receiver with the session's key and mode, and its verdicts, whatever comes.
pub record IsTry (sealer : SealerState) (records : List Record) (attempt : Attempt) : Type 0 where
  pub are : AreRecords records
  pub has_key : HasKey sealer attempt.receiver
  pub mode : sealer.session.mode ≡ attempt.receiver.opener.expect.mode
  pub judged : AreJudged attempt.receiver attempt.nows attempt.took attempt.verdicts

-- From each break bytes are found that were coded of none of the records, and their code.
abbrev pub BreaksFindBytes : Type 0
BreaksFindBytes =
    (sealer : SealerState) (records : List Record) (attempt : Attempt) (place : ℕ) (frame : List ℕ) (d : Delivery)
    → IsTry sealer records attempt → Breaks sealer records attempt place frame d
    → (bytes : List ℕ) × ((code : List ℕ) × Shows attempt.receiver.opener frame bytes code
    × (IsCodedOfOne sealer records bytes → ⊥))

-- Nobody found any: what an accepted frame shows was coded of one of the records.
abbrev pub NoneFound : SealerState → List Record → Attempt → Type 0
NoneFound sealer records attempt =
    (place : ℕ) (frame : List ℕ) (d : Delivery) (bytes code : List ℕ) → Accepts attempt place frame d
    → Shows attempt.receiver.opener frame bytes code → IsCodedOfOne sealer records bytes

-- Then the attempt has the premise of the headline.
abbrev pub NoneFoundIsNoForgery : Type 0
NoneFoundIsNoForgery =
    (sealer : SealerState) (records : List Record) (attempt : Attempt)
    → IsTry sealer records attempt → NoneFound sealer records attempt → IsAttempt sealer records attempt

-- And so the headline: what is delivered is a prefix of the texts, in order and each once, and all of them if the close was
-- accepted.
abbrev pub HeadlineWhereNoneFound : Type 0
HeadlineWhereNoneFound =
    (sealer : SealerState) (records : List Record) (first : ℕ) (attempt : Attempt)
    → IsTry sealer records attempt → DemandsAfter sealer records first attempt.receiver.demand
    → NoneFound sealer records attempt
    → let events = events_from attempt.verdicts in
    IsPrefix (texts_with records first events) (flat_map texts_of records)
    × (has_closed events ≡ true → texts_with records first events ≡ flat_map texts_of records)
