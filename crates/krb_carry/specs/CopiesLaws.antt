-- What the laws state.
use Rattle.std.specs.Prelude.{◌≡◌, ◌≢◌, ◌⊎◌, ℕ, ◌-◌, ◌+◌, ◌<◌, ◌≤◌, true, false, List, [], ◌∷◌, ◌++◌, length, map, take, drop}
use Rattle.std.specs.Prelude.{slice_get, Some, None, All, pos}
use Rattle.std.specs.List.{Contains}
use Rattle.krb_record.specs.declared.record.Record.TheVariants.{Text}
use Rattle.krb_record.specs.Record.{FitsLimits}
use Rattle.krb_etype.specs.Etype.{number_of}
use Rattle.krb_etype.specs.declared.etype.Etype.{Etype}
use Rattle.krb_seal.specs.declared.session.Mode.TheVariants.{Safe}
use Rattle.krb_seal.specs.Sealer.{SealerState, new_state}
use Rattle.krb_peers.specs.Session.{AreRecords, FitLimits, Sealed, SealsAt, AreSealed, frames_in}
use Rattle.krb_peers.specs.Texts.{texts_of_all}
use Rattle.krb_carry.specs.Outbox.{Kept, Outbox, new_outbox, records_in, sealed_in, stored_records}
use Rattle.krb_carry.specs.Outbox.{Act, Insert, Seal, IsAct, LeadsOutbox}
use Rattle.krb_carry.specs.History.{tag, with_frames}
use Rattle.krb_carry.specs.HistoryLaws.{Collision}
use Rattle.krb_carry.specs.declared.receipt.Finding.{Finding}
use Rattle.krb_carry.specs.declared.receipt.Receipt.{Receipt}
use Rattle.krb_carry.specs.Receipt.{below, history_below, IsTrue, Finds}
use Rattle.krb_carry.specs.Copies.{Copy, own_frames, stopped, World, new_world}
use Rattle.krb_carry.specs.Copies.{Event, Does, Restores, Copies, Takes, Hears, IsAbove, Steps, LeadsCopies}

-- it holds of whatever any events leave
abbrev pub OfCopies : (SealerState → World → Type 0) → Type 0
OfCopies Claim =
    (sealer : SealerState) (events : List Event) (world : World)
    → LeadsCopies sealer (new_world sealer) events world → Claim sealer world

-- ---- what receipts do

-- a receipt is one of four things to a sender
abbrev pub OneFinding : Type 0
OneFinding = (done next : ℕ) (own : List ℕ) (receipt : Receipt) (one other : Finding)
    → Finds done next own receipt one → Finds done next own receipt other → one ≡ other

-- A sender may keep the digest of its frames below `done` and no frame of these: with those from there
-- on it is the digest of all.
abbrev pub OneDigestIsEnough : Type 0
OneDigestIsEnough = (first done number : ℕ) (frames : List (List ℕ)) → first ≤ done → done ≤ number
    → with_frames (history_below first frames done) (drop (done - first) (below first frames number))
    ≡ history_below first frames number

-- a true receipt stays true, whatever takes effect after it
abbrev pub ReceiptsStayTrue : Type 0
ReceiptsStayTrue = (first : ℕ) (took more : List (List ℕ)) (receipt : Receipt)
    → IsTrue first took receipt → IsTrue first (took ++ more) receipt

-- the frames below this number that took effect are the copy's own: they have the same tags, one by one
abbrev pub AreItsOwn : SealerState → World → Copy → ℕ → Type 0
AreItsOwn sealer world copy number =
    map tag (below sealer.next (frames_in world.took) number)
    ≡ map tag (below sealer.next (own_frames copy) number)

-- of all that a copy takes for delivered its own frames took effect
abbrev pub DeliveredTookEffect : Type 0
DeliveredTookEffect = OfCopies (λ sealer world.
    All (λ copy. (copy.done ≤ sealer.next + length world.took)
    × (AreItsOwn sealer world copy copy.done ⊎ Collision)) world.copies)

-- a receipt stops each copy of which other frames took effect, or which hasn't sealed them; and what
-- the copy took for delivered stays
abbrev pub OthersAreStopped : Type 0
OthersAreStopped = OfCopies (λ sealer world.
    (place : ℕ) (copy : Copy) (receipt : Receipt) (new : World)
    → slice_get world.copies place ≡ Some copy → Steps sealer world (Hears place receipt) new
    → ¬ AreItsOwn sealer world copy receipt.number
    → (slice_get new.copies place ≡ Some (stopped copy)) ⊎ Collision)

-- and from a number on under which a copy sealed another frame than took effect, it takes nothing for
-- delivered
abbrev pub NothingFromThereOn : Type 0
NothingFromThereOn = OfCopies (λ sealer world.
    (place k : ℕ) (copy : Copy) (own other : Sealed)
    → slice_get world.copies place ≡ Some copy
    → slice_get (sealed_in copy.outbox) k ≡ Some own → slice_get world.took k ≡ Some other
    → tag own.frame ≢ tag other.frame → (copy.done ≤ sealer.next + k) ⊎ Collision)

-- Two frames that differ, were sealed under one number, and have one tag: of the 96 bits of two codes
-- (RFC 3962, section 6) all are the same.
pub record TagsMeet (sealer : SealerState) : Type 0 where
  pub number : ℕ
  pub one : Sealed
  pub other : Sealed
  pub one_seals : SealsAt sealer number one
  pub other_seals : SealsAt sealer number other
  pub differ : one.frame ≢ other.frame
  pub same : tag one.frame ≡ tag other.frame

-- so no text is taken for delivered that didn't take effect
abbrev pub TextsTookEffect : Type 0
TextsTookEffect = OfCopies (λ sealer world.
    All (λ copy. let count = copy.done - sealer.next in
    (texts_of_all (take count (stored_records copy.outbox))
    ≡ texts_of_all (take count (records_in world.took)))
    ⊎ (Collision ⊎ TagsMeet sealer)) world.copies)

-- ---- what each copy is, and what takes effect of all

-- each copy is an outbox
abbrev pub EachIsAnOutbox : Type 0
EachIsAnOutbox = OfCopies (λ sealer world.
    All (λ copy. (acts : List Act) × All (IsAct sealer) acts
    × LeadsOutbox (new_outbox sealer) acts copy.outbox) world.copies)

-- What took effect is sealed of the records of one session, though several copies sealed it: what is
-- claimed of a session's store holds of these records.
abbrev pub OneSessionTakesEffect : Type 0
OneSessionTakesEffect = OfCopies (λ sealer world.
    AreRecords (records_in world.took) × FitLimits (records_in world.took)
    × AreSealed sealer (records_in world.took) world.took)

-- ---- without receipts

-- A sender that begins above all frames of the session that the carrier has seals none of their numbers,
-- whatever it does from then on.
abbrev pub NoNumberIsUsedAgain : Type 0
NoNumberIsUsedAgain =
    (seen : List Kept) (old new : Outbox) (acts : List Act)
    → IsAbove old seen → LeadsOutbox old acts new
    → (kept fresh : Kept) → Contains seen kept → Contains new.frames fresh
    → ¬ Contains old.frames fresh → kept.number < fresh.number

-- ---- all of it can come to pass

-- The first copy puts in a text and seals it, its frame takes effect, and a receipt comes.
abbrev pub delivery : SealerState → List ℕ → Sealed → Receipt → List Event
delivery sealer text one receipt =
    Does 0 (Insert (Some text)) ∷ Does 0 (Seal (record { from = sealer.next; sealed = one ∷ [] }))
    ∷ Takes one ∷ Hears 0 receipt ∷ []

-- A copy of the new outbox is used, seals another text under the same number, and the receipt comes to
-- it. The first one is restored as it was before it sealed, and the receipt comes to it again.
abbrev pub fork : SealerState → List ℕ → Sealed → Receipt → List Event
fork sealer text other receipt =
    Copies 0 ∷ Does 1 (Insert (Some text))
    ∷ Does 1 (Seal (record { from = sealer.next; sealed = other ∷ [] })) ∷ Hears 1 receipt
    ∷ Restores 0 1 ∷ Hears 0 receipt ∷ []

-- the text is taken for delivered, and then both copies are stopped
pub record HasFork (sealer : SealerState) (one_text other_text : List ℕ) (one other : Sealed) : Type 0 where
  pub receipt : Receipt
  pub between : World
  pub delivers : LeadsCopies sealer (new_world sealer) (delivery sealer one_text one receipt) between
  pub done : map (λ (copy : Copy). copy.done) between.copies ≡ (sealer.next + 1) ∷ []
  pub goes_on : map (λ (copy : Copy). copy.is_stopped) between.copies ≡ false ∷ []
  pub world : World
  pub forks : LeadsCopies sealer between (fork sealer other_text other receipt) world
  pub both : map (λ (copy : Copy). copy.is_stopped) world.copies ≡ true ∷ true ∷ []
  pub took : world.took ≡ one ∷ []

-- of any two texts, however they are sealed under the first number
abbrev pub ForksHappen : Type 0
ForksHappen =
    (sealer : SealerState) (one_text other_text : List ℕ) (one other : Sealed)
    → one_text ≢ other_text → one.carried ≡ Text one_text → other.carried ≡ Text other_text
    → FitsLimits one.carried → FitsLimits other.carried
    → SealsAt sealer sealer.next one → SealsAt sealer sealer.next other
    → HasFork sealer one_text other_text one other ⊎ (Collision ⊎ TagsMeet sealer)

-- a session of KRB-SAFE from 10.0.0.1, whose first number is 0, under any key
abbrev pub example_sealer : Etype → List ℕ → SealerState
example_sealer etype key =
    new_state (number_of etype) key (record {
      mode = Safe;
      s_addr = record { kind = pos 2; bytes = 10 ∷ 0 ∷ 0 ∷ 1 ∷ [] };
      r_addr = None;
      first = 0;
    })

-- in it there are two such frames, of the texts 01 and 02
abbrev pub ForkExists : Type 0
ForkExists =
    (etype : Etype) (key : List ℕ)
    → let sealer = example_sealer etype key in
    (one : Sealed) × (other : Sealed)
    × (HasFork sealer (1 ∷ []) (2 ∷ []) one other ⊎ (Collision ⊎ TagsMeet sealer))
