-- An outbox of a session: what an application and any number of sender processes do to it.
use Rattle.std.specs.Prelude.{◌≡◌, ◌⊎◌, ℕ, ◌+◌, false, Bool, List, [], ◌∷◌, ◌++◌, length, map}
use Rattle.std.specs.Prelude.{slice_get, Option, Some, None, is_none}
use Rattle.std.specs.List.{flat_map, list_any}
use Rattle.krb_record.specs.declared.record.Record.{Record}
use Rattle.krb_record.specs.declared.record.Record.TheVariants.{Text, Batch, Close}
use Rattle.krb_record.specs.Record.{FitsLimits}
use Rattle.krb_seal.specs.Sealer.{SealerState}
use Rattle.krb_peers.specs.Session.{Sealed, SealsAt}

-- ---- what an application puts in

-- a text, or the close
abbrev pub Put : Type 0
Put = Option (List ℕ)

-- the texts of it, and whether the close is there
abbrev pub texts_put : List Put → List (List ℕ)
texts_put [] = []
texts_put (Some text ∷ puts) = text ∷ texts_put puts
texts_put (None ∷ puts) = texts_put puts

abbrev pub has_close_put : List Put → Bool
has_close_put puts = list_any is_none puts

-- what a record carries of it
abbrev pub puts_of : Record → List Put
puts_of (Text text) = Some text ∷ []
puts_of (Batch texts) = map Some texts
puts_of Close = None ∷ []

-- the records that were sealed, and what they carry of it
abbrev pub records_in : List Sealed → List Record
records_in sealed = map (λ (it : Sealed). it.carried) sealed

abbrev pub puts_in : List Sealed → List Put
puts_in sealed = flat_map puts_of (records_in sealed)

-- ---- what is stored

-- what was sealed, under the number that is stored with it
pub record Kept : Type 0 where
  pub number : ℕ
  pub it : Sealed

-- under one number after another
abbrev pub numbered : ℕ → List Sealed → List Kept
numbered from [] = []
numbered from (it ∷ sealed) = record { number = from; it = it } ∷ numbered (from + 1) sealed

-- all that was put in, what of it waits, the number that is sealed next, and the frames
pub record Outbox : Type 0 where
  pub inserted : List Put
  pub waiting : List Put
  pub next : ℕ
  pub frames : List Kept

abbrev pub new_outbox : SealerState → Outbox
new_outbox sealer = record { inserted = []; waiting = []; next = sealer.next; frames = [] }

-- what was sealed, and the records of the session so far
abbrev pub sealed_in : Outbox → List Sealed
sealed_in outbox = map (λ (kept : Kept). kept.it) outbox.frames

abbrev pub stored_records : Outbox → List Record
stored_records outbox = records_in (sealed_in outbox)

-- a frame leaves under a number only as it is stored
pub record MayLeave (outbox : Outbox) (number : ℕ) (frame : List ℕ) : Type 0 where
  pub place : ℕ
  pub kept : Kept
  pub there : slice_get outbox.frames place ≡ Some kept
  pub number_is : kept.number ≡ number
  pub frame_is : kept.it.frame ≡ frame

-- ---- transactions

-- what a process seals for one transaction, from a number on
pub record Sealing : Type 0 where
  pub from : ℕ
  pub sealed : List Sealed

-- it does so by a sealer of its own, which has the session's key and begins at that number
pub record IsSealing (sealer : SealerState) (sealing : Sealing) : Type 0 where
  pub frames : (i : ℕ) (it : Sealed) → slice_get sealing.sealed i ≡ Some it
      → SealsAt sealer (sealing.from + i) it
  pub limits : (i : ℕ) (it : Sealed) → slice_get sealing.sealed i ≡ Some it
      → FitsLimits it.carried

-- an application puts something in, or a process seals
pub data Act : Type 0 where
  Insert : Put → Act
  Seal : Sealing → Act

abbrev pub IsAct : SealerState → Act → Type 0
IsAct sealer (Insert put) = Unit {0}
IsAct sealer (Seal sealing) = IsSealing sealer sealing

-- what is stored after something was put in
abbrev pub with_put : Outbox → Put → Outbox
with_put outbox put =
    record outbox {
      inserted = outbox.inserted ++ put ∷ [];
      waiting = outbox.waiting ++ put ∷ [];
    }

-- and after frames were stored, where this is left of what waited
abbrev pub with_frames : Outbox → Sealing → List Put → Outbox
with_frames outbox sealing left =
    record outbox {
      waiting = left;
      next = sealing.from + length sealing.sealed;
      frames = outbox.frames ++ numbered sealing.from sealing.sealed;
    }

-- Nothing is put in after the close. A process takes what it sealed from the oldest of what waits.
-- Compare-and-set: its transaction takes effect, which it may only if the stored number is that from
-- which it sealed. Or nothing changes.
abbrev pub Acts : Outbox → Act → Outbox → Type 0
Acts old (Insert put) new = ((has_close_put old.inserted ≡ false) × (new ≡ with_put old put))
    ⊎ (new ≡ old)
Acts old (Seal sealing) new =
    ((old.next ≡ sealing.from)
    × ((left : List Put) × (old.waiting ≡ puts_in sealing.sealed ++ left)
    × (new ≡ with_frames old sealing left)))
    ⊎ (new ≡ old)

-- a history of such acts
abbrev pub LeadsOutbox : Outbox → List Act → Outbox → Type 0
LeadsOutbox old [] new = new ≡ old
LeadsOutbox old (act ∷ acts) new =
    (between : Outbox) × Acts old act between × LeadsOutbox between acts new
