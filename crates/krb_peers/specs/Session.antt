-- The records of a session, and what is sealed of them: by whoever has the key, at any timestamp,
-- under any confounder, and any number of times.
use Rattle.std.specs.Prelude.{◌≡◌, ℕ, ◌+◌, List, [], ◌∷◌, ◌++◌, length, map, slice_get, Some}
use Rattle.krb_record.specs.declared.record.Record.{Record}
use Rattle.krb_record.specs.declared.record.Record.TheVariants.{Close}
use Rattle.krb_record.specs.Record.{FitsLimits, SpellsRecord, bytes_of}
use Rattle.krb_seal.specs.Seals.{Seals}
use Rattle.krb_seal.specs.Sealer.{SealerState}

-- ---- the records

-- The records of a session, one for each number. Each can be read in one way only: its bytes are
-- those of no other record, which holds of each record within its limits. None follows a close.
pub record AreRecords (records : List Record) : Type 0 where
  pub readable : (k : ℕ) (r : Record) → slice_get records k ≡ Some r
      → (other : Record) → SpellsRecord other (bytes_of r) → r ≡ other
  pub close_last : (front back : List Record) → records ≡ front ++ Close ∷ back → back ≡ []

-- each is within its limits
abbrev pub FitLimits : List Record → Type 0
FitLimits records = (k : ℕ) (r : Record) → slice_get records k ≡ Some r → FitsLimits r

-- ---- their frames

-- a record, the timestamp at which it is sealed, and its frame
pub record Sealed : Type 0 where
  pub carried : Record
  pub at : ℕ
  pub frame : List ℕ

-- the frame is sealed so under this number, and under some confounder (RFC 4120 sections 3.4 and
-- 3.5)
pub record SealsAt (sealer : SealerState) (number : ℕ) (it : Sealed) : Type 0 where
  pub confounder : List ℕ
  pub seals : Seals sealer.etype sealer.key sealer.session number (bytes_of it.carried) it.at
      confounder it.frame

-- it is sealed of record k, which has the k-th number from the first one on: that is the next one of
-- the sealer with which the session begins
pub record IsSealed (sealer : SealerState) (records : List Record) (k : ℕ)
    (it : Sealed) : Type 0 where
  pub there : slice_get records k ≡ Some it.carried
  pub seals : SealsAt sealer (sealer.next + k) it

-- the frame is sealed of one of the records
pub record IsFrameOf (sealer : SealerState) (records : List Record) (frame : List ℕ) : Type 0 where
  pub k : ℕ
  pub it : Sealed
  pub sealed : IsSealed sealer records k it
  pub is : it.frame ≡ frame

-- of each record one is sealed, in order
pub record AreSealed (sealer : SealerState) (records : List Record)
    (sealed : List Sealed) : Type 0 where
  pub one_each : length sealed ≡ length records
  pub each : (k : ℕ) (it : Sealed) → slice_get sealed k ≡ Some it → IsSealed sealer records k it

-- their frames
abbrev pub frames_in : List Sealed → List (List ℕ)
frames_in sealed = map (λ (it : Sealed). it.frame) sealed
