-- A shard: frames of many sessions, in the order in which a carrier stored them.
use Rattle.std.specs.Prelude.{◌≡◌, ℕ, ◌+◌, ◌==◌, List, [], ◌∷◌, slice_get, Some, if◌then◌else◌}
use Rattle.krb_record.specs.declared.record.Record.{Record}
use Rattle.krb_seal.specs.Sealer.{SealerState}
use Rattle.krb_peers.specs.Session.{Sealed, IsSealed}

-- a frame that was put there under the name of a session, whoever put it
pub record Item : Type 0 where
  pub session : ℕ
  pub frame : List ℕ

-- the frames under the name of a session, in order
abbrev pub frames_of : ℕ → List Item → List (List ℕ)
frames_of session [] = []
frames_of session (item ∷ items) =
    if item.session == session then item.frame ∷ frames_of session items
    else frames_of session items

-- a frame that is sealed of record k of a session stands at this place, under its name
pub record StandsAt (sealer : SealerState) (records : List Record) (session : ℕ) (shard : List Item)
    (k place : ℕ) : Type 0 where
  pub it : Sealed
  pub sealed : IsSealed sealer records k it
  pub there : slice_get shard place ≡ Some (record { session = session; frame = it.frame })

-- The frame of this number stands at this offset. The offsets of a shard count from 1: so many items
-- there are up to an offset.
pub record Stands (sealer : SealerState) (records : List Record) (session : ℕ) (shard : List Item)
    (number offset : ℕ) : Type 0 where
  pub k : ℕ
  pub number_is : number ≡ sealer.next + k
  pub place : ℕ
  pub offset_is : offset ≡ place + 1
  pub stands : StandsAt sealer records session shard k place
