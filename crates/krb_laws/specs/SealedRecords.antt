-- Sealed records exist: exactly one frame of each record within its limits, at each number, timestamp
-- and confounder.
use Rattle.std.specs.Prelude.{◌≡◌, ◌↔◌, ℕ, ◌+◌, ◌≤◌, List, [], ◌∷◌, ◌++◌, length, map, slice_get, Some}
use Rattle.krb_base.specs.Bytes.{AreBytes}
use Rattle.krb_base.specs.Limits.{last_number}
use Rattle.krb_der.specs.Moment.{last_moment}
use Rattle.krb_etype.specs.declared.etype.Etype.{Etype}
use Rattle.krb_etype.specs.Etype.{confounder_size, number_of}
use Rattle.krb_record.specs.declared.record.Record.{Record}
use Rattle.krb_record.specs.declared.record.Record.TheVariants.{Close}
use Rattle.krb_record.specs.Record.{FitsLimits, bytes_of}
use Rattle.krb_peers.specs.Attempt.{CanTakeAll}
use Rattle.krb_peers.specs.ReceiverState.{ReceiverState}
use Rattle.krb_peers.specs.Session.{AreSealed, FitLimits, Sealed}
use Rattle.krb_seal.specs.Exists.{HasHosts}
use Rattle.krb_seal.specs.Sealer.{SealerState, end_of_numbers}
use Rattle.krb_seal.specs.Seals.{Seals, sealed}

-- of each record within its limits there is one frame
abbrev pub OneFrameOfEachRecord : Type 0
OneFrameOfEachRecord =
    (etype : Etype) (sealer : SealerState) (k at : ℕ) (r : Record) (conf frame : List ℕ)
    → number_of etype ≡ sealer.etype → HasHosts sealer.session → FitsLimits r
    → AreBytes (bytes_of r) → sealer.next + k ≤ last_number → at ≤ last_moment
    → length conf ≡ confounder_size → AreBytes conf
    → Seals sealer.etype sealer.key sealer.session (sealer.next + k) (bytes_of r) at conf frame
    ↔ (frame ≡ sealed etype sealer.key sealer.session (sealer.next + k) (bytes_of r) at conf)

-- of all records of a session that fit, with numbers left, there are sealed ones
abbrev pub RecordsAreSealed : Type 0
RecordsAreSealed =
    (etype : Etype) (sealer : SealerState) (records : List Record) (at : ℕ) (conf : List ℕ)
    → number_of etype ≡ sealer.etype → HasHosts sealer.session → FitLimits records
    → ((k : ℕ) (r : Record) → slice_get records k ≡ Some r → AreBytes (bytes_of r))
    → sealer.next + length records ≤ end_of_numbers → at ≤ last_moment
    → length conf ≡ confounder_size → AreBytes conf
    → (sealed : List Sealed) × AreSealed sealer records sealed

-- And a new receiver can take them all: so what `attempt_laws.met` of krb_peers and `store_laws.met` and
-- `delivery_laws.happens` of krb_carry ask is met by any records that fit, of which none follows a close.
abbrev pub RecordsCanBeTaken : Type 0
RecordsCanBeTaken =
    (etype : Etype) (sealer : SealerState) (records : List Record) (at : ℕ) (conf : List ℕ)
    → number_of etype ≡ sealer.etype → HasHosts sealer.session → FitLimits records
    → ((front back : List Record) → records ≡ front ++ Close ∷ back → back ≡ [])
    → ((k : ℕ) (r : Record) → slice_get records k ≡ Some r → AreBytes (bytes_of r))
    → sealer.next + length records ≤ end_of_numbers → at ≤ last_moment
    → length conf ≡ confounder_size → AreBytes conf
    → (sealed : List Sealed) × (receiver : ReceiverState)
    × (map (λ (it : Sealed). it.carried) sealed ≡ records)
    × CanTakeAll sealer records sealed receiver (at ∷ [])
