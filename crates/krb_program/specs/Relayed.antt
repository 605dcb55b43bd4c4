-- What `relay` prints.
use Rattle.std.specs.Prelude.{◌≡◌, ◌<◌, ◌⊎◌, ℕ, List, ◌++◌, length, slice_get, Option, Some}
use Rattle.std.specs.Io.KnownBytes.{Appends, Keeps}
use Rattle.krb_peers.specs.LogState.{LogState}
use Rattle.krb_peers.specs.Ends.{Ends, sents_of}
use Rattle.krb_peers.specs.Whole.{IsRelayed, IsWhole}
use Rattle.krb_peers.specs.Wire.{IsWire, IsBad}
use Rattle.krb_relay.specs.Relayed.{unended}
use Rattle.krb_commands.specs.JobLines.{entry_lines, end_lines, are_closed, status_by}
use Rattle.krb_commands.specs.Output.{AppendsPrefix}

-- the entries of the log, one a line, and how each lane ended
abbrev pub relayed_text : List Ends → LogState → List ℕ
relayed_text lanes log = entry_lines log.entries ++ end_lines 0 (sents_of lanes) log

-- 0 where every lane's close was accepted, else 3
abbrev pub relayed_status : List Ends → LogState → ℕ
relayed_status lanes log = status_by (are_closed 0 (sents_of lanes) log)

-- The log has the verdicts on all that the wires carry, in rounds, every lane has ended, and the
-- headline holds of each. That log and how much each sender sealed are printed, and this is the
-- status.
abbrev pub PrintsRelayed : List Ends → Option (List ℕ) → Option (List ℕ) → ℕ → Type 0
PrintsRelayed lanes old new status =
    (log : LogState) × IsWhole lanes log (sents_of lanes) × Appends old new (relayed_text lanes log)
    × (status ≡ relayed_status lanes log)

-- So many lines are printed: the outcome of each frame that was taken until the run stopped. The
-- headline holds of each lane.
abbrev pub PrintsStopped : List Ends → ℕ → Option (List ℕ) → Option (List ℕ) → Type 0
PrintsStopped lanes lines old new =
    (log : LogState) × IsRelayed lanes (unended log) × (lines ≡ length log.entries)
    × Appends old new (entry_lines log.entries)

-- A prefix of what is printed of all, or of the lines of the first entries alone, or nothing. The
-- first entries are the outcome of the frames that were taken of each lane, and the headline holds
-- of each lane.
abbrev pub PrintsRelayedPrefix : List Ends → Option (List ℕ) → Option (List ℕ) → Type 0
PrintsRelayedPrefix lanes old new =
    Keeps old new
    ⊎ (((log : LogState) × IsWhole lanes log (sents_of lanes)
    × AppendsPrefix old new (relayed_text lanes log))
    ⊎ ((log : LogState) × IsRelayed lanes (unended log)
    × AppendsPrefix old new (entry_lines log.entries)))

-- The plan of this lane names what the frames of its sender don't have, and all lanes before it
-- have a wire.
pub record HasBadPlanFirst (lanes : List Ends) (lane : ℕ) : Type 0 where
  pub ends : Ends
  pub there : slice_get lanes lane ≡ Some ends
  pub bad : IsBad ends.source
  pub before : (other : ℕ) (its : Ends) → other < lane → slice_get lanes other ≡ Some its
      → (emitted : List (List ℕ)) × IsWire its.source emitted
