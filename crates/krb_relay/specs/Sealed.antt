-- What was sealed until a relay stopped, and what is delivered of that.
use Rattle.std.specs.Prelude.{◌≡◌, ◌≤◌, ℕ, List, length, take, slice_index_or}
use Rattle.std.specs.List.{flat_map}
use Rattle.krb_base.specs.Prefix.{IsPrefix}
use Rattle.krb_peers.specs.Ends.{Ends}
use Rattle.krb_peers.specs.Log.{events_of, texts_in}
use Rattle.krb_peers.specs.LogState.{LogState}
use Rattle.krb_peers.specs.Plan.{wire}
use Rattle.krb_peers.specs.Planned.{IsPaired, AlteredAreHonest}
use Rattle.krb_record.specs.Record.{texts_of}
use Rattle.krb_peers.specs.Run.{Run, AreRuns, OfRuns}
use Rattle.krb_peers.specs.Sender.{Source, AreFrames, records}
use Rattle.krb_peers.specs.Whole.{rounds_of}

-- how many records were sealed on a lane
abbrev pub sealed_on : ℕ → List ℕ → ℕ
sealed_on lane sealed = slice_index_or sealed lane 0

-- the texts of a sender's first `count` records
abbrev pub first_texts : Source → ℕ → List (List ℕ)
first_texts source count = flat_map texts_of (take count (records source))

-- The sender sealed its first `count` records, what was taken is a prefix of the wire that these
-- make, and what is delivered is a prefix of their texts.
pub record DeliversSealed (log : LogState) (lane count : ℕ) (run : Run) : Type 0 where
  pub few : count ≤ length (records run.ends.source)
  pub frames : List (List ℕ)
  pub sealed : AreFrames run.ends.source (take count (records run.ends.source)) frames
  pub taken : IsPrefix run.took (wire frames run.ends.source.plan)
  pub delivered :
      IsPaired run.ends → AlteredAreHonest run
      → IsPrefix (texts_in (events_of lane log.entries)) (first_texts run.ends.source count)

-- The log has the verdicts on what was taken of each lane, in rounds, and each lane delivers a
-- prefix of what was sealed on it.
pub record StopsSealing (lanes : List Ends) (log : LogState) (sealed : List ℕ) : Type 0 where
  pub runs : List Run
  pub are : AreRuns lanes runs
  pub entries : log.entries ≡ rounds_of runs
  pub each : OfRuns runs (λ lane run. DeliversSealed log lane (sealed_on lane sealed) run)
