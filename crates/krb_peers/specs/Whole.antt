-- What a relay leaves of its lanes in any schedule, and of lanes that ran to their ends.
use Rattle.std.specs.Prelude.{◌≡◌, ◌<◌, ℕ, true, false, List, length, map}
use Rattle.krb_base.specs.Prefix.{IsPrefix}
use Rattle.krb_peers.specs.declared.log.Entry.{Entry}
use Rattle.krb_peers.specs.declared.sending.Sent.{Sent}
use Rattle.krb_peers.specs.LogState.{LogState}
use Rattle.krb_peers.specs.Verdicts.{groups_of}
use Rattle.krb_peers.specs.Run.{Run, AreRuns, OfRuns}
use Rattle.krb_peers.specs.Log.{has_ended}
use Rattle.krb_peers.specs.Planned.{Headline}
use Rattle.krb_peers.specs.Ends.{Ends, sents_of}
use Rattle.krb_peers.specs.Wire.{IsWire, TakesAll}
use Rattle.krb_peers.specs.Rounds.{rounds}

-- the outcomes of the frames that were taken: of the first of each lane, by lane number, then of
-- the second of each, and so on
abbrev pub rounds_of : List Run → List Entry
rounds_of runs = rounds (map (λ run. groups_of run.verdicts) runs)

-- ---- what any relay leaves

-- if the lane has ended, all that its wire carries was taken
abbrev pub EndsWhole : LogState → ℕ → Run → Type 0
EndsWhole log lane run = has_ended lane log ≡ true → TakesAll run.ends.source run.took

-- A prefix of each lane's wire was taken, however short: the log has the verdicts on these frames,
-- in rounds, and the headline holds of each lane.
pub record IsRelayed (lanes : List Ends) (log : LogState) : Type 0 where
  pub runs : List Run
  pub are : AreRuns lanes runs
  pub entries : log.entries ≡ rounds_of runs
  pub all_taken : OfRuns runs (EndsWhole log)
  pub claims : OfRuns runs (Headline log)

-- ---- of lanes that ran to their ends

-- one lane that ran to its end: its sealer was not wiped, and all that its wire carries was taken
pub record IsWholeRun (run : Run) : Type 0 where
  pub live : run.ends.source.sealer.wiped ≡ false
  pub emits : IsWire run.ends.source run.took

-- every lane ran to its end: the log is a relayed one, all that each wire carries was taken, each
-- lane is noted as ended, and the report says how much each sender seals
pub record IsWhole (lanes : List Ends) (log : LogState) (sents : List Sent) : Type 0 where
  pub relayed : IsRelayed lanes log
  pub whole : OfRuns (relayed.runs) (λ lane run. IsWholeRun run)
  pub ended : (lane : ℕ) → lane < length lanes → has_ended lane log ≡ true
  pub sealed : sents ≡ sents_of lanes

-- the log has a prefix of that log
pub record IsPart (lanes : List Ends) (log : LogState) : Type 0 where
  pub runs : List Run
  pub are : AreRuns lanes runs
  pub whole : OfRuns runs (λ lane run. IsWholeRun run)
  pub entries : IsPrefix log.entries (rounds_of runs)
