-- What `open` prints.
use Rattle.std.specs.Prelude.{◌≡◌, ◌⊎◌, ℕ, List, ◌++◌, length, take, Option, Result, OnOk}
use Rattle.std.specs.Io.KnownBytes.{Appends}
use Rattle.krb_peers.specs.Log.{entries_for, new_log, has_closed}
use Rattle.krb_peers.specs.LogState.{LogState}
use Rattle.krb_peers.specs.ReceiverState.{ReceiverState}
use Rattle.krb_peers.specs.Verdicts.{Verdict, AreJudged, events_from}
use Rattle.krb_commands.specs.JobLines.{entry_lines, state_line, state_by, status_by}
use Rattle.krb_commands.specs.Output.{AppendsPrefix}

abbrev pub opened_lines : List Verdict → List ℕ
opened_lines verdicts = entry_lines (entries_for 0 (events_from verdicts))

-- what became of each frame, one a line, and whether the close was accepted
abbrev pub opened_text : List Verdict → List ℕ
opened_text verdicts =
    opened_lines verdicts ++ state_line 0 (state_by (has_closed (events_from verdicts)))

-- 0 where the close was accepted, else 3
abbrev pub opened_status : List Verdict → ℕ
opened_status verdicts = status_by (has_closed (events_from verdicts))

-- the verdicts on the frames are printed, and this is the status
abbrev pub PrintsOpened : ReceiverState → List ℕ → List (List ℕ) → Option (List ℕ) → Option (List ℕ)
    → ℕ → Type 0
PrintsOpened receiver nows frames old new status =
    (verdicts : List Verdict) × AreJudged receiver nows frames verdicts
    × Appends old new (opened_text verdicts) × (status ≡ opened_status verdicts)

-- so many lines are printed: those of the first frames alone
abbrev pub PrintsFirst : ReceiverState → List ℕ → List (List ℕ) → ℕ → Option (List ℕ)
    → Option (List ℕ) → Type 0
PrintsFirst receiver nows frames lines old new =
    (n : ℕ) × (verdicts : List Verdict) × AreJudged receiver nows (take n frames) verdicts
    × (lines ≡ length (events_from verdicts)) × Appends old new (opened_lines verdicts)

-- a prefix of what is printed of all, or of the lines of the first frames alone
abbrev pub PrintsOpenedPrefix : ReceiverState → List ℕ → List (List ℕ) → Option (List ℕ)
    → Option (List ℕ) → Type 0
PrintsOpenedPrefix receiver nows frames old new =
    ((verdicts : List Verdict) × AreJudged receiver nows frames verdicts
    × AppendsPrefix old new (opened_text verdicts))
    ⊎ ((n : ℕ) × (verdicts : List Verdict) × AreJudged receiver nows (take n frames) verdicts
    × AppendsPrefix old new (opened_lines verdicts))

-- a log of one lane holds what became of the frames
pub record HoldsFrames (receiver : ReceiverState) (nows : List ℕ) (frames : List (List ℕ))
    (log : LogState) : Type 0 where
  pub verdicts : List Verdict
  pub opened : AreJudged receiver nows frames verdicts
  pub entries : log ≡ record (new_log 1) { entries = entries_for 0 (events_from verdicts) }

-- it holds that of the first frames, and of all where nothing failed
abbrev pub LogsFrames : {A E : Type 0} → ReceiverState → List ℕ → List (List ℕ) → Result A E
    → LogState → Type 0
LogsFrames receiver nows frames result log =
    (n : ℕ) × HoldsFrames receiver nows (take n frames) log × OnOk result (n ≡ length frames)
