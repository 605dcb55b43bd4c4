-- What was taken of a lane, and its receiver's verdicts.
use Rattle.std.specs.Prelude.{◌≡◌, ℕ, List, [], ◌∷◌, take, slice_get, Some}
use Rattle.krb_peers.specs.Ends.{Ends}
use Rattle.krb_peers.specs.Plan.{wire}
use Rattle.krb_peers.specs.Sender.{records, AreFrames}
use Rattle.krb_peers.specs.Verdicts.{Verdict, AreJudged}

-- a lane, the frames that were taken of its wire, and one verdict on each
pub record Run : Type 0 where
  pub ends : Ends
  pub took : List (List ℕ)
  pub verdicts : List Verdict

-- for some count, so many records were sealed, the frames taken are a prefix of the wire that these
-- make, and the verdicts are those on them
pub record IsRun (run : Run) : Type 0 where
  pub count : ℕ
  pub frames : List (List ℕ)
  pub sealed : AreFrames run.ends.source (take count (records run.ends.source)) frames
  pub n : ℕ
  pub taken : run.took ≡ take n (wire frames run.ends.source.plan)
  pub judged : AreJudged run.ends.receiver run.ends.nows run.took run.verdicts

-- the runs are those of these lanes, one for each
abbrev pub AreRuns : List Ends → List Run → Type 0
AreRuns [] [] = Unit {0}
AreRuns (ends ∷ lanes) (run ∷ runs) = (run.ends ≡ ends) × IsRun run × AreRuns lanes runs
AreRuns lanes runs = ⊥

-- the claim holds of each lane and its run
abbrev pub OfRuns : List Run → (ℕ → Run → Type 0) → Type 0
OfRuns runs Claim = (lane : ℕ) (run : Run) → slice_get runs lane ≡ Some run → Claim lane run
