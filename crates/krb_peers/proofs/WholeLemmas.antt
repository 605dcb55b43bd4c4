-- What any relay leaves, and what one leaves that ran to its end.
use Rattle.std.proofs.Common.{◌≡◌, ℕ, zero, suc, List, [], ◌∷◌, map, slice_get, Some, refl, sym, ap, ap₂, subst, ◌∙◌}
use Rattle.krb_peers.specs.declared.sending.Sent.{Sent}
use Rattle.krb_peers.specs.Log.{events_of as events_in}
use Rattle.krb_peers.specs.LogState.{LogState}
use Rattle.krb_peers.specs.Plan.{wire}
use Rattle.krb_peers.specs.Sender.{AreFrames, records}
use Rattle.krb_peers.specs.Verdicts.{Verdict, events_from, groups_of, verdicts}
use Rattle.krb_peers.specs.Planned.{Headline}
use Rattle.krb_peers.specs.Ends.{Ends}
use Rattle.krb_peers.specs.Rounds.{joined, list_of}
use Rattle.krb_peers.specs.Run.{Run, IsRun, AreRuns, OfRuns}
use Rattle.krb_peers.specs.Whole.{EndsWhole, IsRelayed, IsWholeRun, rounds_of, IsWhole}
use Rattle.krb_peers.proofs.HeadlineLemmas.{same_frames}
use Rattle.krb_peers.proofs.VerdictLemmas.{follow_same}
use Rattle.krb_peers.proofs.RoundsLemmas.{of_lane, joined-groups}
use Rattle.krb_peers.proofs.ClaimLemmas.{headline_of}

-- ---- the headline of any relay

list_of-runs : (runs : List Run) (lane : ℕ) (run : Run) → slice_get runs lane ≡ Some run → list_of (map (λ r. groups_of r.verdicts) runs) lane ≡ groups_of run.verdicts
list_of-runs [] lane run at = absurd (let e = at in cc)
list_of-runs (r ∷ runs) zero run at = let e : r ≡ run = cc in ap (λ x. groups_of x.verdicts) e
list_of-runs (r ∷ runs) (suc lane) run at = list_of-runs runs lane run at

run_at : (lanes : List Ends) (runs : List Run) → AreRuns lanes runs → (lane : ℕ) (run : Run) → slice_get runs lane ≡ Some run → IsRun run
run_at lanes [] are lane run at = absurd (let e = at in cc)
run_at [] (r ∷ runs) are lane run at = absurd are
run_at (ends ∷ lanes) (r ∷ runs) are zero run at = let e : r ≡ run = cc in let P : Run → Type 0 = λ x. IsRun x in subst P e are.1
run_at (ends ∷ lanes) (r ∷ runs) are (suc lane) run at = run_at lanes runs are.2 lane run at

-- what the log has of a lane is what the verdicts of its run bring
pub events_of_run : (runs : List Run) (log : LogState) → log.entries ≡ rounds_of runs → (lane : ℕ) (run : Run) → slice_get runs lane ≡ Some run → events_in lane log.entries ≡ events_from run.verdicts
events_of_run runs log entries lane run at =
    ap (events_in lane) entries ∙ of_lane (map (λ r. groups_of r.verdicts) runs) lane ∙ ap joined (list_of-runs runs lane run at) ∙ joined-groups run.verdicts

pub claims_of : (lanes : List Ends) (runs : List Run) (log : LogState) → AreRuns lanes runs → log.entries ≡ rounds_of runs → OfRuns runs (EndsWhole log) → OfRuns runs (Headline log)
claims_of lanes runs log are entries all_taken lane run at =
    headline_of run lane log (run_at lanes runs are lane run at) (events_of_run runs log entries lane run at) (all_taken lane run at)

-- it follows from what was taken of each lane, and from the order of what became of it
abbrev pub relayed_of : (lanes : List Ends) (runs : List Run) (log : LogState) → AreRuns lanes runs → log.entries ≡ rounds_of runs → OfRuns runs (EndsWhole log) → IsRelayed lanes log
relayed_of lanes runs log are entries all_taken = record {
  runs = runs;
  are = are;
  entries = entries;
  all_taken = all_taken;
  claims = claims_of lanes runs log are entries all_taken;
}

-- ---- the whole log is one list

-- all that a wire carries, and what becomes of it
abbrev pub run_over : Ends → List (List ℕ) → Run
run_over ends took = record {
  ends = ends;
  took = took;
  verdicts = (let start = ends.receiver.demand in verdicts ends.receiver.opener ends.nows start 0 took);
}

run_is : (run : Run) → IsRun run → (h : IsWholeRun run) → run ≡ run_over run.ends (wire h.emits.frames run.ends.source.plan)
run_is run is h =
    let start = run.ends.receiver.demand in
    let said : run.verdicts ≡ verdicts run.ends.receiver.opener run.ends.nows start 0 run.took =
    follow_same run.ends.receiver.opener run.ends.nows start 0 run.took run.verdicts h.emits.bytes is.judged in
    ap (λ (vs : List Verdict). let r : Run = record { ends = run.ends; took = run.took; verdicts = vs } in r) said
    ∙ ap (λ (w : List (List ℕ)). run_over run.ends w) h.emits.wire_is

same_run : (ends : Ends) (run other : Run) → run.ends ≡ ends → other.ends ≡ ends → IsRun run → IsRun other → IsWholeRun run → IsWholeRun other → run ≡ other
same_run ends run other e f is is-o h g =
    let P : List (List ℕ) → Ends → Type 0 = λ fs x. AreFrames x.source (records x.source) fs in
    let frames : h.emits.frames ≡ g.emits.frames =
    same_frames ends.source (records ends.source) h.emits.frames g.emits.frames (subst (P h.emits.frames) e h.emits.sealed) (subst (P g.emits.frames) f g.emits.sealed) in
    run_is run is h
    ∙ (ap (λ (x : Ends). run_over x (wire h.emits.frames x.source.plan)) (e ∙ sym f)
    ∙ (ap (λ (fs : List (List ℕ)). run_over other.ends (wire fs other.ends.source.plan)) frames ∙ sym (run_is other is-o g)))

abbrev pub AllWhole : List Run → Type 0
AllWhole runs = OfRuns runs (λ lane run. IsWholeRun run)

same_runs : (lanes : List Ends) (runs others : List Run) → AreRuns lanes runs → AreRuns lanes others → AllWhole runs → AllWhole others → runs ≡ others
same_runs [] [] [] a b h g = refl
same_runs [] [] (o ∷ os) a b h g = absurd b
same_runs [] (r ∷ rs) os a b h g = absurd a
same_runs (ends ∷ lanes) [] os a b h g = absurd a
same_runs (ends ∷ lanes) (r ∷ rs) [] a b h g = absurd b
same_runs (ends ∷ lanes) (r ∷ rs) (o ∷ os) a b h g =
    ap₂ (λ x xs. x ∷ xs) (same_run ends r o a.0 b.0 a.1 b.1 (h 0 r refl) (g 0 o refl))
    (same_runs lanes rs os a.2 b.2 (λ lane run at. h (suc lane) run at) (λ lane run at. g (suc lane) run at))

pub one_whole : (lanes : List Ends) (log other : LogState) (sents others : List Sent) → IsWhole lanes log sents → IsWhole lanes other others → (log.entries ≡ other.entries) × (sents ≡ others)
one_whole lanes log other sents others h g =
    let r = h.relayed in
    let o = g.relayed in (
      r.entries ∙ (ap rounds_of (same_runs lanes r.runs o.runs r.are o.are h.whole g.whole) ∙ sym o.entries),
      h.sealed ∙ sym g.sealed,
    )
