-- A lane and its run, and what a fault says of them.
use Rattle.std.proofs.Common.{◌≡◌, ℕ, zero, suc, ◌<◌, true, List, [], ◌∷◌, slice_get, Some, ◌⊎◌, inl, inr, refl, sym, ap, subst, ◌∙◌}
use Rattle.krb_peers.specs.Ends.{Ends}
use Rattle.krb_peers.specs.LogState.{LogState}
use Rattle.krb_peers.specs.Run.{Run, AreRuns}
use Rattle.krb_peers.specs.Wire.{IsWire, IsBad}
use Rattle.krb_relay.specs.declared.cause.Cause.{Cause}
use Rattle.krb_relay.specs.declared.cause.Cause.TheVariants.{BadPlan, Wiped}
use Rattle.krb_relay.specs.Laws.{IsOfSender}
use Rattle.krb_relay.specs.Relayed.{IsLeast, NamesLeast, StopsRelay}

pub run_there : (lanes : List Ends) (runs : List Run) → AreRuns lanes runs → (lane : ℕ) (run : Run) → slice_get runs lane ≡ Some run → slice_get lanes lane ≡ Some run.ends
run_there [] [] are lane run at = absurd (let e = at in cc)
run_there [] (r ∷ runs) are lane run at = absurd are
run_there (ends ∷ lanes) [] are lane run at = absurd are
run_there (ends ∷ lanes) (r ∷ runs) are zero run at =
    let e : r ≡ run = cc in
    ap (λ x. Some x) (sym are.0 ∙ ap (λ (x : Run). x.ends) e)
run_there (ends ∷ lanes) (r ∷ runs) are (suc lane) run at = run_there lanes runs are.2 lane run at

pub ends_there : (lanes : List Ends) (runs : List Run) → AreRuns lanes runs → (lane : ℕ) (ends : Ends) → slice_get lanes lane ≡ Some ends → (run : Run) × (slice_get runs lane ≡ Some run) × (run.ends ≡ ends)
ends_there [] runs are lane ends at = absurd (let e = at in cc)
ends_there (first ∷ lanes) [] are lane ends at = absurd are
ends_there (first ∷ lanes) (r ∷ runs) are zero ends at =
    let e : first ≡ ends = cc in
    (r, refl, are.0 ∙ e)
ends_there (first ∷ lanes) (r ∷ runs) are (suc lane) ends at = ends_there lanes runs are.2 lane ends at

-- ---- the lane that is named

module _ (lanes : List Ends) (log : LogState) (lane : ℕ) where
  pub plan_is_bad : StopsRelay lanes log lane BadPlan → (ends : Ends) × (slice_get lanes lane ≡ Some ends) × IsBad ends.source
  plan_is_bad h =
      let l : IsLeast (h.relayed.runs) lane BadPlan = h.names in
      (l.run.ends, run_there lanes h.relayed.runs h.relayed.are lane l.run l.named, l.reason.1)

  pub sealer_was_wiped : StopsRelay lanes log lane Wiped → (ends : Ends) × (slice_get lanes lane ≡ Some ends) × (ends.source.sealer.wiped ≡ true)
  sealer_was_wiped h =
      let l : IsLeast (h.relayed.runs) lane Wiped = h.names in
      (l.run.ends, run_there lanes h.relayed.runs h.relayed.are lane l.run l.named, l.reason.0)

-- the run that a fault names is the one at that place
same_run : (runs : List Run) (lane : ℕ) (mine run : Run) → slice_get runs lane ≡ Some mine → slice_get runs lane ≡ Some run → mine ≡ run
same_run runs lane mine run a b = let e : Some mine ≡ Some run = sym a ∙ b in cc

nothing_by : (runs : List Run) (lane : ℕ) (cause : Cause) → IsOfSender cause → NamesLeast runs lane cause → (run : Run) → slice_get runs lane ≡ Some run → run.took ≡ []
nothing_by runs lane BadPlan of names run at =
    let l : IsLeast runs lane BadPlan = names in
    subst (λ (r : Run). r.took ≡ []) (same_run runs lane l.run run l.named at) l.reason.2
nothing_by runs lane Wiped of names run at =
    let l : IsLeast runs lane Wiped = names in
    subst (λ (r : Run). r.took ≡ []) (same_run runs lane l.run run l.named at) l.reason.1
nothing_by runs lane cause (inl is) names run at = absurd (let e = is in cc)
nothing_by runs lane cause (inr is) names run at = absurd (let e = is in cc)

below_by : (runs : List Run) (lane : ℕ) (cause : Cause) → IsOfSender cause → NamesLeast runs lane cause → (other : ℕ) (run : Run) → other < lane → slice_get runs other ≡ Some run → IsWire run.ends.source run.took
below_by runs lane BadPlan of names other run lt at = let l : IsLeast runs lane BadPlan = names in (l.below other run lt at).emits
below_by runs lane Wiped of names other run lt at = let l : IsLeast runs lane Wiped = names in (l.below other run lt at).emits
below_by runs lane cause (inl is) names other run lt at = absurd (let e = is in cc)
below_by runs lane cause (inr is) names other run lt at = absurd (let e = is in cc)

module _ (lanes : List Ends) (log : LogState) (lane : ℕ) (cause : Cause) (of : IsOfSender cause) (stops : StopsRelay lanes log lane cause) where
  pub nothing_taken : (run : Run) → slice_get (stops.relayed.runs) lane ≡ Some run → run.took ≡ []
  nothing_taken = nothing_by stops.relayed.runs lane cause of stops.names

  pub all_below : (other : ℕ) (run : Run) → other < lane → slice_get (stops.relayed.runs) other ≡ Some run → IsWire run.ends.source run.took
  all_below = below_by stops.relayed.runs lane cause of stops.names
