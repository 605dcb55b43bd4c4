-- Why a relay stops of senders that were not wiped.
use Rattle.std.proofs.Common.{◌≡◌, ℕ, zero, suc, true, false, List, [], ◌∷◌, slice_get, Some, ◌⊎◌, inl, inr, refl, sym, ap, subst, ◌∙◌, arith}
use Rattle.std.specs.Prelude.{All}
use Rattle.krb_job.specs.declared.bad_input.BadInput.{BadInput}
use Rattle.krb_seal.specs.Sealer.{SealerState}
use Rattle.krb_peers.specs.declared.receiver.Receiving.{Receiving}
use Rattle.krb_peers.specs.declared.sending.Sending.{Sending}
use Rattle.krb_peers.specs.Ends.{Ends, ends_of, lanes_of}
use Rattle.krb_peers.specs.LogState.{LogState}
use Rattle.krb_peers.specs.Run.{Run}
use Rattle.krb_peers.specs.Wire.{IsWire}
use Rattle.krb_relay.specs.declared.cause.Cause.{Cause}
use Rattle.krb_relay.specs.declared.cause.Cause.TheVariants.{Memory, Spawn, Lost, BadPlan, Wiped}
use Rattle.krb_relay.specs.Relayed.{IsLeast, StopsRelay}
use Rattle.krb_relay.proofs.RunLemmas.{ends_there, run_there}
use Rattle.krb_commands.specs.declared.fault.Fault.{Fault}
use Rattle.krb_commands.specs.declared.fault.Fault.TheVariants as fault
use Rattle.krb_commands.specs.Fault.{bad_plan, IsOfPrinting}
use Rattle.krb_program.specs.RelayFault.{of_relay, IsLiveCause, IsOfRelaying}
use Rattle.krb_program.specs.Relayed.{HasBadPlanFirst}

-- ---- a plan that is named

first_bad_plan : (lanes : List Ends) (log : LogState) (lane : ℕ) → StopsRelay lanes log lane BadPlan → HasBadPlanFirst lanes lane
first_bad_plan lanes log lane h =
    let r = h.relayed in
    let l : IsLeast r.runs lane BadPlan = h.names in
    record {
      ends = l.run.ends;
      there = run_there lanes r.runs r.are lane l.run l.named;
      bad = l.reason.1;
      before = λ other its lt at.
          let found = ends_there lanes r.runs r.are other its at in
          let whole = l.below other found.0 lt found.1 in
          let P : Ends → Type 0 = λ e. IsWire e.source (found.0).took in
          ((found.0).took, subst P found.2 whole.emits);
    }

-- ---- senders that were not wiped

live_at : {S : Type 0} (state : S → SealerState) (sendings : List (Sending S)) (receivings : List Receiving) → All (λ s. (state s.sealer).wiped ≡ false) sendings
    → (lane : ℕ) (ends : Ends) → slice_get (lanes_of state sendings receivings) lane ≡ Some ends → ends.source.sealer.wiped ≡ false
live_at state [] receivings live lane ends at = absurd (let e = at in cc)
live_at state (s ∷ ss) [] live lane ends at = absurd (let e = at in cc)
live_at state (s ∷ ss) (r ∷ rs) live zero ends at =
    let same : ends_of state (s, r) ≡ ends = cc in
    let P : Ends → Type 0 = λ e. e.source.sealer.wiped ≡ false in
    subst P same (live 0 s (omega arith))
live_at state (s ∷ ss) (r ∷ rs) live (suc lane) ends at = live_at state ss rs (λ k d lt. live (suc k) d (omega arith)) lane ends at

module _ {S : Type 0} (state : S → SealerState) (sendings : List (Sending S)) (receivings : List Receiving) (live : All (λ s. (state s.sealer).wiped ≡ false) sendings) where
  pub live_cause : (log : LogState) (lane : ℕ) (cause : Cause) → StopsRelay (lanes_of state sendings receivings) log lane cause → IsLiveCause cause
  live_cause log lane Memory h = tt
  live_cause log lane Spawn h = tt
  live_cause log lane Lost h = tt
  live_cause log lane BadPlan h = tt
  live_cause log lane Wiped h =
      let r = h.relayed in
      let l : IsLeast r.runs lane Wiped = h.names in
      let flag : l.run.ends.source.sealer.wiped ≡ false = live_at state sendings receivings live lane l.run.ends (run_there (lanes_of state sendings receivings) r.runs r.are lane l.run l.named) in
      let e : true ≡ false = sym (l.reason.0) ∙ flag in
      cc

none_printed : (reported : Fault) (bad : BadInput) → reported ≡ fault.BadInput bad → IsOfPrinting reported → ⊥
none_printed reported bad is h = subst IsOfPrinting is h

-- where bad input is reported, it is that plan
pub names_bad_plan : (lanes : List Ends) (log : LogState) (lane : ℕ) (cause : Cause) (reported : Fault) (bad : BadInput) → StopsRelay lanes log lane cause → (lines : ℕ) (Part : Type 0) → (reported ≡ of_relay cause lane lines) ⊎ (IsOfPrinting reported × Part) → reported ≡ fault.BadInput bad
    → (at : ℕ) × (bad ≡ bad_plan at) × HasBadPlanFirst lanes at
names_bad_plan lanes log lane cause reported bad h lines Part (inr printing) named = absurd (none_printed reported bad named printing.0)
names_bad_plan lanes log lane Memory reported bad h lines Part (inl is) named = absurd (let e : fault.Stopped lines ≡ fault.BadInput bad = sym is ∙ named in cc)
names_bad_plan lanes log lane Spawn reported bad h lines Part (inl is) named = absurd (let e : fault.Thread lines ≡ fault.BadInput bad = sym is ∙ named in cc)
names_bad_plan lanes log lane Lost reported bad h lines Part (inl is) named = absurd (let e : fault.Thread lines ≡ fault.BadInput bad = sym is ∙ named in cc)
names_bad_plan lanes log lane BadPlan reported bad h lines Part (inl is) named =
    (lane, (let e : fault.BadInput (bad_plan lane) ≡ fault.BadInput bad = sym is ∙ named in let f : bad_plan lane ≡ bad = cc in sym f), first_bad_plan lanes log lane h)
names_bad_plan lanes log lane Wiped reported bad h lines Part (inl is) named = absurd (let e : fault.Memory ≡ fault.BadInput bad = sym is ∙ named in cc)

-- ---- the fault by its cause

module _ (lane n : ℕ) where
  pub cause_relaying : (cause : Cause) → IsOfRelaying (of_relay cause lane n)
  cause_relaying Memory = tt
  cause_relaying Spawn = tt
  cause_relaying Lost = tt
  cause_relaying BadPlan = tt
  cause_relaying Wiped = tt

  pub bad_cause : (cause : Cause) (bad : BadInput) → of_relay cause lane n ≡ fault.BadInput bad → cause ≡ BadPlan
  bad_cause Memory bad is = absurd (let e : fault.Stopped n ≡ fault.BadInput bad = is in cc)
  bad_cause Spawn bad is = absurd (let e : fault.Thread n ≡ fault.BadInput bad = is in cc)
  bad_cause Lost bad is = absurd (let e : fault.Thread n ≡ fault.BadInput bad = is in cc)
  bad_cause BadPlan bad is = refl
  bad_cause Wiped bad is = absurd (let e : fault.Memory ≡ fault.BadInput bad = is in cc)

  pub stopped_lines : (cause : Cause) (lines : ℕ) → of_relay cause lane n ≡ fault.Stopped lines → lines ≡ n
  stopped_lines Memory lines is = let e : fault.Stopped n ≡ fault.Stopped lines = is in cc
  stopped_lines Spawn lines is = absurd (let e : fault.Thread n ≡ fault.Stopped lines = is in cc)
  stopped_lines Lost lines is = absurd (let e : fault.Thread n ≡ fault.Stopped lines = is in cc)
  stopped_lines BadPlan lines is = absurd (let e : fault.BadInput (bad_plan lane) ≡ fault.Stopped lines = is in cc)
  stopped_lines Wiped lines is = absurd (let e : fault.Memory ≡ fault.Stopped lines = is in cc)

  pub lost_lines : (cause : Cause) (lines : ℕ) → of_relay cause lane n ≡ fault.Thread lines → lines ≡ n
  lost_lines Memory lines is = absurd (let e : fault.Stopped n ≡ fault.Thread lines = is in cc)
  lost_lines Spawn lines is = let e : fault.Thread n ≡ fault.Thread lines = is in cc
  lost_lines Lost lines is = let e : fault.Thread n ≡ fault.Thread lines = is in cc
  lost_lines BadPlan lines is = absurd (let e : fault.BadInput (bad_plan lane) ≡ fault.Thread lines = is in cc)
  lost_lines Wiped lines is = absurd (let e : fault.Memory ≡ fault.Thread lines = is in cc)
