-- A failure passed on.
use Rattle.std.proofs.Common.{◌≡◌, Bool, true, false, Option, Some, None, option_map, Result, Ok, Err, IsErr, IfOk, ok_or, refl}
use Rattle.std.specs.Result.{IsErrAnd}
use Rattle.krb_job.specs.declared.place.Place.{Place}
use Rattle.krb_job.specs.declared.place.KeyError.{KeyError}
use Rattle.krb_job.specs.declared.place.KeyError.TheVariants as errors
use Rattle.toml.specs.Data.{Data, Members}
use Rattle.krb_base.specs.Steps.{◌>>=◌}
use Rattle.krb_job.specs.Checks.{RefusesAs, Gives}
use Rattle.krb_job.specs.Keys.{at_key, needed, barred, only_if, some}

-- an error that is passed on says of the checks what it said before
pub err_gives : {X Y : Type 0} (view : X → Y) (r : Result X KeyError) (e : KeyError) (checks : Result Y Place)
    → IsErr r × IsErrAnd r (λ x. x ≡ e) → RefusesAs e checks → Gives view r checks
err_gives view (Ok x) e checks same failed = absurd same.1
err_gives view (Err x) e checks same failed = rw same.1 failed

pub fails_within : {A B : Type 0} (e : KeyError) (part : Option A) (whole : Option B) (place : Place)
    → (part ≡ None → whole ≡ None) → RefusesAs e (ok_or part place) → RefusesAs e (ok_or whole place)
fails_within (errors.Bad p) None whole place passes failed = rw (passes refl) (let same : p ≡ place = cc in rw same refl)
fails_within (errors.Bad p) (Some x) whole place passes failed = absurd cc
fails_within errors.Memory part whole place passes failed = tt

-- what failed one reading fails the reading that contains it
pub err_within : {X Y A : Type 0} (view : X → Y) (r : Result X KeyError) (e : KeyError) (part : Option A) (whole : Option Y) (place : Place)
    → IsErr r × IsErrAnd r (λ x. x ≡ e) → (part ≡ None → whole ≡ None) → RefusesAs e (ok_or part place) → Gives view r (ok_or whole place)
err_within view r e part whole place same passes failed = err_gives view r e (ok_or whole place) same (fails_within e part whole place passes failed)

-- what a value isn't, it isn't as `Some`
some_fails : {A : Type 0} (o : Option A) → o ≡ None → option_map Some o ≡ None
some_fails o none = rw none

-- the same, of a value that is kept as `Some`
pub err_some : {X A : Type 0} (view : X → Option A) (r : Result X KeyError) (e : KeyError) (of : Data → Option A) (d : Data) (place : Place)
    → IsErr r × IsErrAnd r (λ x. x ≡ e) → RefusesAs e (ok_or (of d) place) → Gives view r (ok_or (some of d) place)
err_some view r e of d place same failed = err_within view r e (of d) (some of d) place same (some_fails (of d)) failed

module _ {A : Type 0} (absent : A) (place : Place) (of : Data → Option A) where
  needs : (o : Option Data) (p : Place) → ok_or (o >>= some Some) place ≡ Err p → ok_or (o >>= of) place ≡ Err p
  needs None p failed = let same : place ≡ p = cc in rw same refl
  needs (Some d) p failed = absurd cc

  bars : (o : Option Data) (p : Place) → barred {A = Option Data} None place o ≡ Err p → barred absent place o ≡ Err p
  bars None p failed = absurd cc
  bars (Some d) p failed = let same : place ≡ p = cc in rw same refl

  fails_if_allowed : (e : KeyError) (allowed : Bool) (ms : Members)
      → RefusesAs e (only_if allowed None place (needed place (some Some) ms) ms) → RefusesAs e (only_if allowed absent place (needed place of ms) ms)
  fails_if_allowed (errors.Bad p) true ms failed = needs (at_key place ms) p failed
  fails_if_allowed (errors.Bad p) false ms failed = bars (at_key place ms) p failed
  fails_if_allowed errors.Memory allowed ms failed = tt

  -- a key that isn't allowed, or is wanting, stands for nothing
  pub err_if_allowed : {X : Type 0} (view : X → A) (r : Result X KeyError) (e : KeyError) (allowed : Bool) (ms : Members)
      → IsErr r × IsErrAnd r (λ x. x ≡ e) → RefusesAs e (only_if allowed None place (needed place (some Some) ms) ms)
      → Gives view r (only_if allowed absent place (needed place of ms) ms)
  err_if_allowed view r e allowed ms same failed = err_gives view r e (only_if allowed absent place (needed place of ms) ms) same (fails_if_allowed e allowed ms failed)

-- what a value that has to be there isn't
module _ {X Y : Type 0} (view : X → Y) (r : Result X KeyError) (of : Data → Option Y) (place : Place) where
  unread : (o : Option Data) → (o >>= Some) ≡ None → (o >>= of) ≡ None
  unread None none = refl
  unread (Some d) none = absurd cc

  pub err_needed : (e : KeyError) (ms : Members)
      → IsErr r × IsErrAnd r (λ x. x ≡ e) → RefusesAs e (needed place Some ms) → Gives view r (needed place of ms)
  err_needed e ms same failed =
      err_within view r e (at_key place ms >>= Some) (at_key place ms >>= of) place same (unread (at_key place ms)) failed

  at_value : (o : Option Data) (d : Data) → ok_or (o >>= Some) place ≡ Ok d → Gives view r (ok_or (of d) place) → Gives view r (ok_or (o >>= of) place)
  at_value None d there gives = absurd cc
  at_value (Some x) d there gives = let same : x ≡ d = cc in rw same gives

  -- and what it is
  pub of_needed : (ms : Members) (d : Data) → needed place Some ms ≡ Ok d → Gives view r (ok_or (of d) place) → Gives view r (needed place of ms)
  of_needed ms d there gives = at_value (at_key place ms) d there gives

-- what the code refuses with the place's error
pub refused : {A : Type 0} (o : Option A) (e : KeyError) (place : Place)
    → ◌≡◌ {A = Result A KeyError} (Err e) (ok_or o (errors.Bad place)) → RefusesAs e (ok_or o place)
refused None e place is = let same : errors.Bad place ≡ e = cc in rw (← same) refl
refused (Some x) e place is = absurd cc

-- memory ran out
pub err_memory : {X Y : Type 0} (view : X → Y) (r : Result X KeyError) (checks : Result Y Place)
    → IsErr r × IsErrAnd r (λ x. x ≡ errors.Memory) → Gives view r checks
err_memory view r checks same = err_gives view r errors.Memory checks same tt

-- a failure has no value, so that anything holds of it
pub err_holds : {X E : Type 0} (P : X → Type 0) (r : Result X E) → IsErr r → IfOk r P
err_holds P (Ok x) failed = absurd cc
err_holds P (Err e) failed = tt

-- what the code answers with the place's error where there is no value
pub gives_or : {A : Type 0} (r : Result A KeyError) (o : Option A) (place : Place) → r ≡ ok_or o (errors.Bad place) → Gives (λ x. x) r (ok_or o place)
gives_or r None place is = rw is refl
gives_or r (Some x) place is = rw is refl
