-- One check after the other: the first that fails decides.
use Rattle.std.specs.Prelude.{◌≡◌, Result, Ok, Err}
use Rattle.krb_job.specs.declared.place.Place.{Place}
use Rattle.krb_job.specs.declared.place.KeyError.{KeyError}
use Rattle.krb_job.specs.declared.place.KeyError.TheVariants as errors

infixl 10 ◌>>=◌
abbrev pub ◌>>=◌ : {A B E : Type 0} → Result A E → (A → Result B E) → Result B E
(Ok x) >>= f = f x
(Err e) >>= f = Err e

-- what a function answered is what the checks give, unless memory ran out
abbrev pub RefusesAs : {Y : Type 0} → KeyError → Result Y Place → Type 0
RefusesAs (errors.Bad place) checks = checks ≡ Err place
RefusesAs errors.Memory checks = Unit {0}

abbrev pub Gives : {X Y : Type 0} → (X → Y) → Result X KeyError → Result Y Place → Type 0
Gives view (Ok x) checks = checks ≡ Ok (view x)
Gives view (Err e) checks = RefusesAs e checks
