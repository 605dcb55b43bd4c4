-- What a check was given, where it gave something.
use Rattle.std.proofs.Common.{◌≡◌, Bool, true, false, cond, Option, Some, None, Result, Ok, Err, ok_or, refl, ap}
use Rattle.toml.specs.Data.{Data, Members}
use Rattle.krb_job.specs.declared.place.Place.{Place}
use Rattle.krb_base.specs.Steps.{◌>>=◌}
use Rattle.krb_base.proofs.OptionSteps.{bind_some}
use Rattle.krb_job.specs.Checks.{◌>>=◌ as ◌then◌}
use Rattle.krb_job.specs.Keys.{at_key, needed, barred}

-- a check after which there is a value was passed
pub checked : {A B E : Type 0} (r : Result A E) (f : A → Result B E) (y : B) → (r then f) ≡ Ok y → (x : A) × (r ≡ Ok x) × (f x ≡ Ok y)
checked (Err fault) f y e = absurd cc
checked (Ok x) f y e = (x, refl, e)

-- a value in place of a fault
pub given : {A E : Type 0} (o : Option A) (fault : E) (x : A) → ok_or o fault ≡ Ok x → o ≡ Some x
given None fault x e = absurd cc
given (Some y) fault x e = let same : y ≡ x = cc in ap Some same

-- a value that is there passed its test
pub within : {A : Type 0} (fits : Bool) (value x : A) → cond fits (Some value) None ≡ Some x → (fits ≡ true) × (value ≡ x)
within true value x e = (refl, cc)
within false value x e = absurd cc

-- the value of a key that has to be there
pub value_at : {A : Type 0} (place : Place) (of : Data → Option A) (ms : Members) (x : A) → needed place of ms ≡ Ok x → (d : Data) × (of d ≡ Some x)
value_at place of ms x e = let b = bind_some (at_key place ms) of x (given (at_key place ms >>= of) place x e) in (b.0, b.2)

-- a key that may not be there
pub barred-absent : {A : Type 0} (absent : A) (place : Place) (o : Option Data) (x : A) → barred absent place o ≡ Ok x → absent ≡ x
barred-absent absent place None x e = cc
barred-absent absent place (Some d) x e = absurd cc
