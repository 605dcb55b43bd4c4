-- What follows from which fault it is.
use Rattle.std.proofs.Common.{◌≡◌, ℕ, Option, List, Result, Ok, Err, IfOk, IfErr, inl, sym, subst}
use Rattle.std.specs.Prelude.{OnErr, IsErrAnd, ◌⊎◌}
use Rattle.std.specs.Io.KnownBytes.{Keeps}
use Rattle.std.proofs.KnownBytes.{Keeps-refl}
use Rattle.krb_job.specs.declared.bad_input.BadInput.{BadInput}
use Rattle.krb_commands.specs.declared.fault.Fault.{Fault}
use Rattle.krb_commands.specs.declared.fault.Fault.TheVariants as fault

-- a fault of which this is known
pub if_fault : {X : Type 0} (r : Result X Fault) (e : Fault) (P : Fault → Type 0) → IsErrAnd r (λ f. f ≡ e) → P e → IfErr r P
if_fault (Ok x) e P is p = absurd is
if_fault (Err f) e P is p = subst P (sym is) p

pub no_value : {X : Type 0} (r : Result X Fault) (e : Fault) → IsErrAnd r (λ f. f ≡ e) → (P : X → Type 0) → IfOk r P
no_value (Ok x) e is P = absurd is
no_value (Err f) e is P = tt

pub named_fault : {X : Type 0} (r : Result X Fault) (e : Fault) → IsErrAnd r (λ f. f ≡ e) → (other : Fault) → r ≡ Err other → other ≡ e
named_fault {X} r e is other named = let P : Result X Fault → Type 0 = λ x. IsErrAnd x (λ f. f ≡ e) in subst P named is

-- out of memory
pub no_bad : {X : Type 0} (r : Result X Fault) → IsErrAnd r (λ f. f ≡ fault.Memory) → (b : BadInput) → r ≡ Err (fault.BadInput b) → ⊥
no_bad r is b e = let n : fault.BadInput b ≡ fault.Memory = named_fault r fault.Memory is (fault.BadInput b) e in cc

-- nothing was written
pub nothing_written : {X : Type 0} (r : Result X Fault) (a : Option (List ℕ)) (Q : Type 0) → OnErr r (Keeps a a ⊎ Q)
nothing_written (Ok x) a Q = tt
nothing_written (Err f) a Q = inl (Keeps-refl a)
