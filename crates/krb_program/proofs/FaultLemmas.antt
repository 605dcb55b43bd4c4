-- What follows from which fault it is, of a relay.
use Rattle.std.proofs.Common.{◌≡◌, ℕ, Result, Ok, Err, IfErr, subst}
use Rattle.std.specs.Prelude.{IsErrAnd}
use Rattle.krb_commands.specs.declared.fault.Fault.{Fault}
use Rattle.krb_commands.specs.declared.fault.Fault.TheVariants as fault
use Rattle.krb_commands.specs.Fault.{IsOfPrinting}
use Rattle.krb_commands.proofs.FaultLemmas.{named_fault}
use Rattle.krb_program.specs.RelayFault.{IsOfRelaying}

pub same_fault : {X : Type 0} (r : Result X Fault) (e other : Fault) → e ≡ other → IsErrAnd r (λ f. f ≡ e) → IsErrAnd r (λ f. f ≡ other)
same_fault r e other same is = let P : Fault → Type 0 = λ x. IsErrAnd r (λ f. f ≡ x) in subst P same is

-- ---- out of memory

module _ {X : Type 0} (r : Result X Fault) (is : IsErrAnd r (λ f. f ≡ fault.Memory)) where
  pub no_stopped : (lines : ℕ) → r ≡ Err (fault.Stopped lines) → ⊥
  no_stopped lines e = let n : fault.Stopped lines ≡ fault.Memory = named_fault r fault.Memory is (fault.Stopped lines) e in cc

  pub no_thread : (lines : ℕ) → r ≡ Err (fault.Thread lines) → ⊥
  no_thread lines e = let n : fault.Thread lines ≡ fault.Memory = named_fault r fault.Memory is (fault.Thread lines) e in cc

-- ---- a fault of printing

pub printing_relaying : (f : Fault) → IsOfPrinting f → IsOfRelaying f
printing_relaying fault.TooLong h = absurd h
printing_relaying (fault.BadInput b) h = absurd h
printing_relaying (fault.Key k) h = absurd h
printing_relaying fault.Memory h = tt
printing_relaying (fault.Stopped lines) h = absurd h
printing_relaying (fault.Thread lines) h = absurd h
printing_relaying fault.Read h = absurd h
printing_relaying fault.Write h = tt

pub all_relaying : {X : Type 0} (r : Result X Fault) → IfErr r IsOfPrinting → IfErr r IsOfRelaying
all_relaying (Ok x) h = tt
all_relaying (Err f) h = printing_relaying f h

-- a fault that is named is one of printing too
pub printing_named : {X : Type 0} (r : Result X Fault) → IfErr r IsOfPrinting → (other : Fault) → r ≡ Err other → IsOfPrinting other
printing_named {X} r h other named = let P : Result X Fault → Type 0 = λ x. IfErr x IsOfPrinting in subst P named h
