-- What holds of a size that is told.
use Rattle.std.proofs.Common.{◌≡◌, ℕ, Result, Ok, subst}
use Rattle.std.specs.Prelude.{IfOk}
use Rattle.krb_structs.specs.declared.fault.Fault.{Fault}

pub on_told : (P : ℕ → Type 0) (made : Result ℕ Fault) (size : ℕ) → made ≡ Ok size → IfOk made P → P size
on_told P made size is h = subst (λ (z : Result ℕ Fault). IfOk z P) is h
