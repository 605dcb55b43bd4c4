-- What holds of a refusal that a function hands on.
use Rattle.std.proofs.Common.{◌≡◌, Result, refl, arith, Ok, Err, sym, subst, inl, inr}
use Rattle.std.specs.Prelude.{◌⊎◌, IfErr, IsErrAnd}
use Rattle.krb_seal.specs.declared.refusal.Refusal.{Refusal}
use Rattle.krb_seal.specs.declared.refusal.Refusal.TheVariants.{FieldTooLong, Malformed, BadVersion, MsgType, EtypeNoSupp, BadIntegrity, InappCksum, BadAddr, Skew, BadOrder, Modified, BadRecord, AfterClose, Memory}
use Rattle.krb_seal.specs.Refusal.{code_of}
use Rattle.krb_structs.specs.declared.fault.Fault.{Fault}
use Rattle.krb_structs.specs.declared.fault.Fault.TheVariants.{Refused}

pub is_memory : {A : Type 0} (r : Refusal) → ◌≡◌ {A = Result A Refusal} (Err r) (Err Memory) → r ≡ Memory
is_memory r e = cc

pub but_memory : {A P : Type 0} (r : Refusal) → (◌≡◌ {A = Result A Refusal} (Err r) (Err Memory)) ⊎ P → ¬ (r ≡ Memory) → P
but_memory r (inl e) other = absurd (other (is_memory r e))
but_memory r (inr p) other = p

pub refused_as : {X : Type 0} (Why : Fault → Type 0) (r : Refusal) (result : Result X Fault) → Why (Refused r) → IsErrAnd result (λ f. f ≡ Refused r) → IfErr result Why
refused_as Why r (Ok x) why is = absurd is
refused_as Why r (Err f) why is = subst Why (sym is) why

-- the refusal of this number is BADORDER
pub is_order : (r : Refusal) → code_of r ≡ 42 → r ≡ BadOrder
is_order FieldTooLong e = absurd (omega arith)
is_order Malformed e = absurd (omega arith)
is_order BadVersion e = absurd (omega arith)
is_order MsgType e = absurd (omega arith)
is_order EtypeNoSupp e = absurd (omega arith)
is_order BadIntegrity e = absurd (omega arith)
is_order InappCksum e = absurd (omega arith)
is_order BadAddr e = absurd (omega arith)
is_order Skew e = absurd (omega arith)
is_order BadOrder e = refl
is_order Modified e = absurd (omega arith)
is_order BadRecord e = absurd (omega arith)
is_order AfterClose e = absurd (omega arith)
is_order Memory e = absurd (omega arith)
