-- What is told of a frame that is refused.
use Rattle.std.proofs.Common.{◌≡◌, ℕ, List, length, Some, refl, sym, ap, subst, ◌∙◌}
use Rattle.krb_peers.specs.ReceiverState.{ReceiverState}
use Rattle.krb_seal.specs.declared.refusal.Refusal.TheVariants.{BadOrder}
use Rattle.krb_structs.specs.declared.fault.Fault.{Fault}
use Rattle.krb_structs.specs.declared.fault.Fault.TheVariants.{Refused}
use Rattle.krb_structs.specs.declared.moment.KrbMoment.{KrbMoment}
use Rattle.krb_structs.specs.Fault.{fault_code}
use Rattle.krb_structs.specs.Moment.{micros_of}
use Rattle.krb_structs.specs.Number.{TellsItsNumber}
use Rattle.krb_structs.specs.Reasons.{TakeAnswer}
use Rattle.krb_calls.specs.declared.taken.KrbTaken.{KrbTaken}
use Rattle.krb_calls.specs.Takes.{Takes}

pub refused : (old new : ReceiverState) (at : KrbMoment) (frame out new_out : List ℕ) (before : KrbTaken) (fault : Fault) (code number : ℕ)
    → code ≡ fault_code fault → ¬ (code ≡ 0) → TakeAnswer (Some old) at frame (length out) (fault_code fault)
    → (fault_code fault ≡ 42 → TellsItsNumber old.opener (micros_of at) frame number) → (¬ (fault ≡ Refused BadOrder) → number ≡ before.number)
    → new ≡ old → new_out ≡ out
    → Takes old at frame before out new (record { answer = code; kind = before.kind; size = before.size; number = number }) new_out
refused old new at frame out new_out before fault code number is not_zero answer misordered untold same kept = record {
  answer = subst (λ (z : ℕ). TakeAnswer (Some old) at frame (length out) z) (sym is) answer;
  accepted = λ e. absurd (not_zero e);
  size = λ e. absurd (not_zero e);
  rest = λ e. absurd (not_zero e);
  number = λ e. absurd (not_zero e);
  misordered = λ e. misordered (sym is ∙ e);
  unchanged = λ _. same;
  out_kept = λ _. kept;
  size_kept = λ _. refl;
  kind_kept = λ _. refl;
  number_kept = λ _ other. untold (λ e. other (is ∙ ap fault_code e));
}
