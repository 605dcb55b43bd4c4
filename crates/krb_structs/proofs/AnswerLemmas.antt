-- What writing the text of an answer gives.
use Rattle.std.proofs.Common.{◌≡◌, ℕ, ◌+◌, ◌<◌, List, [], ◌∷◌, ◌++◌, length, take, Result, Ok, Err, inr}
use Rattle.std.specs.Prelude.{IfOk}
use Rattle.krb_structs.specs.declared.fault.Fault.{Fault}
use Rattle.krb_structs.specs.declared.fault.Fault.TheVariants.{Room}
use Rattle.krb_structs.specs.Answers.{IsTextOf, IsWritten}
use Rattle.krb_structs.specs.Fault.{IsDone, Needs}
use Rattle.krb_structs.specs.Reasons.{TextAnswer}

pub text_written : (text : Fault → List ℕ) (ok : List ℕ) (code : ℕ) (bytes : List ℕ) (r : Result ℕ Fault) (out : List ℕ) → IsTextOf text ok code bytes
    → IfOk r (λ size. size ≡ length bytes) → IfOk r (λ size. take (size + 1) out ≡ bytes ++ 0 ∷ []) → IfOk r (λ size. IsWritten text ok code size out)
text_written text ok code bytes (Ok size) out t long is = (bytes, t, long, is)
text_written text ok code bytes (Err f) out t long is = tt

pub text_answer : (text : Fault → List ℕ) (ok : List ℕ) (number room : ℕ) (bytes : List ℕ) (code : ℕ) → IsTextOf text ok number bytes → Needs (length bytes < room) Room IsDone code
    → TextAnswer text ok number room code
text_answer text ok number room bytes code t h = inr (bytes, t, h)
