-- Opening a frame into a buffer, which may be the frame's own.
use Rattle.std.specs.Prelude.{ℕ, ◌≡◌, ◌≤◌, List, length, take, drop, Result, Ok, IfOk, OnErr}
use Rattle.krb_structs.specs.declared.fault.Fault.{Fault}
use Rattle.krb_structs.specs.declared.moment.KrbMoment.{KrbMoment}
use Rattle.krb_structs.specs.Fault.{answer_of}
use Rattle.krb_structs.specs.Moment.{micros_of}
use Rattle.krb_structs.specs.Opening.{HeldOpener, OpensTo}
use Rattle.krb_structs.specs.Reasons.{OpenAnswer}

-- The answer is the size of the user data, which the buffer begins with now. What is after them
-- stays, and all that it had before if nothing is opened.
pub record UnsealsInto (opener : HeldOpener) (number : ℕ) (at : KrbMoment)
    (frame before now : List ℕ) (result : Result ℕ Fault) : Type 0 where
  pub opened : IfOk result
      (λ size. OpensTo opener number (micros_of at) frame (Ok (take size now)))
  pub size : IfOk result (λ size. size ≤ length now)
  pub rest : IfOk result (λ size. drop size now ≡ drop size before)
  pub kept : OnErr result (now ≡ before)
  pub answer : OpenAnswer opener number at frame (length before) (answer_of result)
