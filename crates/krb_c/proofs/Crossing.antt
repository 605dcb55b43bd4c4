-- What lies behind a pointer may cross threads where its type may.
use Prim.Native.Nat.{ℕ}
use mir.Raw.{raw}
use base.Shift.{Keyless}
use base.Fraction.{full_share}
use denote.Exit.{Exit, unchanged, leaves, hidden, under}
use denote.RattleType.{RattleType}
use denote.RawPtr.{Ptr, block_ptr, null_ptr, lies_at}
use denote.Memory.{lone}
use denote.Param.Send.{IsSend, Quiet, part_keyless}
use Rattle.std.specs.Prelude.{Option, Some, None}
use Rattle.std.proofs.Crossing as crossing
use Rattle.krb_c.specs.Held.{heap, owns}

pub lies_keyless : (R : RattleType) → IsSend R → (at : Ptr) (x : R.Denot) → Keyless (lies_at R full_share at x)
lies_keyless R send (block_ptr b o) x = part_keyless R send full_share x b o
lies_keyless R send null_ptr x = tt

pub exit_quiet : {D X : Type 0} (seen : D → X) (e : Exit X) → Quiet e → Quiet (hidden (under seen e))
exit_quiet seen unchanged q = λ x w. tt
exit_quiet seen (leaves L l S s r) q = λ d. q (seen d)

-- what a handle owns names no thread: the value of a box, and the right to free its block
pub owned_keyless : (T : RattleType) → IsSend T → (at : Ptr) (count : ℕ) (held : Option T.Denot) → Keyless (owns T at count held)
owned_keyless T send at count None = tt
owned_keyless T send at count (Some x) = (tt, (lies_keyless T send at x, crossing.frees.frees heap (raw (lone T.mir)) at))
