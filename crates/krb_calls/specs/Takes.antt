-- What taking several frames in one call gives: what one call after another gives.
use Rattle.std.specs.Prelude.{◌≡◌, ℕ, ◌≤◌, ◌==◌, List, [], ◌∷◌, ◌++◌, length, take, drop, Some, if◌then◌else◌}
use Rattle.krb_peers.specs.ReceiverState.{ReceiverState}
use Rattle.krb_structs.specs.declared.moment.KrbMoment.{KrbMoment}
use Rattle.krb_structs.specs.Moment.{micros_of}
use Rattle.krb_structs.specs.Number.{TellsItsNumber}
use Rattle.krb_structs.specs.Reasons.{TakeAnswer}
use Rattle.krb_structs.specs.Record.{Accepts}
use Rattle.krb_calls.specs.declared.frame.KrbFrame.{KrbFrame}
use Rattle.krb_calls.specs.declared.taken.KrbTaken.{KrbTaken}

-- What a call that takes one frame with its number leaves, and tells where something was told before: what
-- the export for one frame promises, clause by clause.
pub record Takes (old : ReceiverState) (at : KrbMoment) (frame : List ℕ) (before : KrbTaken)
    (old_out : List ℕ) (new : ReceiverState) (told : KrbTaken) (new_out : List ℕ) : Type 0 where
  pub answer : TakeAnswer (Some old) at frame (length old_out) told.answer
  pub accepted : told.answer ≡ 0
      → Accepts old (micros_of at) frame told.kind (take told.size new_out) new
  pub size : told.answer ≡ 0 → told.size ≤ length new_out
  pub rest : told.answer ≡ 0 → drop told.size new_out ≡ drop told.size old_out
  pub number : told.answer ≡ 0 → told.number ≡ old.demand.expected
  pub misordered : told.answer ≡ 42
      → TellsItsNumber old.opener (micros_of at) frame told.number
  pub unchanged : ¬ (told.answer ≡ 0) → new ≡ old
  pub out_kept : ¬ (told.answer ≡ 0) → new_out ≡ old_out
  pub size_kept : ¬ (told.answer ≡ 0) → told.size ≡ before.size
  pub kind_kept : ¬ (told.answer ≡ 0) → told.kind ≡ before.kind
  pub number_kept : ¬ (told.answer ≡ 0) → ¬ (told.answer ≡ 42) → told.number ≡ before.number

-- How much of the buffer a frame takes.
abbrev pub used : KrbTaken → ℕ
used told = if told.answer == 0 then told.size else 0

-- Frames are taken one after another, each with the part of the buffer that those before it leave. Of the
-- last two lists of bytes the first is the buffer before, and the second the buffer afterwards.
abbrev pub TakesInTurn : ReceiverState → KrbMoment → List KrbFrame → List KrbTaken → List ℕ
    → ReceiverState → List KrbTaken → List ℕ → Type 0
TakesInTurn old at [] before old_out new told new_out =
    (new ≡ old) × (told ≡ before) × (new_out ≡ old_out)
TakesInTurn old at (f ∷ fs) [] old_out new told new_out = ⊥
TakesInTurn old at (f ∷ fs) (b ∷ bs) old_out new [] new_out = ⊥
TakesInTurn old at (f ∷ fs) (b ∷ bs) old_out new (t ∷ ts) new_out =
    (next : ReceiverState) × (written : List ℕ) × (rest : List ℕ)
    × Takes old at f.bytes.now b old_out next t written
    × TakesInTurn next at fs bs (drop (used t) written) new ts rest
    × (new_out ≡ take (used t) written ++ rest)
