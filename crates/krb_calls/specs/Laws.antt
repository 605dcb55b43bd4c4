-- Laws of frames that are taken in one call.
use Rattle.std.specs.Prelude.{◌≡◌, ℕ, ◌+◌, ◌==◌, List, length, take, Some, slice_get}
use Rattle.std.specs.List.{count_by}
use Rattle.krb_peers.specs.ReceiverState.{ReceiverState}
use Rattle.krb_structs.specs.declared.moment.KrbMoment.{KrbMoment}
use Rattle.krb_calls.specs.declared.frame.KrbFrame.{KrbFrame}
use Rattle.krb_calls.specs.declared.taken.KrbTaken.{KrbTaken}
use Rattle.krb_calls.specs.Takes.{TakesInTurn}

-- how many of them were accepted
abbrev pub accepted_in : List KrbTaken → ℕ
accepted_in told = count_by (λ (t : KrbTaken). t.answer == 0) told

-- Those that are accepted have one number after another, from the number on that the receiver demanded; and it demands
-- the next one then, whatever came between them.
abbrev pub NumbersInTurn : Type 0
NumbersInTurn =
    (old : ReceiverState) (at : KrbMoment) (fs : List KrbFrame) (before : List KrbTaken) (old_out : List ℕ)
    (new : ReceiverState) (told : List KrbTaken) (new_out : List ℕ)
    → length fs ≡ length before → TakesInTurn old at fs before old_out new told new_out
    → (new.demand.expected ≡ old.demand.expected + accepted_in told)
    × ((k : ℕ) (t : KrbTaken) → slice_get told k ≡ Some t → t.answer ≡ 0
    → t.number ≡ old.demand.expected + accepted_in (take k told))
