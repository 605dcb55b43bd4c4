-- Of taking several frames by a handle.
use Rattle.std.specs.Prelude.{◌≡◌, ◌≤◌, ℕ, List, Option, Some, None}
use Rattle.krb_peers.specs.ReceiverState.{ReceiverState}
use Rattle.krb_structs.specs.declared.fault.Fault.TheVariants.{Argument, Empty}
use Rattle.krb_structs.specs.declared.moment.KrbMoment.{KrbMoment}
use Rattle.krb_structs.specs.Fault.{IsDone, Needs, fault_code}
use Rattle.krb_structs.specs.Reasons.{NeedsMoment}
use Rattle.krb_calls.specs.declared.frame.KrbFrame.{KrbFrame}
use Rattle.krb_calls.specs.declared.taken.KrbTaken.{KrbTaken}
use Rattle.krb_calls.specs.Takes.{TakesInTurn}

-- the handle holds a receiver, which takes the frames one after another and is this one then
abbrev pub TakesManyTo : Option ReceiverState → KrbMoment → List KrbFrame → List KrbTaken → List ℕ
    → Option ReceiverState → List KrbTaken → List ℕ → Type 0
TakesManyTo None at frames before old_out new told new_out = ⊥
TakesManyTo (Some old) at frames before old_out None told new_out = ⊥
TakesManyTo (Some old) at frames before old_out (Some new) told new_out =
    TakesInTurn old at frames before old_out new told new_out

-- the most frames of one call
abbrev pub most_frames : ℕ
most_frames = 64

-- by a handle: it holds nothing, or the moment is looked at, which is that of all frames
abbrev pub TakeAllAnswer : Option ReceiverState → KrbMoment → ℕ → Type 0
TakeAllAnswer None at = λ code. code ≡ fault_code Empty
TakeAllAnswer (Some s) at = NeedsMoment at IsDone

-- so it is of at most 64 frames
abbrev pub TakeManyAnswer : Option ReceiverState → ℕ → KrbMoment → ℕ → Type 0
TakeManyAnswer receiver count at = Needs (count ≤ most_frames) Argument (TakeAllAnswer receiver at)
