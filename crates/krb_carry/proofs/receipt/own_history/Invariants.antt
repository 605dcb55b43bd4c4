use Rattle.std.proofs.Common.{◌≡◌, map, drop}
use Rattle.krb_carry.specs.History.{with_frames}
use Rattle.krb_carry.proofs.receipt.own_history.Given as goal

-- the rest makes of what was made what all make
abbrev pub invariant-loop-frame : goal.invariant-loop-frame
invariant-loop-frame l =
    with_frames l.history (drop l.frame-index (map (λ frame. frame.now) l.frames))
    ≡ with_frames l.fn.before (map (λ frame. frame.now) l.fn.frames)
