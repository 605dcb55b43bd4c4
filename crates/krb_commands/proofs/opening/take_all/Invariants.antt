use Rattle.std.proofs.Common.{◌≡◌, take}
use Rattle.krb_commands.proofs.OpenedLemmas.{HasOpened}
use Rattle.krb_commands.proofs.opening.take_all.Given as goal

-- the first frames were taken
abbrev pub invariant-loop-place : goal.invariant-loop-place
invariant-loop-place l =
    HasOpened l.fn.receiving.receiver l.fn.receiving.nows.items (take l.place l.frames) l.receiving.receiver l.log
    × (l.receiving.nows ≡ l.fn.receiving.nows)
