-- Sessions of a stream at a receiver.
use Rattle.std.specs.Prelude.{◌≡◌, ℕ, ◌+◌, ◌==◌, ◌&&◌, nat_le, not, Bool, true, false, List, Option, Some, None, if◌then◌else◌}
use Rattle.std.specs.Str.{bytes_eq}
use Rattle.krb_engine.specs.declared.stream.Head.{Head}
use Rattle.krb_engine.specs.declared.stream.Opening.{Opening}
use Rattle.krb_engine.specs.declared.stream.Judged.{Judged}
use Rattle.krb_engine.specs.declared.stream.Judged.TheVariants.{Begins, Later, Forked}

-- The stream's next session begins if the one before it is closed, and its opening continues what took
-- effect in that one. The first one begins where there is none.
abbrev pub judged : Option Head → Opening → Judged
judged None opening = if opening.turn == 1 then Begins else Later
judged (Some head) opening =
    if nat_le opening.turn head.turn then Forked
    else (if not (opening.turn == head.turn + 1) then Later
    else (if not head.closed then Later
    else (if (opening.before.number == head.took.number) && bytes_eq opening.before.history head.took.history
    then Begins else Forked)))
