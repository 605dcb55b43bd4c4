use Rattle.std.proofs.Common.{◌≡◌, ◌+◌, length, take}
use Rattle.krb_calls.specs.Packed.{bytes_of}
use Rattle.krb_calls.proofs.frames.have_room.Given as goal

abbrev pub invariant-loop-frame : goal.invariant-loop-frame
invariant-loop-frame l = l.left + length (bytes_of (take l.frame-index l.frames)) ≡ l.room
