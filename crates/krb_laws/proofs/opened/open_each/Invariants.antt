use Rattle.std.specs.Prelude.{◌≡◌, length, take}
use Rattle.krb_peers.specs.Plan.{contents}
use Rattle.krb_laws.specs.OpenedFrames.{OpensEach}
use Rattle.krb_laws.proofs.opened.open_each.Given as goal

abbrev pub invariant-loop-k : goal.invariant-loop-k
invariant-loop-k l =
    OpensEach l.fn.peer l.at (contents (take l.k l.frames)) (take l.k l.answers) l.peer
    × (length l.answers ≡ length l.frames)
