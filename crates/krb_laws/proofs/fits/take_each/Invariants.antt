use Rattle.std.specs.Prelude.{◌≡◌, List, All, length, take}
use Rattle.krb_peers.specs.Calls.{Call, AreCalls}
use Rattle.krb_peers.specs.Plan.{contents}
use Rattle.krb_laws.specs.TakenFrames.{AreAnswers, frames_of}
use Rattle.krb_laws.proofs.fits.take_each.Given as goal

abbrev pub invariant-loop-k : goal.invariant-loop-k
invariant-loop-k l =
    ((calls : List Call) × AreCalls l.fn.receiver calls l.receiver
    × (frames_of calls ≡ contents (take l.k l.frames)) × All (λ (call : Call). call.now ≡ l.now) calls
    × AreAnswers (take l.k l.answers) calls)
    × (length l.answers ≡ length l.frames)
