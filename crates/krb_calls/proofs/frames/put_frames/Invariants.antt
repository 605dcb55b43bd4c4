use Rattle.krb_calls.proofs.frames.put_frames.Given as goal
use Rattle.krb_calls.proofs.PackedLemmas.{HoldsFirst}

abbrev pub invariant-loop-index : goal.invariant-loop-index
invariant-loop-index l =
    HoldsFirst l.frames l.index l.from l.initial.out l.out l.initial.sizes l.sizes
