use Rattle.std.proofs.Common.{arith}
use Rattle.std.proofs.lemmas.Grind.{common_steps}
use Rattle.std.proofs.KnownBytes.{Consumes-trans}
use Rattle.krb_commands.proofs.ShowLemmas.{on_err}
use Rattle.krb_commands.proofs.input.read_all.Goals as goal

pub returns-in_err-append-clause-part : goal.returns-in_err-append-clause-part
returns-in_err-append-clause-part g c =
    on_err _ c.from_residual-in_err-append.result (_, Consumes-trans _ _ _ _ _ c.loop-alloc.invariant.0 c.in_ok-count.ensures.bytes.0)

pub returns-clause-too_long : goal.returns-clause-too_long
returns-clause-too_long g c = λ _.
    let long = c.loop-alloc-test.false in
    let invariant = c.loop-alloc.invariant in
    (c.loop-alloc.bytes, invariant.0, grind (arith, common_steps, long, invariant.1))
