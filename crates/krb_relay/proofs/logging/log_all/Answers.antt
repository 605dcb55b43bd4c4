-- Round after round, until nothing waits.
use Rattle.std.proofs.Common.{refl}
use Rattle.std.proofs.lemmas.Result.{err_from_is_err_and}
use Rattle.krb_relay.proofs.WaitingLemmas.{waits_over}
use Rattle.krb_relay.proofs.logging.log_all.Goals as goal

pub loop-init : goal.loop-init
loop-init g c starts ends receivings w = w

pub log_round-requires : goal.log_round-requires
log_round-requires g c =
    let r = c.requires in
    record { starts = r.starts; ends = r.ends; receivings = r.receivings; waits = c.loop.invariant r.starts r.ends r.receivings r.waits }

pub returns-then-are_empty-clause-ok : goal.returns-then-are_empty-clause-ok
returns-then-are_empty-clause-ok g c starts ends receivings w =
    waits_over _ _ _ _ _ (c.in_ok-log_round.ensures.ok starts ends receivings (c.loop.invariant starts ends receivings w)) (c.if-are_empty.ensures.0 refl)

pub returns-in_err-log_round-clause-err : goal.returns-in_err-log_round-clause-err
returns-in_err-log_round-clause-err g c =
    let p = err_from_is_err_and c.from_residual.result c.from_residual.ensures.1 in
    rw p.1 (λ starts ends receivings w. c.in_err-log_round.ensures.err starts ends receivings (c.loop.invariant starts ends receivings w))
