-- After the last lane the next round begins.
use Rattle.std.proofs.Common.{arith}
use Rattle.std.proofs.lemmas.Result.{err_from_is_err_and}
use Rattle.krb_relay.proofs.WaitingLemmas.{waits_next}
use Rattle.krb_relay.proofs.logging.log_round.Goals as goal

pub loop-lane-init : goal.loop-lane-init
loop-lane-init c starts ends receivings w = w

pub log_at-requires-clause-waits : goal.log_at-requires-clause-waits
log_at-requires-clause-waits c =
    let r = c.requires in
    record { starts = r.starts; ends = r.ends; receivings = r.receivings; waits = c.loop-lane.invariant r.starts r.ends r.receivings r.waits }

pub returns-clause-ok : goal.returns-clause-ok
returns-clause-ok c starts ends receivings w = waits_next c.loop-lane.lane _ _ _ _ _ (c.loop-lane.invariant starts ends receivings w) (omega arith)

pub returns-in_err-log_at-clause-err : goal.returns-in_err-log_at-clause-err
returns-in_err-log_at-clause-err c =
    let p = err_from_is_err_and c.from_residual.result c.from_residual.ensures.1 in
    rw p.1 (λ starts ends receivings w. c.in_err-log_at.ensures.err starts ends receivings (c.loop-lane.invariant starts ends receivings w))
