-- Without memory for what waits, the round isn't begun.
use Rattle.std.proofs.lemmas.Result.{err_from_is_err_and}
use Rattle.krb_relay.proofs.WaitingLemmas.{stands_stop}
use Rattle.krb_relay.proofs.side_by_side.round_side_by_side.Goals as goal

pub returns-in_err-waiting-clause-err : goal.returns-in_err-waiting-clause-err
returns-in_err-waiting-clause-err g c =
    let p = err_from_is_err_and c.from_residual.result c.from_residual.ensures.1 in
    rw p.1 (stands_stop c.args.starts.now.value.items c.args.ends.now c.args.receivings.now c.args.log.now c.requires)
