-- Each answer is the verdict on the frame, or want of memory.
use Rattle.std.proofs.Common.{rules}
use Rattle.krb_record.specs.Record.{SpellsRecord}
use Rattle.krb_seal.proofs.Checking.{opened_asks}
use Rattle.krb_peers.proofs.ReceiverLemmas.{carried_is, judged_by}
use Rattle.krb_peers.proofs.receiver.Receiver.judge.Goals as goal

pub returns-in-Ok-clause-verdict : goal.returns-in-Ok-clause-verdict
returns-in-Ok-clause-verdict c =
    let user = c.in_ok-user_data.user_data in
    let spelled : SpellsRecord c.in-Ok.record user = search rules in
    carried_is c.args.self.now c.args.now c.args.frame.now user c.in-Ok.record c.from.result c.in_ok-user_data.ensures.open c.in_ok-user_data.ensures.opened spelled c.from.ensures

pub returns-in_err-user_data-clause-verdict : goal.returns-in_err-user_data-clause-verdict
returns-in_err-user_data-clause-verdict c =
    judged_by c.args.self.now c.args.now c.args.frame.now _ c.from_residual.result c.in_err-user_data.ensures.refused c.from_residual.ensures.1

pub returns-in-Err-Memory-clause-memory : goal.returns-in-Err-Memory-clause-memory
returns-in-Err-Memory-clause-memory c = λ e.
    let s = c.args.self.now in
    (c.in_ok-user_data.ensures.open, opened_asks s.opener s.demand.expected c.args.now c.args.frame.now c.in_ok-user_data.user_data c.in_ok-user_data.ensures.opened)
